-- Contracts of the functions inside: the writer's and the reader's definitions, cut where the code is cut.
-- Assumes nothing.
use Rattle.std.specs.Prelude.{◌≡◌, Bool, true, false, cond, List, [], ℕ, ◌+◌, ◌*◌, drop, get_or, Option, Some, None, Result, Ok, Err}
use Rattle.std.proofs.Math.Option.{Option as Found, none, some}
use Rattle.refusals.specs.Refusals.{number_told}
use Rattle.refusals.specs.declared.Refusal.{Refusal}
use Rattle.file_form.specs.Writer.{bucket_bytes}
use Rattle.file_form.specs.Parsed.{Parsed, stop, next}
use Rattle.file_form.specs.Bytes.{bit0, bit1, bit2, bit3}
use Rattle.file_form.specs.Reader.{read_bucket}

-- ── writing ──
-- the bytes of the bucket of four cells
abbrev pub bytes_of_bucket : List ℕ → List ℕ
bytes_of_bucket c = bucket_bytes (get_or c 0 0) (get_or c 1 0) (get_or c 2 0) (get_or c 3 0)

-- what may be changed behind a cell or a bucket, where more is still to be stored there
abbrev pub slack : Bool → ℕ
slack ahead = cond ahead 2 0

-- ── reading: a place in the bytes l stands for the bytes from there on ──
abbrev pub field_is : List ℕ → Option (ℕ × ℕ) → Parsed ℕ
field_is l (Some (v, at)) = next v (drop at l)
field_is l None = stop 11

abbrev pub pass_is : List ℕ → Result ℕ Refusal → Parsed (Unit {0})
pass_is l (Ok at) = next tt (drop at l)
pass_is l (Err e) = stop (number_told e)

-- the number at which a reading stops, if it does
abbrev pub stop_of : {A : Type 0} → Parsed A → Found ℕ
stop_of (stop n) = some n
stop_of (next a rest) = none

-- two bytes from a place on, as a number
abbrev pub pair_from : List ℕ → ℕ → ℕ
pair_from l at = get_or l at 0 + 256 * get_or l (at + 1) 0

-- a cell, marked or not
abbrev pub cell_from : List ℕ → ℕ → Bool → ℕ
cell_from l at stands = cond stands (pair_from l at) 0

-- a bucket's bytes, by the one that marks its cells
abbrev pub bucket_size : ℕ → ℕ
bucket_size m = 1 + cond (bit0 m) 2 0 + cond (bit1 m) 2 0 + cond (bit2 m) 2 0 + cond (bit3 m) 2 0

-- where a reading ends, without what it gives; whether it gives anything; and what
abbrev pub end_of : {A : Type 0} → Parsed A → Parsed (Unit {0})
end_of (stop n) = stop n
end_of (next c end) = next tt end

abbrev pub GivesCells : Parsed (List ℕ) → Type 0
GivesCells (stop n) = ⊥
GivesCells (next c end) = Unit {0}

abbrev pub cells_read : Parsed (List ℕ) → List ℕ
cells_read (stop n) = []
cells_read (next c end) = c

-- a good bucket stands at a place, where that is said
abbrev pub GoodAt : ℕ → List ℕ → ℕ → Bool → Type 0
GoodAt w l at true = end_of (read_bucket w (drop at l)) ≡ next tt (drop (at + bucket_size (get_or l at 0)) l)
GoodAt w l at false = Unit {0}
