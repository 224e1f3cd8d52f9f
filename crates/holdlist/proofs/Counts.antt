-- A count that a call answers is at most the length of what it leaves, so that a signed number has room for it: for the two writers, the
-- converter and the reader of the packed form.
-- Assumes nothing.
use mathlib.Core.Path.{◌≡◌, sym, ap, subst}
use mathlib.Core.Bool.{Bool, true, false, cond}
use mathlib.Core.Option.{Option, none, some}
use mathlib.Core.List.{List, [], ◌∷◌, ◌++◌}
use Prim.Native.Nat.{ℕ, ◌*◌, ◌^◌, ◌≤◌, ◌<◌}
use native.Mathlib.Nat.{mul-le-mul_left}
use native.Mathlib.Omega.{arith}
use lib.Dec.{eqb}
use lib.ListN.{length, drop, length-append}
use Rattle.lemmas.specs.Bytes.{number_from}
use Rattle.refusals.specs.Checks.{first_met}
use Rattle.std.specs.Prelude.{Result}
use Rattle.std.specs.Result.{ForOk}
use Rattle.refusals.specs.Refusals.{told}
use Rattle.refusals.specs.declared.Refusal.{Refusal}
use Rattle.refusals.specs.Outcomes.{Answer, given, refused, unless, Done, done, Outcome, outcome, keeping}
use Rattle.index.specs.Settings.{former_checks}
use Rattle.index.specs.declared.Settings.{Settings}
use Rattle.calls.specs.Cells.{filled_count}
use Rattle.calls.specs.Calls.{table_checks}
use Rattle.calls.specs.WrittenForms.{write_checks, written}
use Rattle.file_form.specs.Writer.{file_of, write_file}
use Rattle.file_form.specs.Parsed.{answer_of}
use Rattle.file_form.specs.Reader.{read_all}
use Rattle.file_convert.specs.Converter.{plain_bytes, convert_checks, from_file, convert_file}
use Rattle.packed_form.specs.Writer.{packed_of, write_packed}
use Rattle.packed_form.specs.Reader.{with_count, unpack, length_checks, read_packed}

-- what a call answers, if it counts, is within what it leaves
abbrev Within : Answer ℕ → List ℕ → Type 0
Within (given n) l = n ≤ length l
Within (refused k) l = Unit {0}

pub record Counts (x : Outcome ℕ (List ℕ)) : Type 0 where
  pub within : Within x.answer x.leaves

-- ── the two writers ──
written-counts : (s : Settings) (c bytes out : List ℕ) → Counts (written s c bytes out)
unfolding written
written-counts s c bytes out = go (first_met (write_checks s c (length out) (length bytes)))
  where
    go : (o : Option ℕ) → Counts (keeping out (unless o (given (done (length bytes) (bytes ++ drop (length bytes) out)))))
    go (some k) = record { within = tt }
    go none = record { within = omega (arith, length-append bytes (drop (length bytes) out)) }

pub file-counts : (s : Settings) (c out : List ℕ) → Counts (write_file s c out)
unfolding write_file
file-counts s c out = written-counts s c (file_of s c) out

pub packed-counts : (s : Settings) (c out : List ℕ) → Counts (write_packed s c out)
unfolding write_packed
packed-counts s c out = written-counts s c (packed_of s c) out

-- ── the converter ──
pub converted-counts : (bytes out : List ℕ) → Counts (convert_file bytes out)
unfolding convert_file
converted-counts bytes out = go (answer_of (read_all former_checks bytes))
  where
    by : (o : Option ℕ) → Counts (keeping out (unless o (given (done (length (plain_bytes bytes)) (plain_bytes bytes ++ drop (length (plain_bytes bytes)) out)))))
    by (some k) = record { within = tt }
    by none = record { within = omega (arith, length-append (plain_bytes bytes) (drop (length (plain_bytes bytes)) out)) }

    go : (a : Answer (Done Settings (List ℕ))) → Counts (keeping out (from_file (plain_bytes bytes) out a))
    go (refused k) = record { within = tt }
    go (given d) = by (first_met (convert_checks d.says (length out) (length (plain_bytes bytes))))

-- ── the reader of the packed form ──
one_at_most : (t : Bool) → cond t 0 1 ≤ 1
one_at_most true = omega arith
one_at_most false = omega arith

filled-below : (l : List ℕ) → filled_count l ≤ length l
filled-below [] = omega arith
filled-below (v ∷ l) = omega (arith, one_at_most (eqb v 0), filled-below l)

pub unpacked-counts : (s : Settings) (bytes c : List ℕ) → Counts (read_packed s bytes c)
unfolding read_packed
unpacked-counts s bytes c = go (first_met (table_checks s c ++ length_checks s bytes)) (unpack s.width s.buckets (number_from bytes))
  where
    go : (o : Option ℕ) (u : Answer (List ℕ)) → Counts (keeping c (unless o (with_count u)))
    go (some k) u = record { within = tt }
    go none (refused k) = record { within = tt }
    go none (given k) = record { within = filled-below k }

-- ── a count that is told is within what is left of a buffer, and that has room: m elements of a size are no more than memory ──
pub room : (r : Result ℕ Refusal) (size : ℕ) {m : ℕ} {left : List ℕ} {x : Outcome ℕ (List ℕ)} → 1 ≤ size → length left ≡ m → m * size < 2 ^ 63
    → outcome (told r) left ≡ x → Counts x → ForOk r (λ n. n < 2 ^ 63)
room r size {m = m} {left = left} s k b e h = λ n q.
    let w : n ≤ length left = subst (λ (a : Answer ℕ). Within a left) (ap told q) (subst Counts (sym e) h).within in
    omega (arith, mul-le-mul_left m s)
