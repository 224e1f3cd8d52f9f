-- After a packed form is read: whatever bytes were accepted, every list of calls is answered as by the entries in them.
-- Assumes nothing.
use Rattle.std.specs.Prelude.{◌≡◌, List, map, ℕ, ◌*◌, length, take}
use Rattle.refusals.specs.Outcomes.{given, outcome}
use Rattle.index.specs.declared.Settings.{Settings}
use Rattle.calls.specs.Model.{Call}
use Rattle.calls.specs.Demand.{run, entries, forget, Demand3From}
use Rattle.packed_form.specs.Writer.{write_packed}
use Rattle.packed_form.specs.Reader.{read_packed}

pub record UnpackedGoesOn : Type 0 where
  -- whatever bytes are accepted, and whatever the lent table held: the model begins with the entries of the cells that were read
  pub accepted : (s : Settings) (bytes t c : List ℕ) (n : ℕ) → read_packed s bytes t ≡ outcome (given n) c → (l : List Call) → Demand3From s c (entries s c) l
  -- of which there are as many as the reader answered
  pub count : (s : Settings) (bytes t c : List ℕ) (n : ℕ) → read_packed s bytes t ≡ outcome (given n) c → n ≡ length (entries s c)
  -- and over the writer: if it answers n, the reader given the first n bytes of its output leaves a table that goes on as the entries of
  -- the table that was packed, though its buckets are sorted now
  pub saved : (s : Settings) (c out k t : List ℕ) (n : ℕ) → write_packed s c out ≡ outcome (given n) k → length t ≡ 4 * s.buckets
      → (l : List Call) → Demand3From s (read_packed s (take n k) t).leaves (entries s c) l
  -- so that every call is answered as the table that was packed would have answered it, but for the moves
  pub as_before : (s : Settings) (c out k t : List ℕ) (n : ℕ) → write_packed s c out ≡ outcome (given n) k → length t ≡ 4 * s.buckets
      → (l : List Call) → map forget (run s (read_packed s (take n k) t).leaves l).replies ≡ map forget (run s c l).replies
