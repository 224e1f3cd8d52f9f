-- After a hold file is read: whatever file was accepted, every list of calls is answered as by the entries in it.
-- Assumes nothing.
use Rattle.std.specs.Prelude.{◌≡◌, List, ℕ, ◌*◌, length, take}
use Rattle.refusals.specs.Outcomes.{given, outcome}
use Rattle.index.specs.Settings.{Representable}
use Rattle.index.specs.declared.Settings.{Settings}
use Rattle.calls.specs.Model.{Call}
use Rattle.calls.specs.Demand.{entries, Demand3From}
use Rattle.file_form.specs.Writer.{write_file}
use Rattle.file_form.specs.Reader.{read_file}

pub record ReadGoesOn : Type 0 where
  -- whatever bytes are accepted, and whatever the lent table held: the model begins with the entries of the cells that were read
  pub accepted : (bytes t c : List ℕ) (s : Settings) → read_file bytes t ≡ outcome (given s) c → (l : List Call) → Demand3From s c (entries s c) l
  -- and over the writer: if it answers n, the reader given the first n bytes of its output leaves a table that goes on as the entries of
  -- the table that was written
  pub saved : (s : Settings) (c out k t : List ℕ) (n : ℕ) → Representable s → write_file s c out ≡ outcome (given n) k → length t ≡ 4 * s.buckets
      → (l : List Call) → Demand3From s (read_file (take n k) t).leaves (entries s c) l
