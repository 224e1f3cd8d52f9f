-- A writing of the hold file that is refused leaves the output as it was.
-- Assumes nothing.
use Rattle.std.specs.Prelude.{◌≡◌, List, ℕ}
use Rattle.refusals.specs.Outcomes.{refused}
use Rattle.index.specs.declared.Settings.{Settings}
use Rattle.file_form.specs.Writer.{write_file}

pub record RefusedWriteKeeps : Type 0 where
  pub keeps : (s : Settings) (c out : List ℕ) (n : ℕ) → (write_file s c out).answer ≡ refused n → (write_file s c out).leaves ≡ out
