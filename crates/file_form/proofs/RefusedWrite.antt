-- A writing of the hold file that is refused leaves the output as it was.
-- Assumes nothing.
use mathlib.Core.Path.{◌≡◌}
use mathlib.Core.List.{List, ◌++◌}
use Prim.Native.Nat.{ℕ}
use lib.ListN.{length, drop}
use Rattle.refusals.specs.Checks.{first_met}
use Rattle.refusals.specs.Outcomes.{refused, given, unless, done}
use Rattle.refusals.proofs.Laws.{refusal-laws}
use Rattle.index.specs.declared.Settings.{Settings}
use Rattle.calls.specs.WrittenForms.{write_checks, written}
use Rattle.file_form.specs.Writer.{file_of, write_file}
use Rattle.file_form.specs.RefusedWrite.{RefusedWriteKeeps}

keeps : (s : Settings) (c out : List ℕ) (n : ℕ) → (write_file s c out).answer ≡ refused n → (write_file s c out).leaves ≡ out
unfolding write_file written
keeps s c out n e =
    let bytes = file_of s c in
    refusal-laws.keeps n out (unless (first_met (write_checks s c (length out) (length bytes))) (given (done (length bytes) (bytes ++ drop (length bytes) out)))) e

pub refused-write-keeps : RefusedWriteKeeps
refused-write-keeps = record { keeps = keeps }
