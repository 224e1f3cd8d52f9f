-- The length of a hold file is told beforehand: whatever output the writer is then lent for the same settings and table, it does what the
-- length says. `proofs/Foretold.antt` proves it.
-- Assumes nothing.
use Rattle.std.specs.Prelude.{◌≡◌, List, ◌++◌, ℕ, ◌≤◌, ◌<◌, length, drop}
use Rattle.refusals.specs.Outcomes.{refused, given, outcome}
use Rattle.index.specs.declared.Settings.{Settings}
use Rattle.file_form.specs.Writer.{file_of, write_file, length_of_file}

pub record LengthForetold : Type 0 where
  -- where there is a length, the writer answers it, and 16 exactly if the output is shorter
  pub fits : (s : Settings) (c out : List ℕ) (n : ℕ) → length_of_file s c ≡ given n → n ≤ length out → write_file s c out ≡ outcome (given n) (file_of s c ++ drop n out)
  pub short : (s : Settings) (c out : List ℕ) (n : ℕ) → length_of_file s c ≡ given n → length out < n → write_file s c out ≡ outcome (refused 16) out
  -- a length that is refused is the writer's refusal
  pub refuses : (s : Settings) (c out : List ℕ) (n : ℕ) → length_of_file s c ≡ refused n → write_file s c out ≡ outcome (refused n) out
