-- A forecast, what its contract promises, and the theorem: a hold that comes next answers what was forecast.
-- Assumes nothing.
use Rattle.std.specs.Prelude.{◌≡◌, List, ℕ, length, Result}
use Rattle.std.proofs.Math.Option.{some}
use Rattle.refusals.specs.Checks.{first_met}
use Rattle.refusals.specs.Outcomes.{Outcome, outcome}
use Rattle.refusals.specs.declared.Refusal.{Refusal}
use Rattle.index.specs.declared.Settings.{Settings}
use Rattle.calls.specs.Calls.{Said, hold, hold_checks}
use Rattle.table.specs.Answers.{hold_is, Holds}

-- a forecast: the answer is the hold's, moves or number, and every cell is as it was
unfoldable pub forecast : Settings → List ℕ → ℕ → List ℕ → Outcome Said (List ℕ)
forecast s c n tag = outcome (hold s c n tag).answer c

-- what the call promises; scratch is as it was where a check refused it
pub record Forecasts (r : Result ℕ Refusal) (s : Settings) (c c' w w' tag : List ℕ) : Type 0 where
  pub does : outcome (hold_is r) c' ≡ forecast s c (length w) tag
  pub keeps : (n : ℕ) → first_met (hold_checks s c (length w) tag) ≡ some n → w' ≡ w

-- a forecast r, and then a hold r' on the table that it left, with the same settings, the same tag and scratch v of the same length,
-- whatever that holds
pub record HoldForetold : Type 0 where
  pub agrees : (r r' : Result ℕ Refusal) (s : Settings) (c c' c'' w w' v v' tag : List ℕ)
      → Forecasts r s c c' w w' tag → length v ≡ length w → Holds r' s c' c'' v v' tag → r' ≡ r
