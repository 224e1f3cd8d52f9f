-- What the calls answer: for each case of an answer's type what document 01 says there, and what a hold's contract promises.
-- Assumes nothing.
use Rattle.std.specs.Prelude.{◌≡◌, List, ℕ, length, Result}
use Rattle.std.proofs.Math.Option.{some}
use Rattle.refusals.specs.Checks.{first_met}
use Rattle.refusals.specs.Outcomes.{Answer, outcome}
use Rattle.refusals.specs.Refusals.{told_by}
use Rattle.refusals.specs.declared.Refusal.{Refusal}
use Rattle.index.specs.declared.Settings.{Settings}
use Rattle.calls.specs.Calls.{Said, cleared, released, absent, accepted, copies, hold, hold_checks}
use Rattle.table.specs.declared.Removal.{Removal}

abbrev pub clear_is : Result (Unit {0}) Refusal → Answer Said
clear_is r = told_by (λ _. cleared) r

abbrev pub lookup_is : Result ℕ Refusal → Answer Said
lookup_is r = told_by copies r

abbrev pub release_said : Removal → Said
release_said Removal.Released = released
release_said Removal.Absent = absent

abbrev pub release_is : Result Removal Refusal → Answer Said
release_is r = told_by release_said r

-- the value is the number of entries that moved
abbrev pub hold_is : Result ℕ Refusal → Answer Said
hold_is r = told_by accepted r

-- a hold: its answer and every cell, and scratch as it was where a check refused the call
pub record Holds (r : Result ℕ Refusal) (s : Settings) (c c' w w' tag : List ℕ) : Type 0 where
  pub does : outcome (hold_is r) c' ≡ hold s c (length w) tag
  pub keeps : (n : ℕ) → first_met (hold_checks s c (length w) tag) ≡ some n → w' ≡ w
