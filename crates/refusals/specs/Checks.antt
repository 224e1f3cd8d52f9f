-- Refusals: every call has a list of conditions, each with its number, and the first that is met refuses the call.
-- Assumes nothing.
use Rattle.std.specs.Prelude.{Bool, cond, List, [], ◌∷◌, ℕ, ◌<◌}
use Rattle.std.proofs.Math.Option.{Option, none, some}

-- one row of the table under "Checks, by place"
pub record Check : Type 0 where
  pub number : ℕ
  pub met : Bool

abbrev pub check : ℕ → Bool → Check
check n b = record { number = n; met = b }

-- the number of the first condition that is met
abbrev pub first_met : List Check → Option ℕ
first_met [] = none
first_met (c ∷ cs) = cond c.met (some c.number) (first_met cs)

-- the number as a checking call answers it: 0 where nothing is met
abbrev pub number_of : Option ℕ → ℕ
number_of none = 0
number_of (some n) = n

-- no condition of the list has the number 0, so that 0 does say that nothing is met
abbrev pub Numbered : List Check → Type 0
Numbered [] = Unit {0}
Numbered (c ∷ cs) = (0 < c.number) × Numbered cs
