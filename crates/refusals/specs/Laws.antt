-- What holds of every refusal, whatever the call.
-- Assumes nothing.
use Rattle.std.specs.Prelude.{◌≡◌, true, List, ◌∷◌, ◌++◌, ℕ}
use Rattle.std.proofs.Math.Option.{none, some}
use Rattle.refusals.specs.Checks.{Check, first_met}
use Rattle.refusals.specs.Outcomes.{Answer, refused, unless, Done, keeping}

pub record RefusalLaws : Type 1 where
  -- of several conditions that are met the first gives the number
  pub first : (before after : List Check) (c : Check) → first_met before ≡ none → c.met ≡ true → first_met (before ++ (c ∷ after)) ≡ some c.number
  -- a condition that is met refuses the call, whatever it would do
  pub refuses : {A B : Type 0} (l : List Check) (n : ℕ) (b : B) (a : Answer (Done A B)) → first_met l ≡ some n → (keeping b (unless (first_met l) a)).answer ≡ refused n
  -- whoever is refused finds all as it was
  pub keeps : {A B : Type 0} (n : ℕ) (b : B) (a : Answer (Done A B)) → (keeping b a).answer ≡ refused n → (keeping b a).leaves ≡ b

-- a place in a call's list of checks: no check before it is met, so that what is left of the list decides
pub record Reached (all left : List Check) : Type 0 where
  pub decides : first_met all ≡ first_met left
