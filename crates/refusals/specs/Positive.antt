-- The number of a refusal is above 0, so that it can be told from an answer where both are one number.
-- Assumes nothing.
use Rattle.std.specs.Prelude.{List, ◌<◌}
use Rattle.refusals.specs.Checks.{Check, first_met, Numbered}
use Rattle.refusals.specs.Outcomes.{Answer, refused, given, unless, Done, keeping}

abbrev pub Positive : {A : Type 0} → Answer A → Type 0
Positive (refused n) = 0 < n
Positive (given a) = Unit {0}

pub record PositiveLaws : Type 1 where
  -- a list of checks of which none has the number 0, and then whatever the call comes to
  pub checked : {A : Type 0} (l : List Check) (a : Answer A) → Numbered l → Positive a → Positive (unless (first_met l) a)
  -- and so of the whole call
  pub whole : {A B : Type 0} (b : B) (a : Answer (Done A B)) → Positive a → Positive (keeping b a).answer
