-- A call whose checks all have numbers above 0 is refused with such a number.
-- Assumes nothing.
use mathlib.Core.Bool.{Bool, true, false, cond}
use mathlib.Core.Option.{some}
use mathlib.Core.List.{List, [], ◌∷◌}
use Rattle.refusals.specs.Checks.{Check, first_met, Numbered}
use Rattle.refusals.specs.Outcomes.{Answer, refused, given, unless, Done, keeping}
use Rattle.refusals.specs.Positive.{Positive, PositiveLaws}

checked : {A : Type 0} (l : List Check) (a : Answer A) → Numbered l → Positive a → Positive (unless (first_met l) a)
checked [] a N h = h
checked (c ∷ l) a N h = go c.met (checked l a N.1 h)
  where
    go : (b : Bool) → Positive (unless (first_met l) a) → Positive (unless (cond b (some c.number) (first_met l)) a)
    go true r = N.0
    go false r = r

whole : {A B : Type 0} (b : B) (a : Answer (Done A B)) → Positive a → Positive (keeping b a).answer
whole b (refused n) h = h
whole b (given d) h = tt

pub positive-laws : PositiveLaws
positive-laws = record { checked = checked; whole = whole }
