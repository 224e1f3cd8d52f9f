-- What a call answers, and what it leaves of what it was lent. One combinator makes the end of every call: where the call is refused,
-- what was lent is as it was.
-- Assumes nothing.
use Rattle.std.proofs.Math.Option.{Option, none, some}
use Rattle.std.specs.Prelude.{ℕ}

-- what a call answers: the number of its refusal, or its values
pub data Answer (A : Type 0) : Type 0 where
  refused : ℕ → Answer A
  given : A → Answer A

-- the refusal by a check if there is one, else what the call comes to
abbrev pub unless : {A : Type 0} → Option ℕ → Answer A → Answer A
unless none a = a
unless (some n) a = refused n

-- what a call that nothing refuses says, and what it leaves
pub record Done (A B : Type 0) : Type 0 where
  pub says : A
  pub leaves : B

abbrev pub done : {A B : Type 0} → A → B → Done A B
done a b = record { says = a; leaves = b }

-- the end of a call: its answer, and what was lent as it then is
pub record Outcome (A B : Type 0) : Type 0 where
  pub answer : Answer A
  pub leaves : B

abbrev pub outcome : {A B : Type 0} → Answer A → B → Outcome A B
outcome a b = record { answer = a; leaves = b }

-- a refused call keeps what it was lent
abbrev pub keeping : {A B : Type 0} → B → Answer (Done A B) → Outcome A B
keeping b (refused n) = outcome (refused n) b
keeping b (given d) = outcome (given d.says) d.leaves
