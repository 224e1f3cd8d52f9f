-- What reading a part of a file gives, and how one part follows another.
-- Assumes nothing.
use Rattle.std.specs.Prelude.{Bool, true, false, List, ℕ}
use Rattle.std.proofs.Math.Option.{Option, none, some}
use Rattle.refusals.specs.Outcomes.{Answer, refused, given}

-- the value and the bytes after it, or the number by which the file is refused
pub data Parsed (A : Type 0) : Type 0 where
  stop : ℕ → Parsed A
  next : A → List ℕ → Parsed A

abbrev pub and_then : {A B : Type 0} → Parsed A → (A → List ℕ → Parsed B) → Parsed B
and_then (stop n) f = stop n
and_then (next a rest) f = f a rest

-- a number in the place of the rest of the reading, where a condition is met
abbrev pub refuse_if : {A : Type 0} → Bool → ℕ → Parsed A → Parsed A
refuse_if true n r = stop n
refuse_if false n r = r

-- the same of a list of checks
abbrev pub checked : {A : Type 0} → Option ℕ → Parsed A → Parsed A
checked none r = r
checked (some n) r = stop n

-- what a call answers by it
abbrev pub answer_of : {A : Type 0} → Parsed A → Answer A
answer_of (stop n) = refused n
answer_of (next a rest) = given a
