-- The refusals by name, each with document 01's number, and what a call's `Result` says by them.
-- Assumes nothing.
use Rattle.std.specs.Prelude.{ℕ, Result, Ok, Err}
use Rattle.std.proofs.Math.Option.{Option, none, some}
use Rattle.refusals.specs.Outcomes.{Answer, refused, given}
use Rattle.refusals.specs.declared.Refusal.{Refusal}

abbrev pub number_told : Refusal → ℕ
number_told Refusal.Rule = 1
number_told Refusal.Width = 2
number_told Refusal.BucketCount = 3
number_told Refusal.Mask = 4
number_told Refusal.Cells = 5
number_told Refusal.Scratch = 6
number_told Refusal.Tag = 7
number_told Refusal.Bucket = 8
number_told Refusal.Full = 9
number_told Refusal.EndsEarly = 11
number_told Refusal.Header = 12
number_told Refusal.Marks = 13
number_told Refusal.Fingerprint = 14
number_told Refusal.GoesOn = 15
number_told Refusal.Output = 16
number_told Refusal.WideCell = 17
number_told Refusal.Row = 18
number_told Refusal.Order = 19
number_told Refusal.Filling = 20
number_told Refusal.EarlierKind = 23
number_told Refusal.NotDegenerate = 24

-- what a checking call says: the number of the check that is met first, if one is
abbrev pub refused_by : Result (Unit {0}) Refusal → Option ℕ
refused_by (Ok x) = none
refused_by (Err e) = some (number_told e)

-- what a call answers, its value as `f` has it
abbrev pub told_by : {A B : Type 0} → (A → B) → Result A Refusal → Answer B
told_by f (Ok a) = given (f a)
told_by f (Err e) = refused (number_told e)

-- the same with the value as it is
abbrev pub told : {A : Type 0} → Result A Refusal → Answer A
told (Ok a) = given a
told (Err e) = refused (number_told e)
