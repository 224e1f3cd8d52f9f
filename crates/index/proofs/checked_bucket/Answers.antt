use Rattle.refusals.proofs.HandedOn.{said-on}
use Rattle.index.proofs.Answers.{as_passed, bucket-stopped, bucket-out}
use Rattle.index.proofs.checked_bucket.Goals as goal

pub returns-in_err-passed-clause-refused : goal.returns-in_err-passed-clause-refused
returns-in_err-passed-clause-refused c = said-on _ c.in_err-passed.field-0.0 c.from_residual.ensures.1 _ (bucket-stopped _ c.in_err-passed.ensures.refused _)

pub returns-then-bucket-s-clause-refused : goal.returns-then-bucket-s-clause-refused
returns-then-bucket-s-clause-refused c = let p = c.in_ok-passed in bucket-out _ (as_passed p.passed p.ensures.same) _ c.if-bucket-s.true
