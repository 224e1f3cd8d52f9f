use Rattle.refusals.proofs.HandedOn.{said-on}
use Rattle.index.proofs.Settings.passed.Goals as goal

pub returns-in_err-check-clause-refused : goal.returns-in_err-check-clause-refused
returns-in_err-check-clause-refused c = said-on _ c.in_err-check.field-0.0 c.from_residual.ensures.1 _ c.in_err-check.ensures
