use Rattle.std.proofs.Common.{◌∙◌, ap}
use Rattle.refusals.specs.Outcomes.{given}
use Rattle.refusals.proofs.HandedOn.{told-on}
use Rattle.index.proofs.Answers.{as_passed, checked-passed, checked_refused}
use Rattle.index.proofs.Settings.new.Goals as goal

pub returns-in_err-passed-clause-result_value : goal.returns-in_err-passed-clause-result_value
returns-in_err-passed-clause-result_value c = told-on _ c.in_err-passed.field-0.0 c.from_residual.ensures.1 (checked_refused _ c.in_err-passed.ensures.refused)

pub returns-clause-result_value : goal.returns-clause-result_value
returns-clause-result_value c = let p = c.in_ok-passed in ap given p.ensures.same ∙ checked-passed _ (as_passed p.field-0 p.ensures.same)
