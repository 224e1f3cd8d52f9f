use Rattle.std.proofs.Common.{◌∙◌, ap}
use Rattle.refusals.proofs.HandedOn.{told-on}
use Rattle.index.specs.Candidates.{offset}
use Rattle.index.specs.declared.Settings.{Settings}
use Rattle.index.proofs.Answers.{as_passed, offset-refused, offset-given}
use Rattle.index.proofs.offset.Goals as goal

pub returns-in_err-passed : goal.returns-in_err-passed
returns-in_err-passed c = told-on _ c.in_err-passed.field-0.0 c.from_residual.ensures.1 (offset-refused _ c.in_err-passed.ensures.refused _)

pub returns : goal.returns
returns c =
    let p = c.in_ok-passed in
    offset-given _ (as_passed p.field-0 p.ensures.same) _ (c.offset.ensures ∙ ap (λ (s : Settings). offset s c.args.fingerprint) p.ensures.same)
