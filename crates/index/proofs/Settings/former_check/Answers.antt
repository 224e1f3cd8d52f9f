use Rattle.std.proofs.Common.{sym}
use Rattle.refusals.proofs.HandedOn.{refused-on}
use Rattle.index.proofs.Refusals.{refused-before, rule-low, is-four, is_none}
use Rattle.index.proofs.Settings.former_check.Goals as goal

pub returns-in_err-check_form : goal.returns-in_err-check_form
returns-in_err-check_form c = refused-on _ c.in_err-check_form.field-0.0 c.from_residual.ensures.1 (refused-before _ c.in_err-check_form.ensures)

pub mask_limit-requires : goal.mask_limit-requires
mask_limit-requires c = (rule-low _ (sym c.in_ok-check_form.ensures)).0

pub returns-then-self-mask_limit : goal.returns-then-self-mask_limit
returns-then-self-mask_limit c = is-four _ c.in_ok-check_form.ensures c.mask_limit.ensures c.if-self-mask_limit.true

pub returns : goal.returns
returns c = is_none _ c.in_ok-check_form.ensures c.mask_limit.ensures c.if-self-mask_limit.false
