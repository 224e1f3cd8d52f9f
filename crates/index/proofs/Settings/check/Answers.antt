use Rattle.std.proofs.Common.{sym, ◌∙◌}
use Rattle.refusals.proofs.HandedOn.{refused-on}
use Rattle.index.proofs.Refusals.{refused-still, rule-low, range-four, range_none}
use Rattle.index.proofs.Settings.check.Goals as goal

pub returns-in_err-check_form : goal.returns-in_err-check_form
returns-in_err-check_form c = refused-on _ c.in_err-check_form.field-0.0 c.from_residual.ensures.1 (refused-still _ c.in_err-check_form.ensures)

pub mask_refused-requires : goal.mask_refused-requires
mask_refused-requires c = rule-low _ (sym c.in_ok-check_form.ensures)

pub returns-then-mask_refused : goal.returns-then-mask_refused
returns-then-mask_refused c = range-four _ c.in_ok-check_form.ensures (sym c.mask_refused.ensures ∙ c.if-mask_refused.true)

pub returns : goal.returns
returns c = range_none _ c.in_ok-check_form.ensures (sym c.mask_refused.ensures ∙ c.if-mask_refused.false)
