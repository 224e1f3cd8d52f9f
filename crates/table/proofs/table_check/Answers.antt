use mathlib.Core.Path.{sym}
use Rattle.refusals.proofs.HandedOn.{refused-on}
use Rattle.calls.proofs.Laws.{table-check-laws}
use Rattle.table.proofs.table_check.Goals as goal

pub returns-in_err-check : goal.returns-in_err-check
returns-in_err-check c = refused-on _ c.in_err-check.field-0.0 c.from_residual.ensures.1 (sym ((table-check-laws _ _).by_settings _ (sym c.in_err-check.ensures)))

pub returns-then-table-m : goal.returns-then-table-m
returns-then-table-m c = sym ((table-check-laws _ _).by_size (sym c.in_ok-check.ensures) c.if-table-m.true)

pub returns : goal.returns
returns c = sym ((table-check-laws _ _).passes (record { settings = sym c.in_ok-check.ensures; size = c.if-table-m.false }))
