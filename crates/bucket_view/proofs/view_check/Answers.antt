use Rattle.refusals.proofs.HandedOn.{refused-on}
use Rattle.bucket_view.proofs.Checked.{view-stopped, view_out, view_in}
use Rattle.bucket_view.proofs.view_check.Goals as goal

pub returns-in_err-table_check : goal.returns-in_err-table_check
returns-in_err-table_check c =
    refused-on _ c.in_err-table_check.field-0.0 c.from_residual.ensures.1 (view-stopped _ _ _ c.in_err-table_check.ensures)

pub returns-then-bucket-m : goal.returns-then-bucket-m
returns-then-bucket-m c = view_out _ _ _ c.in_ok-table_check.ensures c.if-bucket-m.true

pub returns : goal.returns
returns c = view_in _ _ _ c.in_ok-table_check.ensures c.if-bucket-m.false
