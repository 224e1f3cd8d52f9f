use mathlib.Core.Path.{sym, ap, ◌∙◌}
use Rattle.calls.specs.Cells.{filled_count}
use Rattle.refusals.specs.Outcomes.{given}
use Rattle.refusals.proofs.Cursor.{is-refused, goes_on}
use Rattle.packed_form.proofs.Laws.{packed-laws}
use Rattle.packed_form.specs.Reader.{bucket_from, descends}
use Rattle.packed.proofs.Unpacker.check_code.Goals as goal

pub returns-then-code-ge3876 : goal.returns-then-code-ge3876
returns-then-code-ge3876 c =
    let a = c.args in
    let w = a.self.width.bits in
    is-refused (given (filled_count (bucket_from w a.code))) (packed-laws.row_refused w a.code c.if-code-ge3876.true)

pub returns-then-descending : goal.returns-then-descending
returns-then-descending c =
    let a = c.args in
    let w = a.self.width.bits in
    let order = ap descends (sym c.bucket_from-f.ensures) ∙ sym c.descending.ensures in
    is-refused (given (filled_count (bucket_from w a.code))) (packed-laws.order_refused w a.code c.if-code-ge3876.false (order ∙ c.if-descending.true))

pub returns : goal.returns
returns c =
    let a = c.args in
    let w = a.self.width.bits in
    let order = ap descends (sym c.bucket_from-f.ensures) ∙ sym c.descending.ensures in
    ap given (c.filled.ensures ∙ ap filled_count c.bucket_from-f.ensures)
    ∙ goes_on (given (filled_count (bucket_from w a.code))) (packed-laws.bucket_passes w a.code c.if-code-ge3876.false (order ∙ c.if-descending.false))
