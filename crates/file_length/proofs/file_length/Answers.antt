use Prim.Native.Nat.{◌≤◌, ◌<◌, ◌^◌}
use borrow.Author.Tests.{le-leb, lt-leb}
use lib.Pow.{pow_pos}
use mathlib.Core.Path.{sym, ap, ◌∙◌}
use native.Mathlib.Omega.{arith}
use Rattle.lemmas.proofs.Powers.{one_shifted}
use Rattle.refusals.specs.Outcomes.{given}
use Rattle.refusals.proofs.HandedOn.{told-on}
use Rattle.index.proofs.Laws.{laws}
use Rattle.calls.proofs.Laws.{table-check-laws}
use Rattle.file_form.proofs.Sizes.{file-length-laws}
use Rattle.file_length.proofs.Passes.{counted}
use Rattle.file_length.proofs.file_length.Goals as goal

pub returns-in_err-table_check : goal.returns-in_err-table_check
returns-in_err-table_check c = let a = c.args in told-on _ c.in_err-table_check.field-0.0 c.from_residual.ensures.1 ((file-length-laws a.s a.table.now).stopped c.in_err-table_check.ensures)

pub cells_seen-top-requires : goal.cells_seen-top-requires
cells_seen-top-requires c =
    let S = (table-check-laws c.args.s c.args.table.now).sound (sym c.in_ok-table_check.ensures) in
    omega (arith, S.size, (laws _ S.settings).few_buckets)

pub overflow_shl-s : goal.overflow_shl-s
overflow_shl-s c =
    let S = (table-check-laws c.args.s c.args.table.now).sound (sym c.in_ok-table_check.ensures) in
    omega (arith, (laws _ S.settings).width_high)

pub returns-then-from-s : goal.returns-then-from-s
returns-then-from-s c =
    let a = c.args in
    let S = (table-check-laws a.s a.table.now).sound (sym c.in_ok-table_check.ensures) in
    let h : 2 ^ a.s.width ≤ c.cells_seen-top.result.0 = omega (arith, one_shifted a.s.width 32 (omega (arith, (laws _ S.settings).width_high)), c.from.ensures, c.if-from-s.true) in
    (file-length-laws a.s a.table.now).wide S (c.cells_seen-top.ensures.top _ (pow_pos a.s.width) ∙ le-leb (2 ^ a.s.width) c.cells_seen-top.result.0 h)

pub overflow_mul-result : goal.overflow_mul-result
overflow_mul-result c =
    let k = counted c.args.s c.args.table.now (sym c.in_ok-table_check.ensures) in
    omega (arith, k.parts, k.most, c.cells_seen-top.ensures.filled)

pub overflow_add-result : goal.overflow_add-result
overflow_add-result c =
    let k = counted c.args.s c.args.table.now (sym c.in_ok-table_check.ensures) in
    omega (arith, k.parts, k.most, c.cells_seen-top.ensures.filled, c.header_size-header.ensures)

pub overflow_add-result-2 : goal.overflow_add-result-2
overflow_add-result-2 c =
    let k = counted c.args.s c.args.table.now (sym c.in_ok-table_check.ensures) in
    omega (arith, k.parts, k.most, c.cells_seen-top.ensures.filled, c.header_size-header.ensures)

pub returns : goal.returns
returns c =
    let a = c.args in
    let S = (table-check-laws a.s a.table.now).sound (sym c.in_ok-table_check.ensures) in
    let k = counted a.s a.table.now (sym c.in_ok-table_check.ensures) in
    let h : c.cells_seen-top.result.0 < 2 ^ a.s.width = omega (arith, one_shifted a.s.width 32 (omega (arith, (laws _ S.settings).width_high)), c.from.ensures, c.if-from-s.false) in
    ap given (omega (arith, k.parts, c.cells_seen-top.ensures.filled, c.header_size-header.ensures))
    ∙ (file-length-laws a.s a.table.now).gives S (c.cells_seen-top.ensures.top _ (pow_pos a.s.width) ∙ lt-leb (2 ^ a.s.width) c.cells_seen-top.result.0 h)
