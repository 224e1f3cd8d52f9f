use Prim.Native.Nat.{◌-◌}
use native.Mathlib.Omega.{arith}
use Rattle.table.proofs.Walks.{path-short, moves-on, moves-end}
use Rattle.table.proofs.search.relocate.Goals as goal

pub overflow_add-moves : goal.overflow_add-moves
overflow_add-moves c =
    let sp = c.args.queue.now.sparse in
    omega (arith, path-short sp c.args.roots c.requires.some_root.0 (c.args.queue.now.tail - 1) (omega arith), c.loop-at.invariant.counted, sp.count, sp.small)

pub loop-at-preserved : goal.loop-at-preserved
loop-at-preserved c =
    moves-on c.args.queue.now.sparse _ c.requires.some_root.0 c.loop-at.invariant c.loop-at-test.true (omega arith)
    c.origin_of-from.result _ (omega (arith, c.origin_of-from.ensures.0, c.requires.free_inside.0)) c.origin_of-from.ensures.1 c.parent_of-at.ensures.1 c.write_cell.auto.table c.write_cell.ensures

pub returns-clause-table_after : goal.returns-clause-table_after
returns-clause-table_after c =
    (moves-end c.args.queue.now.sparse _ c.requires.some_root.0 c.loop-at.invariant c.loop-at-test.false _ c.write_cell-2.ensures).0

pub returns-clause-value : goal.returns-clause-value
returns-clause-value c =
    (moves-end c.args.queue.now.sparse _ c.requires.some_root.0 c.loop-at.invariant c.loop-at-test.false _ c.write_cell-2.ensures).1
