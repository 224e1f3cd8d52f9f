use Prim.Native.Nat.{◌+◌}
use lib.ListN.{length}
use mathlib.Core.Path.{ap}
use native.Mathlib.Omega.{arith}
use Rattle.table.specs.Laws.{PathLaws}
use Rattle.table.proofs.Laws.{path-laws}
use Rattle.forecast.proofs.path_moves.Goals as goal

pub bounds-scratch-at : goal.bounds-scratch-at
bounds-scratch-at c = omega (arith, c.requires.sparse.big, c.requires.sparse.count, c.loop-at.invariant.0)

pub overflow_add-moves : goal.overflow_add-moves
overflow_add-moves c =
    let P : PathLaws c.args.m c.args.scratch.now (c.args.last + 1) c.args.roots = path-laws _ _ _ _ c.requires.sparse c.requires.le_roots in
    let at = c.loop-at.at in
    let step = ap length (P.later at c.loop-at-test.true (omega (arith, c.loop-at.invariant.0))) in
    omega (arith, P.short c.args.last (omega arith), c.requires.sparse.count, c.requires.sparse.small, c.loop-at.invariant.1, step)

pub loop-at-smaller : goal.loop-at-smaller
loop-at-smaller c =
    let P : PathLaws c.args.m c.args.scratch.now (c.args.last + 1) c.args.roots = path-laws _ _ _ _ c.requires.sparse c.requires.le_roots in
    P.lower c.loop-at.at c.loop-at-test.true (omega (arith, c.loop-at.invariant.0))

pub loop-at-preserved : goal.loop-at-preserved
loop-at-preserved c =
    let P : PathLaws c.args.m c.args.scratch.now (c.args.last + 1) c.args.roots = path-laws _ _ _ _ c.requires.sparse c.requires.le_roots in
    let at = c.loop-at.at in
    let l = c.loop-at.invariant in
    (omega (arith, l.0, P.lower at c.loop-at-test.true (omega (arith, l.0))), omega (arith, l.1, ap length (P.later at c.loop-at-test.true (omega (arith, l.0)))))

pub returns : goal.returns
returns c =
    let P : PathLaws c.args.m c.args.scratch.now (c.args.last + 1) c.args.roots = path-laws _ _ _ _ c.requires.sparse c.requires.le_roots in
    omega (arith, c.loop-at.invariant.1, ap length (P.root c.loop-at.at c.loop-at-test.false))
