use mathlib.Core.Path.{sym}
use native.Mathlib.Omega.{arith}
use Rattle.table.proofs.Pairs.{pairs_start, pair_found, pair-none}
use Rattle.table.proofs.search.lowest_empty.Goals as goal

pub loop-j-init : goal.loop-j-init
loop-j-init c = pairs_start _ _

pub returns-in-Some : goal.returns-in-Some
returns-in-Some c = pair_found c.loop-j.invariant (omega (arith, c.loop-j-test.true)) (sym c.in-Some.ensures)

pub loop-j-preserved : goal.loop-j-preserved
loop-j-preserved c = pair-none c.loop-j.invariant (omega (arith, c.loop-j-test.true)) (sym c.in_default.ensures)
