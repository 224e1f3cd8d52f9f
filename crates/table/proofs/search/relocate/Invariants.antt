use Prim.Native.Nat.{◌-◌}
use Rattle.table.proofs.Walks.{AtMove}
use Rattle.table.proofs.search.relocate.Given as goal

abbrev pub invariant-loop-at : goal.invariant-loop-at
invariant-loop-at l = AtMove l.queue.buckets l.queue.scratch.now l.roots (l.queue.tail - 1) l.p l.initial.table l.free l.table l.at l.space l.moves

abbrev pub decreases-loop-at : goal.decreases-loop-at
decreases-loop-at l = l.at
