use mathlib.Core.Path.{refl}
use native.Mathlib.Omega.{arith}
use Rattle.table.proofs.Scans.{at_among}
use Rattle.table.proofs.Walks.{seed-starts, seed-ends}
use Rattle.table.proofs.search.seed.Goals as goal

pub loop-b-init : goal.loop-b-init
loop-b-init c = record { same_reference = refl; same_buckets = refl; seeded = rw c.requires.empty seed-starts.0 }

pub is_marked-requires : goal.is_marked-requires
is_marked-requires c = omega (arith, c.loop-b.invariant.same_buckets, c.requires.by_index _ (at_among _ _ c.loop-b-test.true))

pub push-requires-clause-in_bounds : goal.push-requires-clause-in_bounds
push-requires-clause-in_bounds c =
    (omega (arith, c.loop-b.invariant.same_buckets, c.requires.by_index _ (at_among _ _ c.loop-b-test.true)), omega arith, omega arith)

pub returns-clause-roots : goal.returns-clause-roots
returns-clause-roots c = seed-ends c.loop-b.invariant.seeded c.loop-b.queue.sparse.count (omega arith)
