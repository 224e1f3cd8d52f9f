use mathlib.Core.Path.{◌≡◌}
use Rattle.table.proofs.Walks.{AtSeed}
use Rattle.table.proofs.search.seed.Given as goal

abbrev pub invariant-loop-b : goal.invariant-loop-b
invariant-loop-b l = record {
  same_reference : l.queue.scratch.ghost_name ≡ l.initial.queue.scratch.ghost_name;
  same_buckets : l.queue.buckets ≡ l.initial.queue.buckets;
  seeded : AtSeed l.queue.buckets l.buckets l.queue.scratch.now l.queue.tail l.b-index;
}
