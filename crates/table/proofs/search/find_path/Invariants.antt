use Prim.Native.Nat.{◌-◌}
use mathlib.Core.Path.{◌≡◌}
use Rattle.std.specs.Prelude.{None}
use Rattle.table.proofs.Walks.{state, AtQueue, AtCell, AtOther}
use Rattle.table.proofs.search.find_path.Given as goal

abbrev pub invariant-other : goal.invariant-other
invariant-other l = record {
  same_reference : l.queue.scratch.ghost_name ≡ l.initial.queue.scratch.ghost_name;
  same_buckets : l.queue.buckets ≡ l.initial.queue.buckets;
  no_end : l.answer ≡ None;
  seen : AtOther l.s l.table l.fn.queue.tail l.head l.c l.other-items (state l.initial.queue.scratch.now l.initial.queue.tail) 0 (state l.queue.scratch.now l.queue.tail) l.other-index;
}

abbrev pub invariant-cell : goal.invariant-cell
invariant-cell l = record {
  same_reference : l.queue.scratch.ghost_name ≡ l.initial.queue.scratch.ghost_name;
  same_buckets : l.queue.buckets ≡ l.initial.queue.buckets;
  no_end : l.answer ≡ None;
  seen : AtCell l.s l.table l.fn.queue.tail l.head (state l.initial.queue.scratch.now l.initial.queue.tail) 0 (state l.queue.scratch.now l.queue.tail) l.c;
}

abbrev pub invariant-queue : goal.invariant-queue
invariant-queue l = record {
  same_reference : l.queue.scratch.ghost_name ≡ l.initial.queue.scratch.ghost_name;
  same_buckets : l.queue.buckets ≡ l.initial.queue.buckets;
  no_end : l.answer ≡ None;
  seen : AtQueue l.s l.table l.fn.queue.tail (state l.initial.queue.scratch.now l.initial.queue.tail) l.initial.head (state l.queue.scratch.now l.queue.tail) l.head;
}

abbrev pub decreases-queue : goal.decreases-queue
decreases-queue l = l.s.buckets - l.head
