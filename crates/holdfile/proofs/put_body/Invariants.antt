use Prim.Native.Nat.{ℕ, ◌-◌, ◌≤◌}
use lib.ListN.{length}
use mathlib.Core.List.{[]}
use mathlib.Core.Path.{◌≡◌}
use Rattle.holdfile.proofs.Writing.{Ahead}
use Rattle.holdfile.proofs.put_body.Given as goal

abbrev pub invariant-loop-cells : goal.invariant-loop-cells
invariant-loop-cells l = record {
  ahead : Ahead l.fn.out l.out l.fn.from l.at l.fn.table l.cells-iterator.rest.now l.last;
  few : length l.cells-iterator.rest.now ≤ length l.fn.table - 8;
  size : ◌≡◌ {A = ℕ} l.cells-iterator.size 4;
}

-- the last buckets: what the first loop has left
abbrev pub invariant-loop-cells-2 : goal.invariant-loop-cells-2
invariant-loop-cells-2 l = record {
  ahead : Ahead l.fn.out l.out l.fn.from l.at l.fn.table l.cells-iterator.rest.now [];
  size : ◌≡◌ {A = ℕ} l.cells-iterator.size 4;
}
