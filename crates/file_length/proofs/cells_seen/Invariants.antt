use lib.ListN.{length}
use mathlib.Core.Path.{◌≡◌}
use Prim.Native.Nat.{ℕ, ◌+◌, ◌≤◌}
use Rattle.file_length.proofs.Passes.{SeenBefore}
use Rattle.file_length.proofs.cells_seen.Given as goal

abbrev pub invariant-loop-block : goal.invariant-loop-block
invariant-loop-block l = record {
  seen : SeenBefore l.table l.top l.filled l.block-iterator.rest.now;
  size : ◌≡◌ {A = ℕ} l.block-iterator.size 32768;
  few : l.filled + length l.block-iterator.rest.now ≤ length l.table;
}
