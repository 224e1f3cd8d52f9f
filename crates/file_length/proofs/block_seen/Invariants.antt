use lib.ListN.{drop}
use Prim.Native.Nat.{◌≤◌}
use Rattle.file_length.proofs.Passes.{SeenBefore}
use Rattle.file_length.proofs.block_seen.Given as goal

abbrev pub invariant-loop-x : goal.invariant-loop-x
invariant-loop-x l = record { seen : SeenBefore l.block l.top l.filled (drop l.x-index l.block); few : l.filled ≤ l.x-index }
