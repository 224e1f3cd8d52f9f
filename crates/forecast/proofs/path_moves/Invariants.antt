use Prim.Native.Nat.{◌+◌, ◌≤◌}
use lib.ListN.{length}
use mathlib.Core.Path.{◌≡◌}
use Rattle.table.specs.Scratch.{path_in}
use Rattle.forecast.proofs.path_moves.Given as goal

-- the moves that are counted and those that are left are all
abbrev pub invariant-loop-at : goal.invariant-loop-at
invariant-loop-at l =
    (l.at ≤ l.last) × (l.moves + length (path_in l.m l.scratch l.roots l.at) ≡ length (path_in l.m l.scratch l.roots l.last))

abbrev pub decreases-loop-at : goal.decreases-loop-at
decreases-loop-at l = l.at
