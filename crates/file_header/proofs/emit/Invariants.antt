use lib.ListN.{drop}
use mathlib.Core.List.{◌++◌}
use mathlib.Core.Path.{◌≡◌}
use Prim.Native.Nat.{◌*◌, ◌/◌, ◌^◌}
use Rattle.lemmas.specs.Bytes.{bytes_of}
use Rattle.file_header.proofs.emit.Given as goal

abbrev pub invariant-loop-i : goal.invariant-loop-i
invariant-loop-i l = (l.rest ≡ l.v / 2 ^ (8 * l.i)) × (l.part ≡ bytes_of l.i l.v ++ drop l.i l.initial.part)
