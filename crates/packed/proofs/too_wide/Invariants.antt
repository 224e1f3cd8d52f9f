use Prim.Native.Nat.{◌^◌}
use lib.Dec.{leb}
use lib.ListN.{drop}
use mathlib.Core.Bool.{◌||◌}
use mathlib.Core.Path.{◌≡◌}
use Rattle.calls.specs.WrittenForms.{any_from}
use Rattle.packed.proofs.too_wide.Given as goal

abbrev pub invariant-loop-v : goal.invariant-loop-v
invariant-loop-v l = (leb (2 ^ l.width.bits) l.top || any_from (2 ^ l.width.bits) (drop l.v-index l.table)) ≡ any_from (2 ^ l.width.bits) l.table
