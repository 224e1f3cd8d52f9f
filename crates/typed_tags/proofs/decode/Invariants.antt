use Prim.Native.Nat.{◌*◌, ◌≤◌, ◌/◌}
use lib.ListN.{length, take, drop}
use mathlib.Core.List.{◌++◌}
use mathlib.Core.Path.{◌≡◌}
use Rattle.typed_tags.specs.Internal.{hex_pairs}
use Rattle.typed_tags.proofs.decode.Given as goal

abbrev pub invariant-loop-i : goal.invariant-loop-i
invariant-loop-i l =
    let i = l.i-iterator.count in record {
      size : l.i-iterator.iter.size ≡ 2;
      rest : l.i-iterator.iter.rest.now ≡ drop (2 * i) l.digits;
      within : i ≤ length l.digits / 2;
      out : l.out ≡ take i (hex_pairs l.digits) ++ drop i l.initial.out;
    }
