use lib.ListN.{drop, get_or, drop_of_length-le}
use lib.Seq.{drop-cons}
use mathlib.Core.List.{[], ◌∷◌}
use Prim.Native.Nat.{◌+◌}
use native.Mathlib.Numerals.{add-one}
use native.Mathlib.Omega.{arith}
use Rattle.file_length.proofs.Passes.{seen-none, seen-more, seen-all, seen-one, bit_small}
use Rattle.file_length.proofs.block_seen.Goals as goal

pub loop-x-init : goal.loop-x-init
loop-x-init c = record { seen = seen-none _; few = omega arith }

pub overflow_add-filled : goal.overflow_add-filled
overflow_add-filled c = omega (arith, bit_small _ c.from-filled.ensures)

pub loop-x-preserved : goal.loop-x-preserved
loop-x-preserved c =
    let l = c.args.block.now in
    let i = c.loop-x.x-index in
    let x = get_or l i 0 in
    record {
      seen = seen-more c.loop-x.invariant.seen (x ∷ []) (drop (i + 1) l) (rw add-one (drop-cons l i 0 c.loop-x-test.true)) (seen-one x) c.max-top.ensures c.from-filled.ensures;
      few = omega (arith, bit_small _ c.from-filled.ensures, c.loop-x.invariant.few);
    }

pub returns : goal.returns
returns c = seen-all c.loop-x.invariant.seen (drop_of_length-le c.args.block.now c.loop-x-test.false)
