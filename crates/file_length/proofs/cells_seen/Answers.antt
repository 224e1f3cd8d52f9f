use lib.ListN.{length, length-append}
use Prim.Native.Nat.{◌+◌}
use mathlib.Core.Path.{◌≡◌, ap, ◌∙◌}
use native.Mathlib.Omega.{arith}
use Rattle.file_length.proofs.Passes.{seen-none, seen-more, seen-all, count-few, length-none}
use Rattle.file_length.proofs.cells_seen.Goals as goal

pub loop-block-init : goal.loop-block-init
loop-block-init c =
    rw (c.into_iter-block-iterator.ensures.into_iter_gives, c.chunks-block-items.ensures.rest) (record { seen = seen-none _; size = c.chunks-block-items.ensures.size; few = omega arith })

pub overflow_add-filled : goal.overflow_add-filled
overflow_add-filled c =
    let e = c.in-Some.ensures.steps.1.0 in
    let cut : length c.loop-block.block-iterator.rest.now ≡ length c.in-Some.block.now + length c.next.new.self.rest.now = ap length e ∙ length-append c.in-Some.block.now c.next.new.self.rest.now in
    omega (arith, c.loop-block.invariant.few, c.from-filled.ensures, c.block_seen-high.ensures.filled, count-few c.in-Some.block.now, cut, c.requires)

pub loop-block-preserved : goal.loop-block-preserved
loop-block-preserved c =
    let e = c.in-Some.ensures.steps.1.0 in
    let cut : length c.loop-block.block-iterator.rest.now ≡ length c.in-Some.block.now + length c.next.new.self.rest.now = ap length e ∙ length-append c.in-Some.block.now c.next.new.self.rest.now in
    record {
      seen = seen-more c.loop-block.invariant.seen c.in-Some.block.now c.next.new.self.rest.now e c.block_seen-high.ensures c.max-top.ensures c.from-filled.ensures;
      size = c.in-Some.ensures.steps.0 ∙ c.loop-block.invariant.size;
      few = omega (arith, c.loop-block.invariant.few, c.from-filled.ensures, c.block_seen-high.ensures.filled, count-few c.in-Some.block.now, cut);
    }

pub returns : goal.returns
returns c = seen-all c.loop-block.invariant.seen (length-none c.loop-block.block-iterator.rest.now c.in-None.ensures.steps.1.0)
