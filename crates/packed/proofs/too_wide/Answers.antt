use Prim.Native.Nat.{◌*◌, ◌%◌, ◌^◌}
use borrow.Author.Tests.{lt-leb}
use lib.Pow.{pow_pos}
use mathlib.Core.Bool.{Bool, ◌||◌}
use mathlib.Core.Path.{◌≡◌, sym, ap, ◌∙◌}
use native.Mathlib.Omega.{arith}
use Rattle.lemmas.proofs.Powers.{one_shifted}
use Rattle.calls.specs.WrittenForms.{any_from}
use Rattle.packed.proofs.Buckets.{any-turn, any-end}
use Rattle.packed.proofs.too_wide.Goals as goal

pub loop-v-init : goal.loop-v-init
loop-v-init c =
    let a = c.args in
    ap (λ (b : Bool). b || any_from (2 ^ a.width.bits) a.table.now) (lt-leb (2 ^ a.width.bits) 0 (pow_pos a.width.bits))

pub loop-v-preserved : goal.loop-v-preserved
loop-v-preserved c =
    let a = c.args in
    any-turn (2 ^ a.width.bits) a.table.now c.loop-v.v-index c.loop-v.top c.max-top.ensures c.loop-v-test.true ∙ c.loop-v.invariant

pub returns : goal.returns
returns c =
    let n = 2 ^ c.args.width.bits in
    let shifted : 1 * n % 2 ^ 32 ≡ n = one_shifted c.args.width.bits 32 (omega (arith, c.args.width.high)) in
    rw (c.from.ensures, shifted) (sym (any-end n c.args.table.now c.loop-v.v-index c.loop-v.top c.loop-v-test.false) ∙ c.loop-v.invariant)
