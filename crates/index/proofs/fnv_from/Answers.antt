use Rattle.std.proofs.Common.{ℕ, ◌+◌, drop, sym, ap, ◌∙◌}
use Rattle.index.proofs.Computes.{fnv-turn, fnv-end}
use Rattle.index.specs.Hash.{fnv_from}
use Rattle.index.proofs.fnv_from.Goals as goal

pub loop-b-preserved : goal.loop-b-preserved
loop-b-preserved c =
    let a = c.args.bytes.now in
    let i = c.loop-b.b-index in
    ap (λ (x : ℕ). fnv_from x (drop (i + 1) a)) c.step-h.ensures ∙ fnv-turn a i c.loop-b.h c.loop-b-test.true ∙ c.loop-b.invariant

pub returns : goal.returns
returns c = sym (fnv-end c.args.bytes.now c.loop-b.b-index c.loop-b.h c.loop-b-test.false) ∙ c.loop-b.invariant
