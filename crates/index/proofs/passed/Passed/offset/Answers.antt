use Rattle.std.proofs.Common.{ℕ, List, get_or, ap, ◌∙◌, arith}
use Rattle.index.proofs.Computes.{offset-by-bytes}
use Rattle.index.specs.Hash.{fnv_start, fnv_step}
use Rattle.index.proofs.passed.Passed.offset.Goals as goal

pub returns : goal.returns
returns c =
    let byte = λ (i : ℕ). ap (λ (l : List ℕ). get_or l i 0) c.to_le_bytes.ensures in
    let low = c.step.ensures ∙ ap (fnv_step fnv_start) (omega (arith, byte 0)) in
    let high = c.step-2.ensures ∙ ap (fnv_step c.step.result) (omega (arith, byte 1, c.ranges.p.fits)) in
    offset-by-bytes c.args.self.settings c.args.p low high c.reduce.ensures
