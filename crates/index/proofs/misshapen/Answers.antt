use Rattle.std.proofs.Common.{ℕ, not, eqb, ap, ◌∙◌}
use lib.Bits.{bit_and}
use Rattle.index.proofs.Good.{form-test}
use Rattle.index.proofs.misshapen.Goals as goal

pub returns : goal.returns
returns c =
    let m : ℕ = c.args.buckets in
    ap (λ (x : ℕ). not (eqb (bit_and m x) 0)) c.barred_bits-barred.ensures ∙ form-test c.args.rule m c.requires.0 c.requires.1
