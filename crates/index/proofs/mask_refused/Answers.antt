use Rattle.index.proofs.Refusals.{range-test}
use Rattle.index.proofs.mask_refused.Goals as goal

pub returns : goal.returns
returns c = let a = c.before in range-test a.args.s _ c.mask_limit.ensures a.requires.0 a.requires.1
