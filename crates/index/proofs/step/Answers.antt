use Rattle.std.proofs.Common.{◌∙◌}
use Rattle.index.proofs.Computes.{step_is}
use Rattle.index.proofs.step.Goals as goal

pub returns : goal.returns
returns c = c.times_prime.ensures ∙ step_is c.args.h c.args.b c.ranges.b.fits
