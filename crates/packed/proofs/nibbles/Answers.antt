use Rattle.packed.proofs.Words.{nibbles-are}
use Rattle.packed.proofs.nibbles.Goals as goal

pub returns : goal.returns
returns c = nibbles-are c.args.q c.ranges.q.fits
