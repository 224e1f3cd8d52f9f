use Rattle.packed.proofs.Words.{masked}
use Rattle.packed.proofs.low.Goals as goal

pub returns : goal.returns
returns c = masked c.args.x c.args.n c.requires
