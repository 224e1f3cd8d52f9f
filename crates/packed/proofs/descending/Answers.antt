use Rattle.packed.proofs.Reading.{four-descend}
use Rattle.packed.proofs.descending.Goals as goal

pub returns : goal.returns
returns c = four-descend c.args.f.now c.told-f
