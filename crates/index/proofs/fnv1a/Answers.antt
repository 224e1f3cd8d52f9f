use Rattle.std.proofs.Common.{rules}
use Rattle.index.specs.Hash.{fnv1a}
use Rattle.index.proofs.fnv1a.Goals as goal

pub returns : goal.returns
unfolding fnv1a
returns c = search rules
