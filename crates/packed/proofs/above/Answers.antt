use Rattle.packed.proofs.Words.{above-is, above-fits}
use Rattle.packed.proofs.above.Goals as goal

pub overflow_add-result : goal.overflow_add-result
overflow_add-result c = let a = c.args in rw c.low.ensures (record { fits = above-fits a.x a.n a.v c.requires.0 c.requires.1 })

pub returns : goal.returns
returns c = let a = c.args in rw c.low.ensures (above-is a.x a.n a.v c.requires.0 c.requires.1)
