use Rattle.packed.proofs.Words.{sum_fits, fields-are}
use Rattle.packed.proofs.fields.Goals as goal

pub overflow_add-result : goal.overflow_add-result
overflow_add-result c = rw (c.low.ensures, c.low-2.ensures) (record { fits = sum_fits c.args.n c.args.x c.requires })

pub returns : goal.returns
returns c = rw (c.low.ensures, c.low-2.ensures) (fields-are c.args.n c.args.x c.requires)
