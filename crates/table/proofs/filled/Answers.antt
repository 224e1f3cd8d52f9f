use Rattle.std.proofs.Common.{arith}
use Rattle.std.proofs.lemmas.Grind.{common_steps}
use Rattle.table.proofs.Counting.{filled-is}
use Rattle.table.proofs.filled.Goals as goal

pub returns : goal.returns
returns c = grind (arith, common_steps, filled-is c.args.table.now)
