use mathlib.Core.Path.{◌∙◌}
use borrow.Author.Tests.{le-ltb}
use Rattle.table.proofs.Scratch.{marked-low, marked-high}
use Rattle.table.proofs.queue.Queue.is_marked.Goals as goal

pub returns-then-i-self : goal.returns-then-i-self
returns-then-i-self c roots = marked-low c.args.self.now.sparse c.args.b roots c.if-i-self.true

pub returns-else-i-self : goal.returns-else-i-self
returns-else-i-self c roots = le-ltb _ _ c.if-i-self.false ∙ marked-high c.args.self.now.sparse c.args.b roots c.if-i-self.false
