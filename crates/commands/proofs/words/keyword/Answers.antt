use mathlib.Core.Path.{◌∙◌}
use Rattle.commands.proofs.Keywords.{beside-asks}
use Rattle.commands.proofs.words.keyword.Goals as goal

pub returns : goal.returns
returns c = c.find.ensures ∙ beside-asks c.args.name.now _
