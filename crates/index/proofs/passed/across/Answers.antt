use Rattle.index.proofs.Ring.{across-ahead, across-around, across-behind, across-turned}
use Rattle.index.proofs.passed.across.Goals as goal

pub returns-then-x-l : goal.returns-then-x-l
returns-then-x-l c = let a = c.before.before in across-ahead a.args.l a.args.d a.args.b a.requires.0 a.requires.2 c.if-b-l.true c.if-x-l.true

pub returns-else-x-l : goal.returns-else-x-l
returns-else-x-l c = let a = c.before.before in across-around a.args.l a.args.d a.args.b a.requires.0 a.requires.2 c.if-b-l.true c.if-x-l.false

pub returns-then-x-l-2 : goal.returns-then-x-l-2
returns-then-x-l-2 c = let a = c.before.before in across-behind a.args.l a.args.d a.args.b a.requires.0 a.requires.2 c.if-b-l.false c.if-x-l-2.true

pub returns-else-x-l-2 : goal.returns-else-x-l-2
returns-else-x-l-2 c = let a = c.before.before in across-turned a.args.l a.args.d a.args.b a.requires.0 a.requires.2 c.if-b-l.false c.if-x-l-2.false
