use Rattle.std.proofs.Common.{◌≤◌, length}
use Rattle.gedrunelj.proofs.list.Session.answer_lines.Given as goal

abbrev pub invariant-loop-n : goal.invariant-loop-n
invariant-loop-n l = length l.rest ≤ length l.s

abbrev pub decreases-loop-n : goal.decreases-loop-n
decreases-loop-n l = length l.rest
