use Rattle.table.proofs.Pairs.{Pairs}
use Rattle.table.proofs.search.lowest_empty.Given as goal

abbrev pub invariant-loop-j : goal.invariant-loop-j
invariant-loop-j l = Pairs l.table l.b l.j
