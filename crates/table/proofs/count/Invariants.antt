use Rattle.table.proofs.Scans.{Counted}
use Rattle.table.proofs.count.Given as goal

abbrev pub invariant-loop-at : goal.invariant-loop-at
invariant-loop-at l = Counted l.table l.p l.buckets l.n l.at
