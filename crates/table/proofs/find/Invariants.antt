use Rattle.table.proofs.Scans.{Turn}
use Rattle.calls.specs.Cells.{lowest_at}
use Rattle.table.proofs.find.Given as goal

abbrev pub invariant-loop-b : goal.invariant-loop-b
invariant-loop-b l = Turn (lowest_at l.table l.p) l.buckets l.b-index
