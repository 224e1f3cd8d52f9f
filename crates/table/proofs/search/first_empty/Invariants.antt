use Rattle.table.proofs.Scans.{Turn}
use Rattle.calls.specs.Cells.{lowest_empty}
use Rattle.table.proofs.search.first_empty.Given as goal

abbrev pub invariant-loop-b : goal.invariant-loop-b
invariant-loop-b l = Turn (lowest_empty l.table) l.buckets l.b-index
