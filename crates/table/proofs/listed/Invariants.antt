use Rattle.std.proofs.Common.{◌≡◌, drop, eqb}
use Rattle.std.specs.List.{list_any}
use Rattle.table.proofs.listed.Given as goal

abbrev pub invariant-loop-x : goal.invariant-loop-x
invariant-loop-x l = list_any (λ y. eqb y l.b) (drop l.x-index l.buckets) ≡ list_any (λ y. eqb y l.b) l.buckets
