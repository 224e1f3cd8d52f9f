use Rattle.std.proofs.Common.{◌≡◌, drop}
use Rattle.index.specs.Hash.{fnv_from}
use Rattle.index.proofs.fnv_from.Given as goal

abbrev pub invariant-loop-b : goal.invariant-loop-b
invariant-loop-b l = fnv_from l.h (drop l.b-index l.bytes) ≡ fnv_from l.start l.bytes
