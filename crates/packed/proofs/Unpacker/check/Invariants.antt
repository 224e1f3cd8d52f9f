use Rattle.lemmas.specs.Bytes.{number_from}
use Rattle.packed.specs.Internal.{CellsCounted}
use Rattle.packed.proofs.Unpacker.check.Given as goal

abbrev pub invariant-loop-b : goal.invariant-loop-b
invariant-loop-b l = CellsCounted l.self.width.bits l.self.buckets (number_from l.self.bytes.now) l.count l.b
