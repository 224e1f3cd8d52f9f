use Rattle.lemmas.specs.Bytes.{number_from}
use Rattle.packed.specs.Internal.{CellsStored}
use Rattle.packed.proofs.Unpacker.store.Given as goal

abbrev pub invariant-loop-b : goal.invariant-loop-b
invariant-loop-b l = CellsStored l.self.width.bits l.self.buckets (number_from l.self.bytes.now) l.table l.b
