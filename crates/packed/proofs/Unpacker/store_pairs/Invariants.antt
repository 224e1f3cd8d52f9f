use Prim.Native.Nat.{◌*◌}
use Rattle.lemmas.specs.Bytes.{number_from}
use Rattle.packed.specs.Internal.{CellsStored}
use Rattle.packed.proofs.Unpacker.store_pairs.Given as goal

abbrev pub invariant-loop-p : goal.invariant-loop-p
invariant-loop-p l = CellsStored l.self.width.bits l.self.buckets (number_from l.self.bytes.now) l.table (2 * l.p)
