use Prim.Native.Nat.{◌*◌}
use Rattle.lemmas.specs.Bytes.{number_from}
use Rattle.packed.specs.Internal.{CellsCounted}
use Rattle.packed.proofs.Unpacker.check_pairs.Given as goal

abbrev pub invariant-loop-p : goal.invariant-loop-p
invariant-loop-p l = CellsCounted l.self.width.bits l.self.buckets (number_from l.self.bytes.now) l.count (2 * l.p)
