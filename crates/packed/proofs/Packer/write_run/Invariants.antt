use mathlib.Core.Path.{◌≡◌}
use Rattle.packed.specs.Internal.{formed}
use Rattle.packed.proofs.Packer.write_run.Given as goal

abbrev pub invariant-loop-p : goal.invariant-loop-p
invariant-loop-p l = formed l.self.width.bits l.table l.p l.out ≡ formed l.self.width.bits l.table l.from l.initial.out
