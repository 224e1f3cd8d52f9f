use native.Mathlib.Omega.{arith}
use Rattle.packed.proofs.Bytes.{allowed}
use Rattle.packed.proofs.Writing.{run_more}
use Rattle.packed.proofs.Packer.write_run.Goals as goal

pub loop-p-preserved : goal.loop-p-preserved
loop-p-preserved c =
    run_more (allowed c.args.self.width) c.requires c.loop-p-test.true c.bucket_code-one.ensures c.bucket_code-two.ensures c.loop-p.out c.write_pair.new.part _
    (omega arith) (omega arith) c.loop-p.invariant c.write_pair.ensures
