use mathlib.Core.Path.{refl}
use native.Mathlib.Omega.{arith}
use Rattle.packed.proofs.Reading.{stored_row, stored_more, stored-all}
use Rattle.packed.proofs.Unpacker.store.Goals as goal

pub store_code-requires : goal.store_code-requires
store_code-requires c =
    let I = c.loop-b.invariant in
    (stored_row c.requires.passes I c.loop-b-test.true c.code_at.ensures, omega (arith, I.size, c.loop-b-test.true))

pub loop-b-preserved : goal.loop-b-preserved
loop-b-preserved c = stored_more c.requires.passes c.loop-b.invariant c.loop-b-test.true c.code_at.ensures _ refl c.store_code.ensures c.store_code.auto.table

pub returns : goal.returns
returns c = stored-all c.requires.passes c.loop-b.invariant c.loop-b-test.false
