use native.Mathlib.Omega.{arith}
use Rattle.rows.proofs.Rank.{rank-small}
use Rattle.packed_form.proofs.Laws.{packed-laws}
use Rattle.packed_form.specs.Writer.{high}
use Rattle.packed.proofs.Bytes.{allowed}
use Rattle.packed.proofs.Words.{three-below, four_below, code_is}
use Rattle.packed.proofs.Packer.code_of.Goals as goal

pub row_from-row-requires : goal.row_from-row-requires
row_from-row-requires c =
    -- the high nibbles ascend too
    let q = packed-laws.highs _ c.args.self.width.low _ _ _ _ c.requires.0 c.requires.1 in
    (omega (arith, q.0, q.1), omega (arith, q.0, q.1), omega (arith, q.0, q.1), q.1)

pub above-four-requires : goal.above-four-requires
above-four-requires c =
    let a = c.args in
    let W = allowed a.self.width in
    (three-below W a.a a.b a.c a.d c.above-one.ensures c.above-two.ensures c.above-three.ensures, omega (arith, W.high))

pub overflow_mul-result : goal.overflow_mul-result
overflow_mul-result c =
    let a = c.args in
    omega (arith, four_below (allowed a.self.width) a.a a.b a.c a.d c.above-one.ensures c.above-two.ensures c.above-three.ensures c.above-four.ensures)

pub overflow_add-result : goal.overflow_add-result
overflow_add-result c =
    let a = c.args in
    let w = a.self.width.bits in
    omega (
      arith,
      four_below (allowed a.self.width) a.a a.b a.c a.d c.above-one.ensures c.above-two.ensures c.above-three.ensures c.above-four.ensures,
      c.row_from-row.ensures,
      rank-small (high w a.a) (high w a.b) (high w a.c) (high w a.d),
    )

pub returns : goal.returns
returns c =
    let a = c.args in
    code_is (allowed a.self.width) a.a a.b a.c a.d c.above-one.ensures c.above-two.ensures c.above-three.ensures c.above-four.ensures
    c.requires.0 c.requires.1 c.row_from-row.ensures
