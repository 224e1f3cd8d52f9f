use Rattle.std.proofs.Common.{lt_trans, lt_of_le_of_lt, mod-lt, arith}
use lib.Bits.{and_le_r}
use Rattle.index.proofs.Computes.{ring-result, low_bits}
use Rattle.index.proofs.Good.{good}
use Rattle.index.proofs.passed.Passed.reduce.Goals as goal

pub nonzero_rem-result : goal.nonzero_rem-result
nonzero_rem-result c = let g = (good _ c.args.self.passes) in omega (arith, g.even c.if-rule-eq1.true, g.some_bucket)

pub overflow_cast-result : goal.overflow_cast-result
overflow_cast-result c =
    let a = c in
    let g = (good _ a.args.self.passes) in
    record { fits = lt_trans (mod-lt a.args.h (omega (arith, g.even c.if-rule-eq1.true, g.some_bucket))) (omega (arith, g.few_buckets)) }

pub overflow_sub-result : goal.overflow_sub-result
overflow_sub-result c = (good _ c.args.self.passes).some_bucket

pub overflow_cast-result-else-rule-eq1 : goal.overflow_cast-result-else-rule-eq1
overflow_cast-result-else-rule-eq1 c = let a = c in record { fits = lt_of_le_of_lt (and_le_r a.args.h _) (omega (arith, (good _ a.args.self.passes).few_buckets)) }

pub returns-then-rule-eq1 : goal.returns-then-rule-eq1
returns-then-rule-eq1 c = ring-result (good _ c.args.self.passes) _ c.if-rule-eq1.true

pub returns-else-rule-eq1 : goal.returns-else-rule-eq1
returns-else-rule-eq1 c = low_bits (good _ c.args.self.passes) _ c.if-rule-eq1.false
