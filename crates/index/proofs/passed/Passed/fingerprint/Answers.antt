use Rattle.std.proofs.Common.{arith, pow_pos}
use Rattle.index.specs.Hash.{lower_half, fingerprint_of}
use Rattle.index.proofs.Computes.{limit-shifted, print-small}
use Rattle.index.proofs.Good.{good, some-prints}
use Rattle.index.proofs.passed.Passed.fingerprint.Goals as goal

pub overflow_shl-prints : goal.overflow_shl-prints
overflow_shl-prints c = omega (arith, (good _ c.args.self.passes).width_high)

pub overflow_sub-prints : goal.overflow_sub-prints
overflow_sub-prints c = rw (limit-shifted (good _ c.args.self.passes)) (pow_pos c.args.self.settings.width)

pub nonzero_rem-result : goal.nonzero_rem-result
nonzero_rem-result c = rw (limit-shifted (good _ c.args.self.passes)) (some-prints (good _ c.args.self.passes))

pub overflow_add-result : goal.overflow_add-result
overflow_add-result c = record { fits = rw (limit-shifted (good _ c.args.self.passes)) (omega (arith, print-small (good _ c.args.self.passes) c.args.h)) }

pub overflow_cast-result : goal.overflow_cast-result
overflow_cast-result c = record { fits = rw (limit-shifted (good _ c.args.self.passes)) (omega (arith, print-small (good _ c.args.self.passes) c.args.h)) }

pub returns : goal.returns
unfolding lower_half fingerprint_of
returns c = rw (limit-shifted (good _ c.args.self.passes)) (omega arith)
