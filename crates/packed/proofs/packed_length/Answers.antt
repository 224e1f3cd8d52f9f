use Prim.Native.Nat.{◌*◌, ◌-◌, ◌≤◌}
use mathlib.Core.Path.{refl}
use native.Mathlib.Nat.{mul_assoc}
use native.Mathlib.Omega.{arith}
use Rattle.index.proofs.Laws.{laws}
use Rattle.packed.proofs.Bytes.{half-fits}
use Rattle.packed_form.specs.Writer.{bucket_bits, length_of_packed}
use Rattle.packed.proofs.packed_length.Goals as goal

pub overflow_sub-size : goal.overflow_sub-size
overflow_sub-size c = let L = laws c.args.s c.requires in omega (arith, L.width_low)

pub overflow_mul-size : goal.overflow_mul-size
overflow_mul-size c = let L = laws c.args.s c.requires in omega (arith, L.width_high)

pub overflow_mul-result : goal.overflow_mul-result
overflow_mul-result c =
    let few_bytes : 4 * (c.args.s.width - 1) * c.args.s.buckets ≤ 3932160 = let L = laws c.args.s c.requires in
    omega (arith, mul_assoc 4 (c.args.s.width - 1) c.args.s.buckets, half-fits c.args.s.width c.args.s.buckets L.width_high L.few_buckets) in
    omega (arith, few_bytes)

pub overflow_add-result : goal.overflow_add-result
overflow_add-result c =
    let few_bytes : 4 * (c.args.s.width - 1) * c.args.s.buckets ≤ 3932160 = let L = laws c.args.s c.requires in
    omega (arith, mul_assoc 4 (c.args.s.width - 1) c.args.s.buckets, half-fits c.args.s.width c.args.s.buckets L.width_high L.few_buckets) in
    omega (arith, few_bytes)

pub returns : goal.returns
unfolding bucket_bits length_of_packed
returns c = refl
