use Prim.Native.Nat.{ℕ, ◌+◌, ◌*◌, ◌-◌, ◌%◌, ◌^◌}
use mathlib.Core.Path.{sym, ap, ◌∙◌}
use native.Mathlib.Nat.{div-one}
use native.Mathlib.Omega.{arith}
use Rattle.lemmas.proofs.Bytes.{all-bytes}
use Rattle.packed.proofs.Bytes.{allowed}
use Rattle.packed.proofs.Reading.{input-of, pair_inside, code_read, first-place, second-place}
use Rattle.packed.proofs.Unpacker.pair_ahead.Goals as goal

pub word_ahead-one-requires : goal.word_ahead-one-requires
word_ahead-one-requires c = omega (arith, pair_inside (input-of c.args.self) c.requires)

pub word_ahead-two-requires : goal.word_ahead-two-requires
word_ahead-two-requires c = omega (arith, pair_inside (input-of c.args.self) c.requires)

pub returns-clause-first : goal.returns-clause-first
returns-clause-first c =
    let u = c.args.self in
    let first = ap (λ (z : ℕ). z % 2 ^ (4 * (u.width.bits - 1))) (sym (div-one c.word_ahead-one.result)) in
    c.low.ensures ∙ first
    ∙ code_read (allowed u.width) (2 * c.args.p) _ 0 (first-place u.width.bits c.args.p) (omega arith) u.bytes.now (all-bytes u.bytes.now u.in_range) c.word_ahead-one.ensures

pub returns-clause-second : goal.returns-clause-second
returns-clause-second c =
    let u = c.args.self in
    c.low-2.ensures
    ∙ code_read (allowed u.width) (2 * c.args.p + 1) _ _ (second-place u.width.bits c.args.p) (omega arith) u.bytes.now (all-bytes u.bytes.now u.in_range) c.word_ahead-two.ensures
