use Prim.Native.Nat.{ℕ, ◌+◌, ◌-◌}
use lib.ListN.{drop}
use mathlib.Core.Path.{◌≡◌, sym, ap, ◌∙◌}
use native.Mathlib.Omega.{arith}
use Rattle.file_form.specs.Reader.{read_buckets}
use Rattle.refusals.proofs.HandedOn.{handed_on}
use Rattle.holdfile.specs.Internal.{pass_is, end_of}
use Rattle.holdfile.proofs.Reading.{check-stops, check-turn, none_more}
use Rattle.holdfile.proofs.Body.end.Goals as goal

pub returns-in_err-at : goal.returns-in_err-at
returns-in_err-at c =
    let b = c.args.self in
    ap (pass_is b.bytes.now) (handed_on _ c.in_err-at.field-0.0 c.from_residual.ensures.1)
    ∙ sym (ap end_of (check-stops b.width (b.count - c.loop.counter) (drop c.loop.at b.bytes.now) (omega arith) _ c.in_err-at.ensures))
    ∙ c.loop.invariant

pub loop-preserved : goal.loop-preserved
loop-preserved c =
    let b = c.args.self in
    let left = b.count - c.loop.counter in
    let fewer : b.count - (c.loop.counter + 1) ≡ left - 1 = omega arith in
    ap (λ (n : ℕ). end_of (read_buckets b.width n (drop c.in_ok-at.at b.bytes.now))) fewer
    ∙ check-turn b.width left (drop c.loop.at b.bytes.now) (omega arith) (drop c.in_ok-at.at b.bytes.now) c.in_ok-at.ensures
    ∙ c.loop.invariant

pub returns : goal.returns
returns c =
    let b = c.args.self in
    let none : b.count - c.loop.counter ≡ 0 = omega arith in
    sym (ap end_of (ap (λ (n : ℕ). read_buckets b.width n (drop c.loop.at b.bytes.now)) none ∙ none_more b.width (drop c.loop.at b.bytes.now)))
    ∙ c.loop.invariant
