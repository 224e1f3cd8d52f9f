use lib.ListN.{length}
use mathlib.Core.Bool.{true, false}
use mathlib.Core.Path.{◌≡◌, refl, ◌∙◌}
use native.Mathlib.Omega.{arith}
use Rattle.packed.proofs.Bytes.{ahead-few, tail-room, width_of}
use Rattle.packed.proofs.Writing.{place-fits, run_fits, whole-form, last-room, run-last, run-all}
use Rattle.packed.proofs.write_buckets.Goals as goal

pub invariant_of-width : goal.invariant_of-width
invariant_of-width c = let W = width_of c.args.s c.requires.0.sound.settings in record { low = W.low; high = W.high }

pub write_run-requires : goal.write_run-requires
write_run-requires c =
    run_fits c.requires.0 c.requires.1 0 _ true (omega arith) (omega (arith, c.ahead-many.ensures))
    (λ e. ahead-few c.args.s.buckets _ c.ahead-many.ensures)

pub write_run-requires-2 : goal.write_run-requires-2
write_run-requires-2 c =
    run_fits c.requires.0 (c.write_run.auto.out ∙ c.requires.1) _ _ false (omega (arith, c.ahead-many.ensures)) (omega arith) (λ e. cc)

pub overflow_sub-at : goal.overflow_sub-at
overflow_sub-at c = (place-fits c.requires.0 c.requires.1).0

pub overflow_mul-at : goal.overflow_mul-at
overflow_mul-at c = omega (arith, place-fits c.requires.0 c.requires.1)

pub bucket_code-one-requires : goal.bucket_code-one-requires
bucket_code-one-requires c =
    let P = c.requires.0 in
    record { inside = omega (arith, P.sound.size, c.if-m-eq1.true); fits = P.fits }

pub slice_bounds-emit-count : goal.slice_bounds-emit-count
slice_bounds-emit-count c = omega (arith, place-fits c.requires.0 c.requires.1, c.write_run-2.auto.out, c.write_run.auto.out)

pub slice_bounds-emit-start : goal.slice_bounds-emit-start
slice_bounds-emit-start c = omega (arith, place-fits c.requires.0 c.requires.1, c.write_run-2.auto.out, c.write_run.auto.out)

pub emit-requires : goal.emit-requires
emit-requires c =
    let W = width_of c.args.s c.requires.0.sound.settings in
    let size : length c.write_run-2.new.out ≡ length c.args.out.now = c.write_run-2.auto.out ∙ c.write_run.auto.out in
    let whole = whole-form c.requires.0 c.requires.1 _ _ _ _ refl c.write_run.ensures c.write_run-2.ensures in
    (omega (arith, W.high), tail-room c.write_run-2.new.out _ _ (last-room c.requires.0 c.requires.1 _ size whole c.if-m-eq1.true c.bucket_code-one.ensures))

pub returns-then-m-eq1 : goal.returns-then-m-eq1
returns-then-m-eq1 c =
    let size : length c.write_run-2.new.out ≡ length c.args.out.now = c.write_run-2.auto.out ∙ c.write_run.auto.out in
    let whole = whole-form c.requires.0 c.requires.1 _ _ _ _ refl c.write_run.ensures c.write_run-2.ensures in
    run-last c.requires.0 c.requires.1 _ size whole c.if-m-eq1.true c.bucket_code-one.ensures _ c.emit.ensures

pub returns-else-m-eq1 : goal.returns-else-m-eq1
returns-else-m-eq1 c =
    let size : length c.write_run-2.new.out ≡ length c.args.out.now = c.write_run-2.auto.out ∙ c.write_run.auto.out in
    run-all c.requires.0 c.requires.1 _ size (whole-form c.requires.0 c.requires.1 _ _ _ _ refl c.write_run.ensures c.write_run-2.ensures) c.if-m-eq1.false
