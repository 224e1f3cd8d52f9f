use Prim.Native.Nat.{◌+◌, ◌*◌}
use mathlib.Core.Path.{◌≡◌, subst}
use native.Mathlib.Omega.{arith}
use Rattle.lemmas.specs.Bytes.{number_from}
use Rattle.packed.specs.Internal.{CellsCounted}
use Rattle.packed.proofs.Reading.{counted_none, counted-fits, counted-more}
use Rattle.packed.proofs.Unpacker.check_pairs.Goals as goal

pub loop-p-init : goal.loop-p-init
loop-p-init c = let u = c.args.self in counted_none u.width.bits u.buckets (number_from u.bytes.now)

pub overflow_add-count : goal.overflow_add-count
overflow_add-count c =
    let once = counted-more c.loop-p.invariant (omega (arith, c.ahead-many.ensures)) c.pair_ahead-one.ensures.first _ c.in-Ok.ensures in
    record { fits = counted-fits once c.args.self.few }

pub returns-in_default-check_code : goal.returns-in_default-check_code
returns-in_default-check_code c =
    counted-more c.loop-p.invariant (omega (arith, c.ahead-many.ensures)) c.pair_ahead-one.ensures.first _ c.in-Ok.ensures

pub overflow_add-count-in-loop-p : goal.overflow_add-count-in-loop-p
overflow_add-count-in-loop-p c =
    let once = counted-more c.loop-p.invariant (omega (arith, c.ahead-many.ensures)) c.pair_ahead-one.ensures.first _ c.in-Ok.ensures in
    record { fits = counted-fits (counted-more once (omega (arith, c.ahead-many.ensures)) c.pair_ahead-one.ensures.second _ c.in-Ok-check_code.ensures) c.args.self.few }

pub loop-p-preserved : goal.loop-p-preserved
loop-p-preserved c =
    let u = c.args.self in
    let once = counted-more c.loop-p.invariant (omega (arith, c.ahead-many.ensures)) c.pair_ahead-one.ensures.first _ c.in-Ok.ensures in
    let e : 2 * c.loop-p.p + 1 + 1 ≡ 2 * (c.loop-p.p + 1) = omega arith in
    subst (CellsCounted u.width.bits u.buckets (number_from u.bytes.now) _) e
    (counted-more once (omega (arith, c.ahead-many.ensures)) c.pair_ahead-one.ensures.second _ c.in-Ok-check_code.ensures)
