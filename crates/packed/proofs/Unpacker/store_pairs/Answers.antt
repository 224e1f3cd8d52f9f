use Prim.Native.Nat.{◌+◌, ◌*◌, ◌-◌, ◌/◌}
use mathlib.Core.Path.{◌≡◌, subst}
use native.Mathlib.Omega.{arith}
use Rattle.lemmas.specs.Bytes.{number_from}
use Rattle.packed.specs.Internal.{CellsStored}
use Rattle.packed.proofs.Reading.{stored-none, stored_row, stored_more}
use Rattle.packed.proofs.Unpacker.store_pairs.Goals as goal

pub loop-p-init : goal.loop-p-init
loop-p-init c = let u = c.args.self in stored-none u.width.bits u.buckets (number_from u.bytes.now) c.args.table.now c.requires.size

pub store_code-requires : goal.store_code-requires
store_code-requires c =
    let I = c.loop-p.invariant in
    (stored_row c.requires.passes I (omega (arith, c.ahead-p-end.ensures)) c.pair_ahead-one.ensures.first, omega (arith, I.size, c.ahead-p-end.ensures))

pub store_code-requires-in-loop-p : goal.store_code-requires-in-loop-p
store_code-requires-in-loop-p c =
    -- past the first bucket of the pair
    let once = stored_more c.requires.passes c.loop-p.invariant (omega (arith, c.ahead-p-end.ensures)) c.pair_ahead-one.ensures.first _ (omega arith)
    c.store_code.ensures c.store_code.auto.table in
    (stored_row c.requires.passes once (omega (arith, c.ahead-p-end.ensures)) c.pair_ahead-one.ensures.second, omega (arith, once.size, c.ahead-p-end.ensures))

pub loop-p-preserved : goal.loop-p-preserved
loop-p-preserved c =
    let u = c.args.self in
    let once = stored_more c.requires.passes c.loop-p.invariant (omega (arith, c.ahead-p-end.ensures)) c.pair_ahead-one.ensures.first _ (omega arith)
    c.store_code.ensures c.store_code.auto.table in
    let e : 2 * c.loop-p.p + 1 + 1 ≡ 2 * (c.loop-p.p + 1) = omega arith in
    subst (CellsStored u.width.bits u.buckets (number_from u.bytes.now) _) e
    (stored_more c.requires.passes once (omega (arith, c.ahead-p-end.ensures)) c.pair_ahead-one.ensures.second _ (omega arith)
    c.store_code-in-loop-p.ensures c.store_code-in-loop-p.auto.table)

pub returns : goal.returns
returns c =
    let u = c.args.self in
    let e : 2 * c.loop-p.p ≡ 2 * ((u.buckets - 4) / 2) = omega (arith, c.ahead-p-end.ensures, c.loop-p-test.false, c.loop-p.auto.p-end) in
    subst (CellsStored u.width.bits u.buckets (number_from u.bytes.now) _) e c.loop-p.invariant
