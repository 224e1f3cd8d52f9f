use mathlib.Core.Path.{sym, ap, ◌∙◌}
use native.Mathlib.Omega.{arith}
use lib.ListN.{length-take}
use Rattle.refusals.specs.Checks.{number_of}
use Rattle.refusals.proofs.HandedOn.{handed_on}
use Rattle.calls.proofs.Laws.{writer-laws}
use Rattle.packed_form.specs.RoundTrip.{Packable}
use Rattle.packed_form.specs.Writer.{write_packed}
use Rattle.packed.proofs.Bytes.{width_of, sound, refusal-above}
use Rattle.packed.proofs.Writing.{call-short, call-writes}
use Rattle.packed.proofs.write.Goals as goal

pub returns-in_err-table_check : goal.returns-in_err-table_check
unfolding write_packed
returns-in_err-table_check c =
    let h = c.in_err-table_check.ensures in
    rw (handed_on _ c.in_err-table_check.field-0.0 c.from_residual.ensures.1) ((writer-laws _ _ _ _).stopped (ap number_of h) (refusal-above _ _ h))

pub invariant_of-too_wide : goal.invariant_of-too_wide
invariant_of-too_wide c = let W = width_of _ (sound _ _ c.in_ok-table_check.ensures).settings in record { low = W.low; high = W.high }

pub returns-then-too_wide : goal.returns-then-too_wide
unfolding write_packed
returns-then-too_wide c = (writer-laws _ _ _ _).wide (sound _ _ c.in_ok-table_check.ensures) (sym c.too_wide.ensures ∙ c.if-too_wide.true)

pub packed_length-needed-requires : goal.packed_length-needed-requires
packed_length-needed-requires c = (sound _ _ c.in_ok-table_check.ensures).settings

pub returns-then-out-needed : goal.returns-then-out-needed
returns-then-out-needed c =
    let packable : Packable c.args.s c.args.table.now = record { sound = sound _ _ c.in_ok-table_check.ensures; fits = sym c.too_wide.ensures ∙ c.if-too_wide.false } in
    call-short _ _ _ packable (omega (arith, c.packed_length-needed.ensures, c.if-out-needed.true))

pub write_buckets-requires : goal.write_buckets-requires
write_buckets-requires c =
    let packable : Packable c.args.s c.args.table.now = record { sound = sound _ _ c.in_ok-table_check.ensures; fits = sym c.too_wide.ensures ∙ c.if-too_wide.false } in
    (packable, simp length-take (omega (arith, c.packed_length-needed.ensures, c.if-out-needed.false)))

pub returns : goal.returns
returns c =
    let packable : Packable c.args.s c.args.table.now = record { sound = sound _ _ c.in_ok-table_check.ensures; fits = sym c.too_wide.ensures ∙ c.if-too_wide.false } in
    call-writes _ _ _ packable (omega (arith, c.packed_length-needed.ensures, c.if-out-needed.false)) c.packed_length-needed.ensures c.write_buckets.ensures
