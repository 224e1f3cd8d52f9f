use lib.ListN.{length}
use mathlib.Core.Path.{◌≡◌, ap, ◌∙◌}
use native.Mathlib.Omega.{arith}
use Rattle.refusals.specs.Checks.{number_of}
use Rattle.refusals.proofs.HandedOn.{handed_on}
use Rattle.index.proofs.Laws.{laws}
use Rattle.packed_form.specs.Writer.{length_of_packed}
use Rattle.packed_form.proofs.Laws.{packed-laws}
use Rattle.packed.proofs.Bytes.{width_of, sound, refusal-above}
use Rattle.packed.proofs.read.Goals as goal

pub returns-in_err-table_check : goal.returns-in_err-table_check
returns-in_err-table_check c =
    let h = c.in_err-table_check.ensures in
    rw (handed_on _ c.in_err-table_check.field-0.0 c.from_residual.ensures.1) (packed-laws.read_stopped _ _ _ (ap number_of h) (refusal-above _ _ h))

pub packed_length-needed-requires : goal.packed_length-needed-requires
packed_length-needed-requires c = (sound _ _ c.in_ok-table_check.ensures).settings

pub returns-then-bytes-needed : goal.returns-then-bytes-needed
returns-then-bytes-needed c =
    packed-laws.read_short _ _ _ (sound _ _ c.in_ok-table_check.ensures) (omega (arith, c.packed_length-needed.ensures, c.if-bytes-needed.true))

pub returns-then-bytes-needed-2 : goal.returns-then-bytes-needed-2
returns-then-bytes-needed-2 c =
    packed-laws.read_long _ _ _ (sound _ _ c.in_ok-table_check.ensures) (omega (arith, c.packed_length-needed.ensures, c.if-bytes-needed-2.true))

pub invariant_of-width : goal.invariant_of-width
invariant_of-width c = let W = width_of _ (sound _ _ c.in_ok-table_check.ensures).settings in record { low = W.low; high = W.high }

pub invariant_of-unpack_by : goal.invariant_of-unpack_by
unfolding length_of_packed
invariant_of-unpack_by c =
    let L = laws _ (sound _ _ c.in_ok-table_check.ensures).settings in
    let size : length c.args.bytes.now ≡ length_of_packed c.args.s = omega (arith, c.packed_length-needed.ensures, c.if-bytes-needed.false, c.if-bytes-needed-2.false) in
    record { some = L.some_bucket; few = L.few_buckets; quads_are = c.table-quads.ensures; size = size; in_range = λ i. (c.type_inv.bytes i).fits }

pub unpack_by-requires : goal.unpack_by-requires
unpack_by-requires c = (sound _ _ c.in_ok-table_check.ensures).size

pub returns : goal.returns
returns c =
    let size : length c.args.bytes.now ≡ length_of_packed c.args.s = omega (arith, c.packed_length-needed.ensures, c.if-bytes-needed.false, c.if-bytes-needed-2.false) in
    c.unpack_by.ensures ∙ packed-laws.read_goes_on _ _ _ (sound _ _ c.in_ok-table_check.ensures) size
