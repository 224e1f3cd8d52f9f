-- The laws that the code uses, each by its lemma.
-- Assumes nothing.
use Rattle.packed_form.specs.Laws.{PackedLaws}
use Rattle.packed_form.proofs.Sort.{sort_ascends, sort_below}
use Rattle.packed_form.proofs.Codes.{highs, code_below}
use Rattle.packed_form.proofs.Refusals.{row_refused, order_refused, bucket_passes, bucket_passed, read_stopped, read_short, read_long, read_goes_on}
use Rattle.packed_form.proofs.RoundTrip.{packed_length}

pub packed-laws : PackedLaws
packed-laws = record {
  sort_ascends = sort_ascends;
  sort_below = sort_below;
  highs = highs;
  code_below = code_below;
  row_refused = row_refused;
  order_refused = order_refused;
  bucket_passes = bucket_passes;
  bucket_passed = bucket_passed;
  packed_length = packed_length;
  read_stopped = λ s bytes c e h. read_stopped s bytes c e h;
  read_short = read_short;
  read_long = read_long;
  read_goes_on = read_goes_on;
}
