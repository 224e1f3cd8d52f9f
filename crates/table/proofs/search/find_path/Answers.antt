use Prim.Native.Nat.{◌+◌, ◌*◌, ◌≤◌, ◌<◌}
use mathlib.Core.Path.{sym, ap, ◌∙◌}
use native.Mathlib.Omega.{arith}
use Rattle.calls.specs.Cells.{cell}
use Rattle.table.proofs.Guards.{Placing, listed, placing, two, rest-is, from-below}
use Rattle.table.proofs.Scans.{next_of, at_among}
use Rattle.table.proofs.Walks.{other-on, cell-on, queue-on, queue-ends, ends_found}
use Rattle.table.specs.Internal.{place_is}
use Rattle.table.proofs.search.find_path.Goals as goal

pub unwrap-list-requires : goal.unwrap-list-requires
unwrap-list-requires c = listed c.requires.sound (omega (arith, c.bucket_of-b.ensures.0, c.queue.invariant.same_buckets, c.requires.of_table)) _ _ c.candidates.ensures

pub slice_bounds-other-items-count : goal.slice_bounds-other-items-count
slice_bounds-other-items-count c =
    let below : c.bucket_of-b.result < c.args.s.buckets = omega (arith, c.bucket_of-b.ensures.0, c.queue.invariant.same_buckets, c.requires.of_table) in
    let K : Placing c.args.s c.args.table.now (cell c.args.table.now (4 * c.bucket_of-b.result + c.cell.c)) c.bucket_of-b.result c.as_slice.result.now =
    placing c.requires.sound below _ c.candidates.ensures c.unwrap-list.ensures c.as_slice.ensures in
    omega (arith, two K)

pub slice_bounds-other-items-start : goal.slice_bounds-other-items-start
slice_bounds-other-items-start c =
    let below : c.bucket_of-b.result < c.args.s.buckets = omega (arith, c.bucket_of-b.ensures.0, c.queue.invariant.same_buckets, c.requires.of_table) in
    let K : Placing c.args.s c.args.table.now (cell c.args.table.now (4 * c.bucket_of-b.result + c.cell.c)) c.bucket_of-b.result c.as_slice.result.now =
    placing c.requires.sound below _ c.candidates.ensures c.unwrap-list.ensures c.as_slice.ensures in
    omega (arith, two K)

-- the queue is of the table's buckets, whatever loop has come to it
pub visit-place-requires : goal.visit-place-requires
visit-place-requires c =
    let below : c.bucket_of-b.result < c.args.s.buckets = omega (arith, c.bucket_of-b.ensures.0, c.queue.invariant.same_buckets, c.requires.of_table) in
    let K : Placing c.args.s c.args.table.now (cell c.args.table.now (4 * c.bucket_of-b.result + c.cell.c)) c.bucket_of-b.result c.as_slice.result.now =
    placing c.requires.sound below _ c.candidates.ensures c.unwrap-list.ensures c.as_slice.ensures in
    let same = c.other.invariant.same_buckets ∙ c.cell.invariant.same_buckets ∙ c.queue.invariant.same_buckets ∙ c.requires.of_table in
    let inside = from-below K _ _ (at_among _ _ c.other-test.true) in
    let order : c.queue.head < c.other.queue.tail = omega (arith, c.other.invariant.seen.since.order, c.cell.invariant.seen.since.order, c.queue-test.true) in
    (omega (arith, same, inside), omega arith, omega (arith, c.cell-test.true), omega (arith, same, c.requires.sound.size))

pub other-preserved : goal.other-preserved
other-preserved c =
    let old = c.other.invariant in
    let new = c.visit-place.ensures in
    let same = old.same_buckets ∙ c.cell.invariant.same_buckets ∙ c.queue.invariant.same_buckets ∙ c.requires.of_table in
    let order = c.cell.invariant.seen.since.order in
    record {
      same_reference = new.same_reference ∙ old.same_reference;
      same_buckets = new.same_buckets ∙ old.same_buckets;
      no_end = old.no_end;
      seen = other-on _ _ _ c.requires.some_root old.seen (omega (arith, c.queue.invariant.seen.rooted, order)) (omega (arith, order, c.queue-test.true))
          (next_of _ _ c.other-test.true) (rw same at new.visited) (sym (ap place_is c.in_default.is));
    }

pub cell-preserved : goal.cell-preserved
cell-preserved c =
    let below : c.bucket_of-b.result < c.args.s.buckets = omega (arith, c.bucket_of-b.ensures.0, c.queue.invariant.same_buckets, c.requires.of_table) in
    let K : Placing c.args.s c.args.table.now (cell c.args.table.now (4 * c.bucket_of-b.result + c.cell.c)) c.bucket_of-b.result c.as_slice.result.now =
    placing c.requires.sound below _ c.candidates.ensures c.unwrap-list.ensures c.as_slice.ensures in
    let old = c.cell.invariant in
    let new = c.other.invariant in
    record {
      same_reference = new.same_reference ∙ old.same_reference;
      same_buckets = new.same_buckets ∙ old.same_buckets;
      no_end = new.no_end;
      seen = cell-on _ _ _ c.requires.some_root old.seen (omega (arith, c.cell-test.true)) c.bucket_of-b.result c.bucket_of-b.ensures.1 (rest-is K) new.seen c.other-test.false;
    }

pub queue-preserved : goal.queue-preserved
queue-preserved c =
    let old = c.queue.invariant in
    let new = c.cell.invariant in
    record {
      same_reference = new.same_reference ∙ old.same_reference;
      same_buckets = new.same_buckets ∙ old.same_buckets;
      no_end = new.no_end;
      seen = queue-on _ _ _ c.requires.some_root old.seen (omega (arith, c.queue.queue.sparse.count, old.same_buckets, c.requires.of_table)) c.queue-test.true new.seen c.cell-test.false;
    }

pub returns-after-queue-clause-sought : goal.returns-after-queue-clause-sought
returns-after-queue-clause-sought c =
    let old = c.queue.invariant in
    rw old.no_end (queue-ends _ _ _ c.requires.some_root old.seen (rw (old.same_buckets ∙ c.requires.of_table) at c.queue.queue.sparse) c.queue-test.false)

pub returns-in-Some-clause-sought : goal.returns-in-Some-clause-sought
returns-in-Some-clause-sought c =
    let below : c.bucket_of-b.result < c.args.s.buckets = omega (arith, c.bucket_of-b.ensures.0, c.queue.invariant.same_buckets, c.requires.of_table) in
    let K : Placing c.args.s c.args.table.now (cell c.args.table.now (4 * c.bucket_of-b.result + c.cell.c)) c.bucket_of-b.result c.as_slice.result.now =
    placing c.requires.sound below _ c.candidates.ensures c.unwrap-list.ensures c.as_slice.ensures in
    let same = c.other.invariant.same_buckets ∙ c.cell.invariant.same_buckets ∙ c.queue.invariant.same_buckets ∙ c.requires.of_table in
    let new = c.visit-place.ensures in
    let room : c.queue.queue.tail ≤ c.args.s.buckets = omega (arith, c.queue.queue.sparse.count, c.queue.invariant.same_buckets, c.requires.of_table) in
    ends_found _ _ _ c.requires.some_root c.queue.invariant.seen room c.queue-test.true c.cell.invariant.seen (omega (arith, c.cell-test.true))
    c.bucket_of-b.result c.bucket_of-b.ensures.1 (rest-is K) c.other.invariant.seen (next_of _ _ c.other-test.true) (rw same at new.visited)
    (rw (new.same_buckets ∙ same) at c.visit-place.new.queue.sparse) c.in-Some.i (sym (ap place_is c.in-Some.is))
