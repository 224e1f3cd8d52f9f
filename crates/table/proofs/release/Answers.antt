use mathlib.Core.Path.{ap}
use native.Mathlib.Omega.{arith}
use Rattle.refusals.proofs.HandedOn.{handed_on}
use Rattle.calls.specs.Calls.{Sound, release, release_in}
use Rattle.table.specs.Internal.{place_is}
use Rattle.table.proofs.Guards.{Placing, sound, home-inside, listed, placing, inside, tag-stopped, tag_refused, known-found, release-told, emptied-told}
use Rattle.table.proofs.release.Goals as goal

pub returns-in_err-table_check : goal.returns-in_err-table_check
unfolding release
returns-in_err-table_check c =
    rw (handed_on _ c.in_err-table_check.field-0.0 c.from_residual.ensures.1) (tag-stopped _ _ _ (release_in _ _) c.in_err-table_check.ensures)

pub returns-in_err-entry : goal.returns-in_err-entry
unfolding release
returns-in_err-entry c =
    let S : Sound c.args.s c.args.table.now = sound _ _ c.in_ok-table_check.ensures in
    rw (handed_on _ c.in_err-entry.field-0.0 c.from_residual-in_err-entry.ensures.1) (tag_refused _ _ _ (release_in _ _) S c.in_err-entry.ensures)

-- the entry's bucket is in the table
pub unwrap-list-requires : goal.unwrap-list-requires
unwrap-list-requires c =
    let S : Sound c.args.s c.args.table.now = sound _ _ c.in_ok-table_check.ensures in
    listed S (home-inside S c.args.tag.now c.in_ok-entry.ensures) _ _ c.candidates.ensures

pub find-requires : goal.find-requires
find-requires c =
    let S : Sound c.args.s c.args.table.now = sound _ _ c.in_ok-table_check.ensures in
    let K : Placing c.args.s c.args.table.now c.in_ok-entry.entry.print c.in_ok-entry.entry.home c.as_slice.result.now =
    placing S (home-inside S c.args.tag.now c.in_ok-entry.ensures) _ c.candidates.ensures c.unwrap-list.ensures c.as_slice.ensures in
    inside K

pub returns-in_default : goal.returns-in_default
returns-in_default c =
    let S : Sound c.args.s c.args.table.now = sound _ _ c.in_ok-table_check.ensures in
    let K : Placing c.args.s c.args.table.now c.in_ok-entry.entry.print c.in_ok-entry.entry.home c.as_slice.result.now =
    placing S (home-inside S c.args.tag.now c.in_ok-entry.ensures) _ c.candidates.ensures c.unwrap-list.ensures c.as_slice.ensures in
    release-told S _ c.in_ok-entry.ensures K c.in_default.ensures

pub write_cell-requires : goal.write_cell-requires
write_cell-requires c =
    let S : Sound c.args.s c.args.table.now = sound _ _ c.in_ok-table_check.ensures in
    let K : Placing c.args.s c.args.table.now c.in_ok-entry.entry.print c.in_ok-entry.entry.home c.as_slice.result.now =
    placing S (home-inside S c.args.tag.now c.in_ok-entry.ensures) _ c.candidates.ensures c.unwrap-list.ensures c.as_slice.ensures in
    (known-found S c.args.tag.now c.in_ok-entry.ensures K c.find.ensures c.in-Some.i (ap place_is c.in-Some.is), omega (arith, S.size))

pub returns : goal.returns
returns c =
    let S : Sound c.args.s c.args.table.now = sound _ _ c.in_ok-table_check.ensures in
    let K : Placing c.args.s c.args.table.now c.in_ok-entry.entry.print c.in_ok-entry.entry.home c.as_slice.result.now =
    placing S (home-inside S c.args.tag.now c.in_ok-entry.ensures) _ c.candidates.ensures c.unwrap-list.ensures c.as_slice.ensures in
    emptied-told S _ c.in_ok-entry.ensures K c.find.ensures (ap place_is c.in-Some.is) c.write_cell.ensures
