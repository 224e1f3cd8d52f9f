use Prim.Native.Nat.{ℕ}
use mathlib.Core.List.{List}
use mathlib.Core.Path.{refl, sym, ap, ap₂, ◌∙◌}
use native.Mathlib.Omega.{arith}
use Rattle.refusals.specs.Outcomes.{given, outcome}
use Rattle.refusals.proofs.HandedOn.{handed_on}
use Rattle.index.proofs.Laws.{laws}
use Rattle.calls.specs.Calls.{Sound, accepted}
use Rattle.table.specs.declared.Placement.{Placement}
use Rattle.table.proofs.Guards.{Placing, sound, home-inside, listed, placing, inside}
use Rattle.table.proofs.Placing.{hold-refused, by-table, by-scratch, by-tag, hold-made, first-is, some-root, sought-is, free-inside, ended-within, comes}
use Rattle.table.proofs.search.hold.Goals as goal

pub returns-in_err-table_check : goal.returns-in_err-table_check
returns-in_err-table_check c =
    hold-refused _ _ _ _ (by-table _ _ _ _ c.in_err-table_check.ensures) (handed_on _ c.in_err-table_check.field-0.0 c.from_residual.ensures.1)

pub returns-then-scratch-m : goal.returns-then-scratch-m
returns-then-scratch-m c =
    hold-refused _ _ _ _ (by-scratch _ _ _ _ (sound _ _ c.in_ok-table_check.ensures) (omega (arith, c.if-scratch-m.true))) refl

pub returns-in_err-entry : goal.returns-in_err-entry
returns-in_err-entry c =
    hold-refused _ _ _ _ (by-tag _ _ _ _ (sound _ _ c.in_ok-table_check.ensures) c.if-scratch-m.false c.in_err-entry.ensures)
    (handed_on _ c.in_err-entry.field-0.0 c.from_residual-in_err-entry.ensures.1)

pub unwrap-list-requires : goal.unwrap-list-requires
unwrap-list-requires c =
    let S : Sound c.args.s c.args.table.now = sound _ _ c.in_ok-table_check.ensures in
    listed S (home-inside S c.args.tag.now c.in_ok-entry.ensures) _ _ c.candidates.ensures

pub first_empty-requires : goal.first_empty-requires
first_empty-requires c =
    let S : Sound c.args.s c.args.table.now = sound _ _ c.in_ok-table_check.ensures in
    let K : Placing c.args.s c.args.table.now c.in_ok-entry.entry.print c.in_ok-entry.entry.home c.as_slice-candidates.result.now =
    placing S (home-inside S c.args.tag.now c.in_ok-entry.ensures) _ c.candidates.ensures c.unwrap-list.ensures c.as_slice-candidates.ensures in
    inside K

pub new-queue-requires : goal.new-queue-requires
new-queue-requires c =
    let S : Sound c.args.s c.args.table.now = sound _ _ c.in_ok-table_check.ensures in
    (c.if-scratch-m.false, (laws _ S.settings).few_buckets)

pub seed-requires-clause-by_index : goal.seed-requires-clause-by_index
seed-requires-clause-by_index c =
    let S : Sound c.args.s c.args.table.now = sound _ _ c.in_ok-table_check.ensures in
    let K : Placing c.args.s c.args.table.now c.in_ok-entry.entry.print c.in_ok-entry.entry.home c.as_slice-candidates.result.now =
    placing S (home-inside S c.args.tag.now c.in_ok-entry.ensures) _ c.candidates.ensures c.unwrap-list.ensures c.as_slice-candidates.ensures in
    λ x k. omega (arith, c.new-queue.ensures.empty.0, S.size, inside K x k)

pub find_path-requires-clause-sound : goal.find_path-requires-clause-sound
find_path-requires-clause-sound c = sound _ _ c.in_ok-table_check.ensures

pub find_path-requires-clause-some_root : goal.find_path-requires-clause-some_root
find_path-requires-clause-some_root c =
    let S : Sound c.args.s c.args.table.now = sound _ _ c.in_ok-table_check.ensures in
    let K : Placing c.args.s c.args.table.now c.in_ok-entry.entry.print c.in_ok-entry.entry.home c.as_slice-candidates.result.now =
    placing S (home-inside S c.args.tag.now c.in_ok-entry.ensures) _ c.candidates.ensures c.unwrap-list.ensures c.as_slice-candidates.ensures in
    let same = c.seed.ensures.same_buckets ∙ c.new-queue.ensures.empty.0 in
    some-root K _ _ (rw same at c.seed.ensures.roots)

pub write_cell-requires : goal.write_cell-requires
write_cell-requires c =
    let S : Sound c.args.s c.args.table.now = sound _ _ c.in_ok-table_check.ensures in
    let K : Placing c.args.s c.args.table.now c.in_ok-entry.entry.print c.in_ok-entry.entry.home c.as_slice-candidates.result.now =
    placing S (home-inside S c.args.tag.now c.in_ok-entry.ensures) _ c.candidates.ensures c.unwrap-list.ensures c.as_slice-candidates.ensures in
    (free-inside _ _ _ _ S K.home-in _ (first-is K c.in-Some.ensures refl), omega (arith, S.size))

pub returns-in-Some : goal.returns-in-Some
returns-in-Some c =
    let S : Sound c.args.s c.args.table.now = sound _ _ c.in_ok-table_check.ensures in
    let K : Placing c.args.s c.args.table.now c.in_ok-entry.entry.print c.in_ok-entry.entry.home c.as_slice-candidates.result.now =
    placing S (home-inside S c.args.tag.now c.in_ok-entry.ensures) _ c.candidates.ensures c.unwrap-list.ensures c.as_slice-candidates.ensures in
    hold-made _ _ _ _ S c.if-scratch-m.false _ c.in_ok-entry.ensures
    (ap (outcome (given (accepted 0))) c.write_cell.ensures
    ∙ sym (comes _ _ _ _ S K.home-in c.args.scratch.now (Placement.Free _ _) (refl, first-is K c.in-Some.ensures refl)))

pub returns-in_default-find_path : goal.returns-in_default-find_path
returns-in_default-find_path c =
    let S : Sound c.args.s c.args.table.now = sound _ _ c.in_ok-table_check.ensures in
    let K : Placing c.args.s c.args.table.now c.in_ok-entry.entry.print c.in_ok-entry.entry.home c.as_slice-candidates.result.now =
    placing S (home-inside S c.args.tag.now c.in_ok-entry.ensures) _ c.candidates.ensures c.unwrap-list.ensures c.as_slice-candidates.ensures in
    let same = c.seed.ensures.same_buckets ∙ c.new-queue.ensures.empty.0 in
    hold-made _ _ _ _ S c.if-scratch-m.false _ c.in_ok-entry.ensures
    (sym (comes _ _ _ _ S K.home-in _ (Placement.Exhausted _)
    (first-is K c.in_default.ensures refl, sought-is K _ _ (rw same at c.seed.ensures.roots) _ _ c.in_default-find_path.is c.find_path.ensures.sought)))

pub relocate-requires-clause-some_root : goal.relocate-requires-clause-some_root
relocate-requires-clause-some_root c =
    let S : Sound c.args.s c.args.table.now = sound _ _ c.in_ok-table_check.ensures in
    let K : Placing c.args.s c.args.table.now c.in_ok-entry.entry.print c.in_ok-entry.entry.home c.as_slice-candidates.result.now =
    placing S (home-inside S c.args.tag.now c.in_ok-entry.ensures) _ c.candidates.ensures c.unwrap-list.ensures c.as_slice-candidates.ensures in
    let same = c.seed.ensures.same_buckets ∙ c.new-queue.ensures.empty.0 in
    let root = some-root K _ _ (rw same at c.seed.ensures.roots) in
    (root, omega (arith, root, c.find_path.ensures.grows))

pub relocate-requires-clause-free_inside : goal.relocate-requires-clause-free_inside
relocate-requires-clause-free_inside c =
    let S : Sound c.args.s c.args.table.now = sound _ _ c.in_ok-table_check.ensures in
    let K : Placing c.args.s c.args.table.now c.in_ok-entry.entry.print c.in_ok-entry.entry.home c.as_slice-candidates.result.now =
    placing S (home-inside S c.args.tag.now c.in_ok-entry.ensures) _ c.candidates.ensures c.unwrap-list.ensures c.as_slice-candidates.ensures in
    let same = c.seed.ensures.same_buckets ∙ c.new-queue.ensures.empty.0 in
    let E = ended-within _ _ _ _ S K.home-in _ (sought-is K _ _ (rw same at c.seed.ensures.roots) _ _ c.in-Some-find_path.is c.find_path.ensures.sought) in
    (omega (arith, S.size, c.find_path.ensures.same_buckets, same), E.0)

pub returns : goal.returns
returns c =
    let S : Sound c.args.s c.args.table.now = sound _ _ c.in_ok-table_check.ensures in
    let K : Placing c.args.s c.args.table.now c.in_ok-entry.entry.print c.in_ok-entry.entry.home c.as_slice-candidates.result.now =
    placing S (home-inside S c.args.tag.now c.in_ok-entry.ensures) _ c.candidates.ensures c.unwrap-list.ensures c.as_slice-candidates.ensures in
    let same = c.seed.ensures.same_buckets ∙ c.new-queue.ensures.empty.0 in
    let m = c.find_path.ensures.same_buckets ∙ same in
    hold-made _ _ _ _ S c.if-scratch-m.false _ c.in_ok-entry.ensures
    (ap₂ (λ (n : ℕ) (l : List ℕ). outcome (given (accepted n)) l) (rw m at c.relocate.ensures.value) (rw m at c.relocate.ensures.table_after)
    ∙ sym (comes _ _ _ _ S K.home-in _ (Placement.Path _ _ _ _)
    (refl, first-is K c.in_default.ensures refl, sought-is K _ _ (rw same at c.seed.ensures.roots) _ _ c.in-Some-find_path.is c.find_path.ensures.sought)))
