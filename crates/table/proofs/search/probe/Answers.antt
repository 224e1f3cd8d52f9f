use Prim.Native.Nat.{ℕ}
use borrow.Author.Rules.{rules}
use mathlib.Core.List.{List}
use mathlib.Core.Path.{◌≡◌, refl, subst, ◌∙◌}
use native.Mathlib.Omega.{arith}
use Rattle.refusals.proofs.HandedOn.{handed_on}
use Rattle.index.proofs.Laws.{laws}
use Rattle.calls.specs.Calls.{Sound}
use Rattle.calls.specs.Search.{Ending}
use Rattle.table.specs.Probes.{Ended, RanOut}
use Rattle.table.specs.declared.Placement.{Placement}
use Rattle.table.proofs.Guards.{Placing, sound, home-inside, listed, placing, inside}
use Rattle.table.proofs.Placing.{probe-refused, by-table, by-scratch, by-tag, probe-made, first-is, some-root, sought-is}
use Rattle.table.proofs.search.probe.Goals as goal

-- what the search says of the queue's words holds of scratch, which is given back
ended-back : {o : Ending} {m : ℕ} {w w' : List ℕ} {i roots last : ℕ} → w ≡ w' → Ended o m w i roots last → Ended o m w' i roots last
ended-back {o} {m} {i = i} {roots = roots} {last = last} e h = subst (λ (w : List ℕ). Ended o m w i roots last) e h

ran_out-back : {o : Ending} {m : ℕ} {w w' : List ℕ} {n : ℕ} → w ≡ w' → RanOut o m w n → RanOut o m w' n
ran_out-back {o} {m} {n = n} e h = subst (λ (w : List ℕ). RanOut o m w n) e h

pub returns-in_err-table_check : goal.returns-in_err-table_check
returns-in_err-table_check c =
    probe-refused _ _ _ _ (by-table _ _ _ _ c.in_err-table_check.ensures) (handed_on _ c.in_err-table_check.field-0.0 c.from_residual.ensures.1)

pub returns-then-scratch-buckets : goal.returns-then-scratch-buckets
returns-then-scratch-buckets c =
    probe-refused _ _ _ _ (by-scratch _ _ _ _ (sound _ _ c.in_ok-table_check.ensures) (omega (arith, c.if-scratch-buckets.true))) refl

pub returns-in_err-entry : goal.returns-in_err-entry
returns-in_err-entry c =
    probe-refused _ _ _ _ (by-tag _ _ _ _ (sound _ _ c.in_ok-table_check.ensures) c.if-scratch-buckets.false c.in_err-entry.ensures)
    (handed_on _ c.in_err-entry.field-0.0 c.from_residual-in_err-entry.ensures.1)

pub unwrap-list-requires : goal.unwrap-list-requires
unwrap-list-requires c =
    let S : Sound c.args.s c.args.table.now = sound _ _ c.in_ok-table_check.ensures in
    listed S (home-inside S c.args.tag.now c.in_ok-entry.ensures) _ _ c.candidates.ensures

pub first_empty-requires : goal.first_empty-requires
first_empty-requires c =
    let S : Sound c.args.s c.args.table.now = sound _ _ c.in_ok-table_check.ensures in
    let K : Placing c.args.s c.args.table.now c.in_ok-entry.entry.print c.in_ok-entry.entry.home c.as_slice-candidates.result.now =
    placing S (home-inside S c.args.tag.now c.in_ok-entry.ensures) _ c.candidates.ensures c.unwrap-list.ensures c.as_slice-candidates.ensures in
    inside K

pub new-queue-requires : goal.new-queue-requires
new-queue-requires c =
    let S : Sound c.args.s c.args.table.now = sound _ _ c.in_ok-table_check.ensures in
    (c.if-scratch-buckets.false, (laws _ S.settings).few_buckets)

pub seed-requires-clause-by_index : goal.seed-requires-clause-by_index
seed-requires-clause-by_index c =
    let S : Sound c.args.s c.args.table.now = sound _ _ c.in_ok-table_check.ensures in
    let K : Placing c.args.s c.args.table.now c.in_ok-entry.entry.print c.in_ok-entry.entry.home c.as_slice-candidates.result.now =
    placing S (home-inside S c.args.tag.now c.in_ok-entry.ensures) _ c.candidates.ensures c.unwrap-list.ensures c.as_slice-candidates.ensures in
    λ x k. omega (arith, c.new-queue.ensures.empty.0, S.size, inside K x k)

pub find_path-requires-clause-sound : goal.find_path-requires-clause-sound
find_path-requires-clause-sound c = sound _ _ c.in_ok-table_check.ensures

pub find_path-requires-clause-some_root : goal.find_path-requires-clause-some_root
find_path-requires-clause-some_root c =
    let S : Sound c.args.s c.args.table.now = sound _ _ c.in_ok-table_check.ensures in
    let K : Placing c.args.s c.args.table.now c.in_ok-entry.entry.print c.in_ok-entry.entry.home c.as_slice-candidates.result.now =
    placing S (home-inside S c.args.tag.now c.in_ok-entry.ensures) _ c.candidates.ensures c.unwrap-list.ensures c.as_slice-candidates.ensures in
    let same = c.seed.ensures.same_buckets ∙ c.new-queue.ensures.empty.0 in
    some-root K _ _ (rw same at c.seed.ensures.roots)

pub returns-in-Some : goal.returns-in-Some
returns-in-Some c =
    let S : Sound c.args.s c.args.table.now = sound _ _ c.in_ok-table_check.ensures in
    let K : Placing c.args.s c.args.table.now c.in_ok-entry.entry.print c.in_ok-entry.entry.home c.as_slice-candidates.result.now =
    placing S (home-inside S c.args.tag.now c.in_ok-entry.ensures) _ c.candidates.ensures c.unwrap-list.ensures c.as_slice-candidates.ensures in
    probe-made _ _ _ _ S c.if-scratch-buckets.false _ c.in_ok-entry.ensures (Placement.Free _ _) _ (refl, first-is K c.in-Some.ensures refl)

pub returns-in_default-find_path : goal.returns-in_default-find_path
returns-in_default-find_path c =
    let S : Sound c.args.s c.args.table.now = sound _ _ c.in_ok-table_check.ensures in
    let K : Placing c.args.s c.args.table.now c.in_ok-entry.entry.print c.in_ok-entry.entry.home c.as_slice-candidates.result.now =
    placing S (home-inside S c.args.tag.now c.in_ok-entry.ensures) _ c.candidates.ensures c.unwrap-list.ensures c.as_slice-candidates.ensures in
    let same = c.seed.ensures.same_buckets ∙ c.new-queue.ensures.empty.0 in
    probe-made _ _ _ _ S c.if-scratch-buckets.false _ c.in_ok-entry.ensures (Placement.Exhausted _) _ (
      first-is K c.in_default.ensures refl,
      ran_out-back (search rules) (sought-is K _ _ (rw same at c.seed.ensures.roots) _ _ c.in_default-find_path.is c.find_path.ensures.sought),
    )

pub overflow_sub-result : goal.overflow_sub-result
overflow_sub-result c =
    let S : Sound c.args.s c.args.table.now = sound _ _ c.in_ok-table_check.ensures in
    let K : Placing c.args.s c.args.table.now c.in_ok-entry.entry.print c.in_ok-entry.entry.home c.as_slice-candidates.result.now =
    placing S (home-inside S c.args.tag.now c.in_ok-entry.ensures) _ c.candidates.ensures c.unwrap-list.ensures c.as_slice-candidates.ensures in
    let same = c.seed.ensures.same_buckets ∙ c.new-queue.ensures.empty.0 in
    omega (arith, some-root K _ _ (rw same at c.seed.ensures.roots), c.find_path.ensures.grows)

pub returns : goal.returns
returns c =
    let S : Sound c.args.s c.args.table.now = sound _ _ c.in_ok-table_check.ensures in
    let K : Placing c.args.s c.args.table.now c.in_ok-entry.entry.print c.in_ok-entry.entry.home c.as_slice-candidates.result.now =
    placing S (home-inside S c.args.tag.now c.in_ok-entry.ensures) _ c.candidates.ensures c.unwrap-list.ensures c.as_slice-candidates.ensures in
    let same = c.seed.ensures.same_buckets ∙ c.new-queue.ensures.empty.0 in
    probe-made _ _ _ _ S c.if-scratch-buckets.false _ c.in_ok-entry.ensures (Placement.Path _ _ _ _) _ (
      refl,
      first-is K c.in_default.ensures refl,
      ended-back (search rules) (sought-is K _ _ (rw same at c.seed.ensures.roots) _ _ c.in-Some-find_path.is c.find_path.ensures.sought),
    )
