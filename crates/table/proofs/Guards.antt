-- What a call knows once its checks are passed, and what it says where one is met.
-- Assumes nothing.
use mathlib.Core.Path.{◌≡◌, sym, ap, ap₂, subst, ◌∙◌}
use mathlib.Core.Logic.{inl, inr}
use mathlib.Core.Option.{Option, none, some}
use mathlib.Core.List.{List, ◌++◌}
use Prim.Native.Nat.{ℕ, ◌+◌, ◌*◌, ◌-◌, ◌/◌, ◌≤◌, ◌<◌}
use native.Mathlib.Omega.{arith}
use borrow.Author.Rules.{rules}
use lib.ListN.{length, take, drop, set, replicate, length-drop}
use Rattle.std.proofs.lemmas.List.{take_all}
use Rattle.std.specs.Prelude.{Result, Ok, Err, IsOk}
use Rattle.lemmas.specs.Count.{◌among◌}
use Rattle.lemmas.specs.Sums.{total_once}
use Rattle.refusals.specs.Checks.{first_met}
use Rattle.refusals.specs.Outcomes.{refused, given, unless, done, outcome, keeping}
use Rattle.refusals.specs.declared.Refusal.{Refusal}
use Rattle.refusals.proofs.Cursor.{start, all-met, all-passed, call-refused, call-goes-on}
use Rattle.index.specs.Settings.{settings_checks}
use Rattle.index.specs.Hash.{fingerprint, home, tag_checks}
use Rattle.index.specs.Candidates.{others, candidates}
use Rattle.index.specs.Answers.{entry_of, candidates_answer, Lists}
use Rattle.index.specs.declared.Settings.{Settings}
use Rattle.index.specs.declared.Entry.{Entry}
use Rattle.index.specs.declared.candidate_list.Candidates.{Candidates}
use Rattle.index.proofs.Laws.{laws}
use Rattle.index.proofs.Checks.{check-laws}
use Rattle.calls.specs.Cells.{copies_at, lowest_at, in_first}
use Rattle.calls.specs.Calls.{Act, cleared, table_checks, Sound, fresh, clear_table}
use Rattle.calls.specs.Calls.{tagged_checks, found_in, copies, copies_in, lookup, released, emptied, release, lookup_in, release_in}
use Rattle.calls.specs.Laws.{Finds}
use Rattle.calls.proofs.Laws.{scan-laws, table-check-laws, call-laws}
use Rattle.table.proofs.Scans.{part_among}

module _ (s : Settings) (c : List ℕ) where
  -- the check of settings and table is passed
  pub sound : none ≡ first_met (table_checks s c) → Sound s c
  sound e = (table-check-laws s c).sound (sym e)

  -- ── clear ──
  pub clear-stopped : {n : ℕ} → some n ≡ first_met (table_checks s c) → outcome (refused n) c ≡ clear_table s c
  unfolding clear_table
  clear-stopped e = call-refused c (given (done cleared (fresh s))) (sym e)

  pub clear-done : none ≡ first_met (table_checks s c) → {d : List ℕ} → d ≡ replicate (length c) 0 → outcome (given cleared) d ≡ clear_table s c
  unfolding clear_table fresh
  clear-done e f =
      ap (outcome (given cleared)) (f ∙ ap (λ (x : ℕ). replicate x 0) (sound e).size) ∙ call-goes-on c (given (done cleared (fresh s))) (sym e)

-- ── fingerprint p from bucket b: the list has its candidates, whose cells are in the table ──
pub record Placing (s : Settings) (c : List ℕ) (p b : ℕ) (l : List ℕ) : Type 0 where
  pub pass : Sound s c
  pub home-in : b < s.buckets
  pub list-is : l ≡ candidates s p b

module _ {s : Settings} {c : List ℕ} (S : Sound s c) {b : ℕ} (h : b < s.buckets) (p : ℕ) where
  answer : candidates_answer s p b ≡ given (candidates s p b)
  answer = (check-laws s).candidates_given p b S.settings h

  -- the index layer does not refuse them
  pub not-refused : {e : Refusal} → Lists (Err e) (candidates_answer s p b) → ⊥
  not-refused L = let f = L.says ∙ answer in let z : ◌≡◌ {A = ℕ} 0 1 = cc in omega arith

  pub listed : (r : Result Candidates Refusal) → Lists r (candidates_answer s p b) → IsOk r
  listed (Ok l) L = search rules
  listed (Err e) L = absurd (not-refused L)

  pub placing : {r : Result Candidates Refusal} {l : Candidates} {xs : List ℕ} → Lists r (candidates_answer s p b) → r ≡ Ok l → xs ≡ take l.count l.buckets → Placing s c p b xs
  placing {r} {l} {xs} L e f =
      let g = (subst (λ (x : Result Candidates Refusal). Lists x (candidates_answer s p b)) e L).says ∙ answer in
      record { pass = S; home-in = h; list-is = cc }

module _ {s : Settings} {c : List ℕ} {p b : ℕ} {l : List ℕ} (K : Placing s c p b l) where
  pub two : 2 ≤ length l
  two =
      let n : length l ≡ length (candidates s p b) = ap length K.list-is in
      elim ((laws s K.pass.settings).count p b) [ inl e ↦ omega arith | inr e ↦ omega arith ]

  -- the candidates from number j on, as the code lends them
  abbrev from : ℕ → List ℕ
  from j = take (length l - j) (drop j l)

  from-is : (j : ℕ) → from j ≡ drop j l
  from-is j = take_all (length l - j) (drop j l) (omega (arith, length-drop j l))

  -- the bucket itself comes first
  pub rest-is : from 1 ≡ others s p b
  rest-is = from-is 1 ∙ ap (drop 1) (K.list-is ∙ (laws s K.pass.settings).first p b)

  pub from-below : (j x : ℕ) → x among from j → x < s.buckets
  from-below j x k =
      (laws s K.pass.settings).below p b x K.home-in (rw K.list-is at (part_among l _ j x k))

  pub inside : (x : ℕ) → x among l → 4 * x + 4 ≤ length c
  inside x k = omega (arith, K.pass.size, (laws s K.pass.settings).below p b x K.home-in (rw K.list-is at k))

  pub few : length l ≤ 4
  few =
      let n : length l ≡ length (candidates s p b) = ap length K.list-is in
      elim ((laws s K.pass.settings).count p b) [ inl e ↦ omega arith | inr e ↦ omega arith ]

  -- a cell that is found in them
  pub found_inside : (v : ℕ) (o : Option ℕ) → Finds c v l o → (i : ℕ) → o ≡ some i → i < length c
  found_inside v o f i k = omega (arith, inside (i / 4) (subst (Finds c v l) k f).1)

-- ── a call with a tag, which does f with the tag's fingerprint and home bucket ──
module _ (s : Settings) (c t : List ℕ) (f : ℕ → ℕ → Act) where
  abbrev called : Act
  called = f (fingerprint s t) (home s t)

  pub tag-stopped : {n : ℕ} → some n ≡ first_met (table_checks s c) → outcome (refused n) c ≡ keeping c (unless (first_met (tagged_checks s c t)) called)
  unfolding tagged_checks
  tag-stopped e = call-refused c called (all-met (table_checks s c) (tag_checks t) (start _) (sym e))

  module _ (S : Sound s c) where
    -- past the table's checks the index layer refuses the tag as the table does
    tag-left : first_met (tagged_checks s c t) ≡ first_met (settings_checks s ++ tag_checks t)
    unfolding tagged_checks
    tag-left =
        (all-passed (table_checks s c) (tag_checks t) (start _) ((table-check-laws s c).passes S)).decides
        ∙ sym (all-passed (settings_checks s) (tag_checks t) (start _) S.settings).decides

    pub tag_refused : {k : ℕ} → refused k ≡ entry_of s t → outcome (refused k) c ≡ keeping c (unless (first_met (tagged_checks s c t)) called)
    tag_refused {k} e = call-refused c called (tag-left ∙ (check-laws s).entry_refused t k (sym e))

    pub tag_passes : (x : Entry) → given x ≡ entry_of s t → keeping c (f x.print x.home) ≡ keeping c (unless (first_met (tagged_checks s c t)) called)
    tag_passes x e =
        let g = (check-laws s).entry_given t x.print x.home (sym e) in
        ap₂ (λ (x y : ℕ). keeping c (f x y)) g.1 g.2 ∙ call-goes-on c called (tag-left ∙ g.0)

-- ── a call that has its tag's entry ──
module _ {s : Settings} {c : List ℕ} (S : Sound s c) (t : List ℕ) {x : Entry} (entry-is : given x ≡ entry_of s t) where
  -- the home bucket of a tag that passed is in the table
  pub home-inside : x.home < s.buckets
  home-inside = subst (λ (y : ℕ). y < s.buckets) (sym ((check-laws s).entry_given t x.print x.home (sym entry-is)).2) ((laws s S.settings).home_below t)

  module _ {l : List ℕ} (K : Placing s c x.print x.home l) where
    -- what find answers
    module _ {o : Option ℕ} (e : o ≡ in_first (lowest_at c x.print) l) where
      pub known-found : (i : ℕ) → o ≡ some i → i < length c
      known-found i k = found_inside K x.print _ (scan-laws.scans c x.print l) i (sym e ∙ k)

      found-is : o ≡ found_in s c x.print x.home
      unfolding found_in
      found-is = e ∙ ap (in_first (lowest_at c x.print)) K.list-is

      pub release-told : keeping c (emptied c o) ≡ release s c t
      unfolding release release_in
      release-told = ap (λ (x : Option ℕ). keeping c (emptied c x)) found-is ∙ tag_passes s c t (release_in s c) S x entry-is

      pub emptied-told : {i : ℕ} {c' : List ℕ} → o ≡ some i → c' ≡ set c i 0 → outcome (given released) c' ≡ release s c t
      emptied-told k f = ap (outcome (given released)) f ∙ ap (λ (x : Option ℕ). keeping c (emptied c x)) (sym k) ∙ release-told

    -- what count answers
    pub lookup-told : {n : ℕ} → n ≡ total_once (length c / 4) (copies_at c x.print) l → outcome (given (copies n)) c ≡ lookup s c t
    unfolding lookup lookup_in
    lookup-told e =
        let m : length c / 4 ≡ s.buckets = omega (arith, S.size) in
        let i : total_once (length c / 4) (copies_at c x.print) l ≡ copies_in s c x.print x.home =
        ap₂ (λ (y : ℕ) (z : List ℕ). total_once y (copies_at c x.print) z) m K.list-is ∙ (call-laws s S.settings).listed_once c x.print x.home K.home-in in
        ap (λ (y : ℕ). outcome (given (copies y)) c) (e ∙ i) ∙ tag_passes s c t (lookup_in s c) S x entry-is
