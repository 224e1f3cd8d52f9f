-- A hold, and the search for a tag's place: what their checks refuse, where the search ends, and what a hold then comes to.
-- Assumes nothing.
use mathlib.Core.Path.{◌≡◌, refl, sym, ap, ap₂, ◌∙◌, subst}
use mathlib.Core.Bool.{Bool, true, false, cond}
use mathlib.Core.Option.{Option, none, some}
use mathlib.Core.List.{List, [], ◌∷◌, ◌++◌}
use Prim.Native.Nat.{ℕ, ◌+◌, ◌*◌, ◌/◌, ◌≤◌, ◌<◌}
use native.Mathlib.Omega.{arith}
use lib.ListN.{length, get_or, length-append}
use lib.Seq.{get_or-append_seam}
use Rattle.std.specs.Prelude.{Result, Ok, Err}
use Rattle.std.specs.Prelude as std
use Rattle.refusals.specs.Checks.{first_met}
use Rattle.refusals.specs.Outcomes.{refused, given, outcome, keeping}
use Rattle.refusals.specs.Refusals.{number_told, told}
use Rattle.refusals.specs.declared.Refusal.{Refusal}
use Rattle.refusals.specs.Laws.{Reached}
use Rattle.refusals.proofs.Cursor.{start, all-met, all-passed, call-refused, call-goes-on}
use Rattle.index.specs.Settings.{settings_checks}
use Rattle.index.specs.Hash.{fingerprint, home, tag_checks}
use Rattle.index.specs.Candidates.{candidates, others}
use Rattle.index.specs.Answers.{entry_of}
use Rattle.index.specs.declared.Settings.{Settings}
use Rattle.index.specs.declared.Entry.{Entry}
use Rattle.index.proofs.Laws.{laws}
use Rattle.index.proofs.Checks.{check-laws}
use Rattle.calls.specs.Cells.{lowest_empty, in_first}
use Rattle.calls.specs.Search.{Node, node, marked, Ending, search_from, search_for, roots_from}
use Rattle.calls.specs.Calls.{Act, table_checks, scratch_checks, Sound, hold_checks, settled, placed, hold_in, hold}
use Rattle.calls.specs.Laws.{Finds}
use Rattle.calls.proofs.Laws.{scan-laws, table-check-laws, call-laws}
use Rattle.table.specs.Answers.{hold_is, Holds}
use Rattle.table.specs.Scratch.{queue_in, path_in, Sparse}
use Rattle.table.specs.Probes.{Ended, free_in, Probed, Probes}
use Rattle.table.specs.Laws.{comes_from}
use Rattle.table.specs.Internal.{Sought}
use Rattle.table.specs.declared.Placement.{Placement}
use Rattle.table.proofs.Guards.{Placing}
use Rattle.table.proofs.Scratch.{queue-length, path-at}

-- ── the checks: of a hold, and of the search alone ──
module _ (s : Settings) (c w t : List ℕ) where
  abbrev act : Act
  act = hold_in s c (fingerprint s t) (home s t)

  module _ {e : Refusal} (q : some (number_told e) ≡ first_met (hold_checks s c (length w) t)) where
    pub hold-refused : {r : Result ℕ Refusal} → r ≡ Err e → Holds r s c c w w t
    unfolding hold
    hold-refused f = rw f (record { does = call-refused c act (sym q); keeps = λ m g. refl })

    pub probe-refused : {r : Result Placement Refusal} → r ≡ Err e → Probes r s c w w t
    probe-refused f = rw (← q) (ap told f, refl)

  pub by-table : {n : ℕ} → some n ≡ first_met (table_checks s c) → some n ≡ first_met (hold_checks s c (length w) t)
  unfolding hold_checks
  by-table e = sym (all-met (table_checks s c) (scratch_checks s (length w) ++ tag_checks t) (start _) (sym e))

  module _ (S : Sound s c) where
    at-scratch : Reached (hold_checks s c (length w) t) (scratch_checks s (length w) ++ tag_checks t)
    unfolding hold_checks
    at-scratch = all-passed (table_checks s c) (scratch_checks s (length w) ++ tag_checks t) (start _) ((table-check-laws s c).passes S)

    pub by-scratch : length w < 2 * s.buckets → some 6 ≡ first_met (hold_checks s c (length w) t)
    by-scratch h = sym (all-met (scratch_checks s (length w)) (tag_checks t) at-scratch ((table-check-laws s c).scratch_refused (length w) h))

    module _ (l : 2 * s.buckets ≤ length w) where
      -- the tag decides
      tag-left : first_met (hold_checks s c (length w) t) ≡ first_met (settings_checks s ++ tag_checks t)
      tag-left =
          (all-passed (scratch_checks s (length w)) (tag_checks t) at-scratch ((table-check-laws s c).scratch_passes (length w) l)).decides
          ∙ sym (all-passed (settings_checks s) (tag_checks t) (start _) S.settings).decides

      pub by-tag : {n : ℕ} → refused n ≡ entry_of s t → some n ≡ first_met (hold_checks s c (length w) t)
      by-tag {n} e = sym (tag-left ∙ (check-laws s).entry_refused t n (sym e))

      module _ (x : Entry) (e : given x ≡ entry_of s t) where
        none-met : first_met (hold_checks s c (length w) t) ≡ none
        none-met = tag-left ∙ ((check-laws s).entry_given t x.print x.home (sym e)).0

        pub probe-made : (r : Placement) (w' : List ℕ) → Probed s c x.print x.home w' r → Probes (Ok r) s c w w' t
        probe-made r w' f = let g = (check-laws s).entry_given t x.print x.home (sym e) in rw (none-met, ← g.1, ← g.2) f

        pub hold-made : {r : Result ℕ Refusal} {c' w' : List ℕ} → outcome (hold_is r) c' ≡ keeping c (hold_in s c x.print x.home) → Holds r s c c' w w' t
        unfolding hold
        hold-made f =
            let g = (check-laws s).entry_given t x.print x.home (sym e) in
            let n = none-met in
            record {
              does = f ∙ ap₂ (λ (x y : ℕ). keeping c (hold_in s c x y)) g.1 g.2 ∙ call-goes-on c act n;
              keeps = λ k h. absurd (let z : ◌≡◌ {A = ℕ} 0 1 = cc in omega arith);
            }

-- ── fingerprint p from bucket b, with its candidates in a list ──
-- a root is queued
roots-grow : (xs : List ℕ) (q : List Node) → length q ≤ length (roots_from xs q)
roots-grow [] q = omega arith
roots-grow (x ∷ xs) q = go (marked x q) (roots-grow xs q) (roots-grow xs (q ++ (node x [] ∷ [])))
  where
    go : (b : Bool) → length q ≤ length (roots_from xs q) → length (q ++ (node x [] ∷ [])) ≤ length (roots_from xs (q ++ (node x [] ∷ [])))
        → length q ≤ length (cond b (roots_from xs q) (roots_from xs (q ++ (node x [] ∷ []))))
    go true r t = r
    go false r t = omega (arith, length-append q (node x [] ∷ []))

module _ {s : Settings} {c : List ℕ} {p b : ℕ} {l : List ℕ} (K : Placing s c p b l) where
  pub first-is : {o x : Option ℕ} → o ≡ in_first (lowest_empty c) l → o ≡ x → free_in s c p b ≡ x
  first-is e k = sym (ap (in_first (lowest_empty c)) K.list-is) ∙ sym e ∙ k

  -- w is scratch with the roots, w' at the search's end
  module _ (w : List ℕ) (roots : ℕ) (rooted : queue_in s.buckets w roots roots ≡ roots_from l []) where
    at-start : queue_in s.buckets w roots roots ≡ roots_from (candidates s p b) []
    at-start = rooted ∙ ap (λ (xs : List ℕ). roots_from xs []) K.list-is

    pub some-root : 1 ≤ roots
    some-root =
        let f : queue_in s.buckets w roots roots ≡ roots_from (others s p b) (node b [] ∷ []) = at-start ∙ ap (λ (xs : List ℕ). roots_from xs []) ((laws s K.pass.settings).first p b) in
        omega (arith, sym (queue-length s.buckets w roots roots) ∙ ap length f, roots-grow (others s p b) (node b [] ∷ []))

    pub sought-is : (w' : List ℕ) (t' : ℕ) {r x : std.Option ℕ} → r ≡ x → Sought (search_from s c s.buckets 0 (queue_in s.buckets w roots roots)) s.buckets w' roots t' r
        → Sought (search_for s c p b) s.buckets w' roots t' x
    unfolding search_for
    sought-is w' t' e S = rw (← e, ← at-start) S

-- ── what placing it comes to ──
module _ (s : Settings) (c : List ℕ) (p b : ℕ) (S : Sound s c) (below : b < s.buckets) where
  placed-is : {o : Option ℕ} → free_in s c p b ≡ o → keeping c (hold_in s c p b) ≡ keeping c (placed c p o (search_for s c p b))
  unfolding hold_in
  placed-is e = ap (λ (x : Option ℕ). keeping c (placed c p x (search_for s c p b))) e

  -- a cell that was found in a candidate is in the table
  pub free-inside : (i : ℕ) → free_in s c p b ≡ some i → i < length c
  free-inside i e =
      let f = subst (Finds c 0 (candidates s p b)) e (scan-laws.empties c (candidates s p b)) in
      omega (arith, S.size, (laws s S.settings).below p b (i / 4) below f.1)

  module _ (w : List ℕ) {i roots last : ℕ} (E : Ended (search_for s c p b) s.buckets w i roots last) where
    -- entry `last` is the node that was found
    upto : length (E.queue ++ (E.end ∷ [])) ≡ last + 1
    upto = length-append E.queue (E.end ∷ []) ∙ omega (arith, E.at)

    its-path : path_in s.buckets w roots last ≡ E.end.path
    its-path =
        sym (path-at s.buckets w roots (length (E.queue ++ (E.end ∷ []))) last (omega (arith, upto)))
        ∙ ap (λ (q : List Node). (get_or q last (node 0 [])).path) E.stands.queue
        ∙ ap (λ (x : ℕ). (get_or (E.queue ++ (E.end ∷ [])) x (node 0 [])).path) E.at
        ∙ ap (λ (x : Node). x.path) (get_or-append_seam E.queue E.end [] (node 0 []))

    pub ended-within : (i < length c) × Sparse s.buckets w (last + 1) × (1 ≤ roots)
    ended-within = (
      omega (arith, S.size, (call-laws s S.settings).found_within c p b below i E.end E.queue E.is),
      subst (Sparse s.buckets w) upto E.stands.sparse,
      E.rooted,
    )

  pub comes : (w : List ℕ) (r : Placement) → Probed s c p b w r → keeping c (hold_in s c p b) ≡ comes_from s c w r
  comes w (Placement.Free x i) f = placed-is f.1 ∙ rw f.0
  comes w (Placement.Path x i roots last) f = placed-is f.1 ∙ ap (λ (o : Ending). keeping c (settled c p o)) f.2.is ∙ rw (f.0, its-path w f.2)
  comes w (Placement.Exhausted k) f = placed-is f.0 ∙ ap (λ (o : Ending). keeping c (settled c p o)) f.1.is
