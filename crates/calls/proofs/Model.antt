-- A table and a model that agree: after each call, and after each list of calls, they have answered alike and agree again.
-- Assumes nothing.
use mathlib.Core.Path.{◌≡◌, refl, sym, ap, ap₂, ◌∙◌}
use mathlib.Core.Logic.{◌≢◌}
use mathlib.Core.Option.{Option, none, some}
use mathlib.Core.List.{List, [], ◌∷◌, map}
use Prim.Native.Nat.{ℕ, ◌+◌, ◌/◌, ◌≤◌, ◌<◌}
use native.Mathlib.Omega.{arith}
use native.Mathlib.Decide.{dec_le}
use lib.ListN.{length, set, length-set}
use Rattle.lemmas.specs.Sums.{total}
use Rattle.refusals.specs.Checks.{first_met}
use Rattle.refusals.specs.Outcomes.{Answer, refused, given, unless, outcome, keeping}
use Rattle.index.specs.Hash.{fingerprint, home}
use Rattle.index.specs.Candidates.{candidates, Class, class_at}
use Rattle.index.specs.Laws.{Laws}
use Rattle.index.specs.declared.Settings.{Settings}
use Rattle.calls.specs.Cells.{lowest_at, lowest_empty, in_first}
use Rattle.calls.specs.Search.{Node, Ending, found, exhausted, search_for, relocate}
use Rattle.calls.specs.Calls.{Said, released, absent, accepted, copies, Act, found_in, copies_in, lookup_in, lookup, emptied, release_in, release, placed, hold_in, hold}
use Rattle.calls.specs.Multiset.{count, Same}
use Rattle.calls.specs.AssignmentDecided.{Room, decided}
use Rattle.calls.proofs.AssignmentDecided.{assignable, beside-none}
use Rattle.calls.specs.Model.{Call, hold_of, release_of, lookup_of, to_hold, to_release, to_lookup, model_act, model_checks, model_call, ModelRun, model_run}
use Rattle.calls.specs.Demand.{table_call, Run, run, entries, forget, is_accepted, is_released, tally}
use Rattle.calls.specs.Laws.{Finds, Agree, Step}
use Rattle.calls.proofs.Cells.{scan-finds, empty-finds, first_finds}
use Rattle.calls.proofs.Classes.{one_at, one-refl, count-total, erase-total, assignable-same, class_same}
use Rattle.calls.proofs.Copies.{copies-entries, no_copies}
use Rattle.calls.proofs.Queue.{Ends, search-ends}
use Rattle.calls.proofs.Weights.{weight_at, weight-empty, weight-filled, total-set, table-assigned}
use Rattle.calls.proofs.Moves.{length-relocate, placed_total, relocated-total}
use Rattle.calls.proofs.Exhausted.{not-assignable}
use Rattle.calls.proofs.Refusals.{hold-refusal, tag-refusal}

module _ (s : Settings) (L : Laws s) (c : List ℕ) (E : List Class) (A : Agree s c E) where
  -- a call that changes nothing
  stays : (r : Answer Said) → is_released r ≡ is_accepted r → Step s c (outcome r c) (outcome (forget r) E)
  stays r z = record { reply = refl; after = A; counted = omega (arith, z) }

  module _ (p b : ℕ) (n : p ≢ 0) (l : b < s.buckets) where
    abbrev k : Class
    k = class_at s p b

    -- ── hold ──
    gains : (d : List ℕ) (moves : ℕ) → length d ≡ length c → Same (entries s d) (k ∷ entries s c) → (a : Dec (Room [] (k ∷ E)))
        → Step s c (outcome (given (accepted moves)) d) (keeping E (to_hold k E a))
    gains d moves e m (yes a) = record
        { reply = refl; after = record { same = λ w. omega (arith, m w, A.same w); size = e ∙ A.size }; counted = omega (arith, m (λ x. 1)) }
    gains d moves e m (no a) = absurd (a (beside-none (k ∷ E) (assignable-same (entries s d) (k ∷ E) (λ w. omega (arith, m w, A.same w)) (table-assigned s L d))))

    -- what is written, v, is the fingerprint by its value
    put-total : (i : ℕ) → Finds c 0 (candidates s p b) (some i) → (v : ℕ) → v ≡ p → Same (entries s (set c i v)) (k ∷ entries s c)
    put-total i f v e = rw e (placed_total s L c p b i n l A.size f.0 f.1)

    moved-total : (i : ℕ) (m : Node) (q : List Node) → Ends s c (candidates s p b) (found i m q) → (v : ℕ) → v ≡ p
        → Same (entries s (relocate c i m.path v)) (k ∷ entries s c)
    moved-total i m q e v f = rw f (relocated-total s L c p b i m q n l A.size e)

    -- with no moves
    step-placed : (i : ℕ) → Finds c 0 (candidates s p b) (some i) → (r : Ending) (d : Dec (Room [] (k ∷ E)))
        → Step s c (keeping c (placed c p (some i) r)) (keeping E (to_hold k E d))
    step-placed i f r d = gains _ _ (length-set c i _) (put-total i f _ (omega arith)) d

    pub step-hold : Step s c (keeping c (hold_in s c p b)) (keeping E (to_hold k E (decided (k ∷ E))))
    unfolding hold_in
    step-hold = go (in_first (lowest_empty c) (candidates s p b)) (first_finds c 0 (lowest_empty c) (empty-finds c) (candidates s p b))
        (search_for s c p b) (search-ends s L c p b l) (decided (k ∷ E))
      where
        go : (o : Option ℕ) → Finds c 0 (candidates s p b) o → (r : Ending) → Ends s c (candidates s p b) r → (d : Dec (Room [] (k ∷ E)))
            → Step s c (keeping c (placed c p o r)) (keeping E (to_hold k E d))
        go (some i) f r e d = step-placed i f r d
        go none f (found i m q) e d = gains _ _ (length-relocate c i m.path _) (moved-total i m q e _ (omega arith)) d
        go none f (exhausted q) e (yes a) = absurd (not-assignable s L c p b l f q e E A.same (assignable (k ∷ E) a))
        go none f (exhausted q) e (no a) = stays (refused 9) refl

    -- ── lookup and release ──
    finds : Finds c p (candidates s p b) (found_in s c p b)
    unfolding found_in
    finds = first_finds c p (lowest_at c p) (scan-finds c p) (candidates s p b)

    -- a cell of the class is emptied: by its value what is written is an empty cell
    there : (i : ℕ) → Finds c p (candidates s p b) (some i) → (v : ℕ) → v ≡ 0 → (w : Class → ℕ) → total w (entries s (set c i v)) + w k ≡ total w (entries s c)
    there i f v e w =
        let m : i / 4 < s.buckets = L.below p b (i / 4) l f.1 in
        omega (
          arith,
          total-set s w c i v (omega arith) (omega (arith, A.size)),
          weight-empty s w i v e,
          ap (weight_at s w i) f.0,
          weight-filled s w i p n,
          ap w (class_same s L p b (i / 4) l f.1),
        )

    some-there : (i : ℕ) → Finds c p (candidates s p b) (some i) → 1 ≤ count k E
    some-there i f = omega (arith, there i f 0 refl (one_at k), one-refl k, A.same (one_at k), count-total k E)

    -- the copies in the candidate set are the model's
    copies-there : copies_in s c p b ≡ count k E
    copies-there = sym (copies-entries s L c p b l n) ∙ A.same (one_at k) ∙ sym (count-total k E)

    none-there : Finds c p (candidates s p b) none → count k E ≡ 0
    none-there f = sym copies-there ∙ no_copies s L c p b l f

    loses : (d : List ℕ) → length d ≡ length c → ((w : Class → ℕ) → total w (entries s d) + w k ≡ total w (entries s c)) → (a : 1 ≤ count k E)
        → Step s c (outcome (given released) d) (keeping E (to_release k E (yes a)))
    loses d e m a = record {
      reply = refl;
      after = record { same = λ w. omega (arith, m w, erase-total w k E (omega (arith, count-total k E)), A.same w); size = e ∙ A.size };
      counted = omega (arith, m (λ x. 1));
    }

    pub step-release : Step s c (keeping c (release_in s c p b)) (keeping E (to_release k E (dec_le 1 (count k E))))
    unfolding release_in
    step-release = go (found_in s c p b) finds (dec_le 1 (count k E))
      where
        go : (o : Option ℕ) → Finds c p (candidates s p b) o → (d : Dec (1 ≤ count k E)) → Step s c (keeping c (emptied c o)) (keeping E (to_release k E d))
        go none f (yes a) = absurd (omega (arith, none-there f))
        go none f (no a) = stays (given absent) refl
        go (some i) f (yes a) = loses _ (length-set c i _) (there i f _ (omega arith)) a
        go (some i) f (no a) = absurd (a (some-there i f))

    pub step-lookup : Step s c (keeping c (lookup_in s c p b)) (keeping E (to_lookup k E))
    unfolding lookup_in
    step-lookup = record { reply = ap (λ (n : ℕ). given (copies n)) (omega (arith, copies-there)); after = A; counted = omega arith }

  -- ── the calls, where no check is met ──
  abbrev pub table_act : Call → Act
  table_act (hold_of t n) = hold_in s c (fingerprint s t) (home s t)
  table_act (release_of t) = release_in s c (fingerprint s t) (home s t)
  table_act (lookup_of t) = lookup_in s c (fingerprint s t) (home s t)

  pub step-act : (a : Call) → Step s c (keeping c (table_act a)) (keeping E (model_act s E a))
  step-act (hold_of t n) = rw (L.class_tag t) (step-hold (fingerprint s t) (home s t) (L.print_filled t) (L.home_below t))
  step-act (release_of t) = rw (L.class_tag t) (step-release (fingerprint s t) (home s t) (L.print_filled t) (L.home_below t))
  step-act (lookup_of t) = rw (L.class_tag t) (step-lookup (fingerprint s t) (home s t) (L.print_filled t) (L.home_below t))

  -- both refuse alike
  pub table-call : (a : Call) → table_call s c a ≡ keeping c (unless (first_met (model_checks s a)) (table_act a))
  unfolding hold release lookup
  table-call (hold_of t n) = ap (λ (o : Option ℕ). keeping c (unless o (table_act (hold_of t n)))) (hold-refusal s c A.size t n)
  table-call (release_of t) = ap (λ (o : Option ℕ). keeping c (unless o (table_act (release_of t)))) (tag-refusal s c A.size t)
  table-call (lookup_of t) = ap (λ (o : Option ℕ). keeping c (unless o (table_act (lookup_of t)))) (tag-refusal s c A.size t)

  pub step_call : (a : Call) → Step s c (table_call s c a) (model_call s E a)
  unfolding model_call
  step_call a = rw (table-call a) (go (first_met (model_checks s a)))
    where
      go : (o : Option ℕ) → Step s c (keeping c (unless o (table_act a))) (keeping E (unless o (model_act s E a)))
      go none = step-act a
      go (some m) = stays (refused m) refl

-- ── a list of calls ──
pub record Runs (s : Settings) (c : List ℕ) (r : Run) (m : ModelRun) : Type 0 where
  pub replies : map forget r.replies ≡ m.replies
  pub after : Agree s r.cells m.entries
  pub counted : total (λ k. 1) (entries s r.cells) + tally is_released r.replies ≡ total (λ k. 1) (entries s c) + tally is_accepted r.replies

pub runs : (s : Settings) (L : Laws s) (l : List Call) (c : List ℕ) (E : List Class) → Agree s c E → Runs s c (run s c l) (model_run s E l)
runs s L [] c E A = record { replies = refl; after = A; counted = refl }
runs s L (a ∷ l) c E A =
    let t = step_call s L c E A a in
    let r = runs s L l (table_call s c a).leaves (model_call s E a).leaves t.after in
    record { replies = ap₂ ◌∷◌ t.reply r.replies; after = r.after; counted = omega (arith, t.counted, r.counted) }
