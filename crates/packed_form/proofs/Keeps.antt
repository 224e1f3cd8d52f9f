-- Packing keeps every entry: a bucket's cells are the same values in another order, so that the entries are the same multiset of classes.
-- That is all that a call's answer depends on, but for a hold's moves, and all that the entries after it do. A hold's moves are the fewest,
-- and so as many.
-- Assumes nothing.
use mathlib.Core.Path.{◌≡◌, refl, sym, ap, ap₂, ◌∙◌}
use mathlib.Core.Logic.{◌≢◌, ◌⊎◌, inl, inr}
use mathlib.Core.Option.{Option, none, some}
use mathlib.Core.List.{List, [], ◌∷◌, ◌++◌, map}
use Prim.Native.Nat.{ℕ, zero, suc, ◌+◌, ◌*◌, ◌/◌, ◌<◌}
use native.Mathlib.Omega.{arith}
use lib.ListN.{length}
use Rattle.lemmas.specs.Sums.{sum_to}
use Rattle.lemmas.proofs.Sums.{sum-eq}
use Rattle.refusals.specs.Checks.{first_met}
use Rattle.refusals.specs.Outcomes.{Answer, refused, given, unless, done, outcome, keeping}
use Rattle.index.specs.Settings.{settings_refusal}
use Rattle.index.specs.Hash.{fingerprint, home}
use Rattle.index.specs.Candidates.{candidates, Class}
use Rattle.index.specs.declared.Settings.{Settings}
use Rattle.calls.specs.Cells.{cell, lowest_empty, in_first}
use Rattle.calls.specs.Search.{Ending, found, exhausted, search_for}
use Rattle.calls.specs.Calls.{Said, accepted, copies, tagged_checks, copies_in, lookup_in, lookup, found_in, emptied, release_in, release, hold_checks, placed, hold_in, hold}
use Rattle.calls.specs.Multiset.{Same}
use Rattle.calls.specs.Model.{Call, hold_of, release_of, lookup_of, model_call}
use Rattle.calls.specs.Demand.{table_call, run, entries, forget}
use Rattle.calls.specs.FewestMoves.{FewestMoves}
use Rattle.calls.specs.Laws.{weight_in, Agree}
use Rattle.calls.proofs.Laws.{multiset-laws, call-laws}
use Rattle.calls.proofs.FewestMoves.{holds-move-fewest}
use Rattle.packed_form.specs.Writer.{sort4, sort_buckets}
use Rattle.packed_form.specs.RoundTrip.{Packable, PackingKeeps, PackingGoesOn}
use Rattle.packed_form.proofs.Sort.{fours, sort-total, sorted-length}
use Rattle.packed_form.proofs.Moves.{sorted-alike, same-moves}

-- ── a sum over the cells by bucket and value ──
sum-front : (n : ℕ) (g : ℕ → ℕ) → sum_to (suc (suc (suc (suc n)))) g ≡ g 0 + g 1 + g 2 + g 3 + sum_to n (λ i. g (suc (suc (suc (suc i)))))
sum-front zero g = omega arith
sum-front (suc n) g = omega (arith, sum-front n g)

sum-sorted : (m : ℕ) (l : List ℕ) → length l ≡ 4 * m → (f : ℕ → ℕ → ℕ) → sum_to (4 * m) (λ i. f (i / 4) (cell (sort_buckets l) i)) ≡ sum_to (4 * m) (λ i. f (i / 4) (cell l i))
unfolding sort_buckets
sum-sorted = fours (λ m l. (f : ℕ → ℕ → ℕ) → sum_to (4 * m) (λ i. f (i / 4) (cell (sort_buckets l) i)) ≡ sum_to (4 * m) (λ i. f (i / 4) (cell l i)))
    (λ f. refl)
    (λ m a b c d l e ih f.
    let n : 4 * suc m ≡ suc (suc (suc (suc (4 * m)))) = omega arith in
    let up : (k : List ℕ) → sum_to (4 * m) (λ i. f (suc (suc (suc (suc i))) / 4) (cell k i)) ≡ sum_to (4 * m) (λ i. f (suc (i / 4)) (cell k i)) =
    λ k. sum-eq (4 * m) (λ i. f (suc (suc (suc (suc i))) / 4) (cell k i)) (λ i. f (suc (i / 4)) (cell k i)) (λ i h. ap (λ (x : ℕ). f x (cell k i)) (next i)) in
    rw n (omega (
      arith,
      sum-front (4 * m) (λ i. f (i / 4) (cell (sort4 a b c d ++ sort_buckets l) i)),
      sum-front (4 * m) (λ i. f (i / 4) (cell (a ∷ b ∷ c ∷ d ∷ l) i)),
      up (sort_buckets l),
      up l,
      ih (λ x. f (suc x)),
      sort-total a b c d (f 0),
    )))
  where
    next : (i : ℕ) → suc (suc (suc (suc i))) / 4 ≡ suc (i / 4)
    next i = omega arith

-- ── the answer of a lookup or a release has no moves to forget ──
lookup-said : (s : Settings) (c tag : List ℕ) → forget (lookup s c tag).answer ≡ (lookup s c tag).answer
unfolding lookup lookup_in
lookup-said s c tag = go (first_met (tagged_checks s c tag)) (copies_in s c (fingerprint s tag) (home s tag))
  where
    go : (o : Option ℕ) (n : ℕ) → forget (keeping c (unless o (given (done (copies n) c)))).answer ≡ (keeping c (unless o (given (done (copies n) c)))).answer
    go (some m) n = refl
    go none n = refl

release-said : (s : Settings) (c tag : List ℕ) → forget (release s c tag).answer ≡ (release s c tag).answer
unfolding release release_in
release-said s c tag = go (first_met (tagged_checks s c tag)) (found_in s c (fingerprint s tag) (home s tag))
  where
    go : (o i : Option ℕ) → forget (keeping c (unless o (emptied c i))).answer ≡ (keeping c (unless o (emptied c i))).answer
    go (some m) i = refl
    go none none = refl
    go none (some i) = refl

-- ── that of a hold has ──
HoldSaid : Answer Said → Type 0
HoldSaid a = ((d : ℕ) × (a ≡ given (accepted d))) ⊎ ((n : ℕ) × (a ≡ refused n))

hold-said : (s : Settings) (c : List ℕ) (n : ℕ) (tag : List ℕ) → HoldSaid (hold s c n tag).answer
unfolding hold hold_in HoldSaid
hold-said s c n tag =
    let p = fingerprint s tag in
    go (first_met (hold_checks s c n tag)) (in_first (lowest_empty c) (candidates s p (home s tag))) (search_for s c p (home s tag))
  where
    go : (o i : Option ℕ) (e : Ending) → HoldSaid (keeping c (unless o (placed c (fingerprint s tag) i e))).answer
    go (some m) i e = inr (m, refl)
    go none (some i) e = inl (0, refl)
    go none none (found i n q) = inl (length n.path, refl)
    go none none (exhausted q) = inr (9, refl)

same_answer : {a b : Answer Said} → HoldSaid a → HoldSaid b → forget a ≡ forget b → ((d e : ℕ) → a ≡ given (accepted d) → b ≡ given (accepted e) → d ≡ e) → a ≡ b
unfolding HoldSaid
same_answer (inl x) (inl y) h m = x.1 ∙ ap (λ (d : ℕ). given (accepted d)) (m x.0 y.0 x.1 y.1) ∙ sym y.1
same_answer (inl x) (inr y) h m = absurd (let g = sym (ap forget x.1) ∙ h ∙ ap forget y.1 in let z : ◌≡◌ {A = ℕ} 0 1 = cc in omega arith)
same_answer (inr x) (inl y) h m = absurd (let g = sym (ap forget x.1) ∙ h ∙ ap forget y.1 in let z : ◌≡◌ {A = ℕ} 0 1 = cc in omega arith)
same_answer (inr x) (inr y) h m = x.1 ∙ sym (ap forget x.1) ∙ h ∙ ap forget y.1 ∙ sym y.1

-- a lookup's tells the number
same-copies : {n m : ℕ} → given (copies n) ≡ given (copies m) → n ≡ m
same-copies e = cc

module _ (s : Settings) (c : List ℕ) (P : Packable s c) where
  same : Same (entries s (sort_buckets c)) (entries s c)
  same w =
      let L = call-laws s P.sound.settings in
      L.weighs w (sort_buckets c) ∙ sum-sorted s.buckets c P.sound.size (weight_in s w) ∙ sym (L.weighs w c)

  -- both tables agree with the model that has the entries of one
  pub sorted-agrees : Agree s (sort_buckets c) (entries s c)
  sorted-agrees = record { same = same; size = sorted-length s.buckets c P.sound.size ∙ P.sound.size }

  agrees : Agree s c (entries s c)
  agrees = record { same = λ w. refl; size = P.sound.size }

  lookups : (tag : List ℕ) → (lookup s (sort_buckets c) tag).answer ≡ (lookup s c tag).answer
  lookups tag =
      let L = call-laws s P.sound.settings in
      let sorted = L.steps (sort_buckets c) (entries s c) sorted-agrees (lookup_of tag) in
      let plain = L.steps c (entries s c) agrees (lookup_of tag) in
      sym (lookup-said s (sort_buckets c) tag) ∙ sorted.reply ∙ sym plain.reply ∙ lookup-said s c tag

  counts : (p b : ℕ) → p ≢ 0 → b < s.buckets → copies_in s (sort_buckets c) p b ≡ copies_in s c p b
  unfolding lookup_in
  counts p b n l =
      let L = call-laws s P.sound.settings in
      same-copies ((L.looks_up (sort_buckets c) (entries s c) sorted-agrees p b n l).reply ∙ sym (L.looks_up c (entries s c) agrees p b n l).reply)

-- ── two tables that agree with one model, whatever calls come ──
module _ (s : Settings) (e : settings_refusal s ≡ none) where
  record Alike (c c' : List ℕ) (l : List Call) : Type 0 where
    pub replies : map forget (run s c l).replies ≡ map forget (run s c' l).replies
    pub classes : Same (entries s (run s c l).cells) (entries s (run s c' l).cells)

  said : (c c' : List ℕ) (E : List Class) → Agree s c E → Agree s c' E → (a : Call) → forget (table_call s c a).answer ≡ forget (table_call s c' a).answer
  said c c' E A A' a = ((call-laws s e).steps c E A a).reply ∙ sym ((call-laws s e).steps c' E A' a).reply

  alike : (l : List Call) (c c' : List ℕ) (E : List Class) → Agree s c E → Agree s c' E → Alike c c' l
  alike [] c c' E A A' = record { replies = refl; classes = λ w. A.same w ∙ sym (A'.same w) }
  alike (a ∷ l) c c' E A A' =
      let L = call-laws s e in
      let r = alike l (table_call s c a).leaves (table_call s c' a).leaves (model_call s E a).leaves (L.steps c E A a).after (L.steps c' E A' a).after in
      record { replies = ap₂ (λ (x : Answer Said) (xs : List (Answer Said)). x ∷ xs) (said c c' E A A' a) r.replies; classes = r.classes }

pub packing-keeps : PackingKeeps
packing-keeps = record {
  lookups = λ s c tag P. lookups s c P tag;
  counts = λ s c p b P. counts s c P p b;
  classes = λ s c P. multiset-laws.permutes (entries s (sort_buckets c)) (entries s c) (same s c P);
}

pub packing-goes-on : PackingGoesOn
packing-goes-on = record {
  releases = λ s c tag P. sym (release-said s (sort_buckets c) tag) ∙ told s c P (release_of tag) ∙ release-said s c tag;
  holds = λ s c tag n P. holds s c tag n P;
  replies = λ s c l P. (runs s c P l).replies;
  classes = λ s c l P. multiset-laws.permutes _ _ (runs s c P l).classes;
}
  where
    told : (s : Settings) (c : List ℕ) → Packable s c → (a : Call) → forget (table_call s (sort_buckets c) a).answer ≡ forget (table_call s c a).answer
    told s c P a = said s P.sound.settings (sort_buckets c) c (entries s c) (sorted-agrees s c P) (agrees s c P) a

    runs : (s : Settings) (c : List ℕ) (P : Packable s c) (l : List Call) → Alike s P.sound.settings (sort_buckets c) c l
    runs s c P l = alike s P.sound.settings l (sort_buckets c) c (entries s c) (sorted-agrees s c P) (agrees s c P)

    fewest : (s : Settings) (k tag : List ℕ) (n d : ℕ) → (hold s k n tag).answer ≡ given (accepted d) → FewestMoves s k (fingerprint s tag) (home s tag) d (hold s k n tag).leaves
    fewest s k tag n d e = holds-move-fewest.holds s k n tag d (hold s k n tag).leaves (ap (λ (a : Answer Said). outcome a (hold s k n tag).leaves) e)

    holds : (s : Settings) (c tag : List ℕ) (n : ℕ) → Packable s c → (hold s (sort_buckets c) n tag).answer ≡ (hold s c n tag).answer
    holds s c tag n P =
        let size = sorted-length s.buckets c P.sound.size ∙ P.sound.size in
        let k = sort_buckets c in
        same_answer (hold-said s k n tag) (hold-said s c n tag) (told s c P (hold_of tag n)) (λ d e D E.
        same-moves s P.sound.settings k c _ _ _ _ d e size P.sound.size (sorted-alike s.buckets c P.sound.size) (fewest s k tag n d D) (fewest s c tag n e E))
