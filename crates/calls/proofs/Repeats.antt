-- Repeats among candidates change nothing: what a repeat would be looked at for has been looked at already.
-- Assumes nothing.
use mathlib.Core.Path.{◌≡◌, refl, sym, ap, ap₂, ◌∙◌}
use mathlib.Core.Bool.{Bool, true, false, cond}
use mathlib.Core.Option.{Option, none, some}
use mathlib.Core.List.{List, [], ◌∷◌, ◌++◌, map, append_assoc}
use Prim.Native.Nat.{ℕ, zero, suc, ◌<◌}
use native.Mathlib.Omega.{arith}
use borrow.Author.Tests.{ltb-true}
use lib.Dec.{eqb, ltb}
use lib.ListN.{length, get_or}
use Rattle.lemmas.specs.Count.{occ, ◌among◌}
use Rattle.lemmas.specs.Members.{firsts_past, firsts}
use Rattle.lemmas.proofs.Count.{eqb-ne, hit-refl, among-cons, among-nil}
use Rattle.refusals.specs.Checks.{Check, first_met}
use Rattle.refusals.specs.Outcomes.{unless, keeping}
use Rattle.refusals.proofs.Cursor.{start, all-passed}
use Rattle.index.specs.Settings.{degenerate, former_refusal, settings_checks, settings_refusal, unmasked}
use Rattle.index.specs.Hash.{fingerprint, home, tag_checks}
use Rattle.index.specs.Candidates.{others, candidates}
use Rattle.index.specs.Laws.{Laws}
use Rattle.index.specs.DegenerateMasks.{SamePlaces}
use Rattle.index.specs.declared.Settings.{Settings}
use Rattle.index.proofs.DegenerateMasks.{degenerate-laws}
use Rattle.index.proofs.Laws.{laws}
use Rattle.calls.specs.Cells.{cell, cells_of, lowest_at, lowest_empty, or_else, in_first}
use Rattle.calls.specs.Search.{Node, node, marked, Ending, exhausted, arrive, walk, through, leads_to, search_from, roots_from, search_for}
use Rattle.calls.specs.Calls.{Act, Result, size_checks, table_checks, scratch_checks, tagged_checks, hold_checks, found_in, copies_in, lookup_in, lookup, emptied}
use Rattle.calls.specs.Calls.{release_in, release, placed, hold_in, hold}
use Rattle.calls.specs.Laws.{buckets_of}
use Rattle.calls.specs.Model.{Call, hold_of, release_of, lookup_of}
use Rattle.calls.specs.Demand.{table_call, Run, run}
use Rattle.calls.specs.Repeats.{later_checks, act_in, unchecked_call, unchecked_run, SameCalls}
use Rattle.calls.proofs.Nodes.{occ-queue, marked-true, marked-false, at-queued}

-- a number that is no first has been seen
seen-before : (x : ℕ) (seen : List ℕ) → eqb (occ x seen) 0 ≡ false → x among seen
seen-before x seen e = omega (arith, eqb-ne (occ x seen) 0 e)

-- ── the first of the buckets that has something ──
module _ (f : ℕ → Option ℕ) where
  first-once : (seen l : List ℕ) → ((x : ℕ) → x among seen → f x ≡ none) → in_first f l ≡ in_first f (firsts_past seen l)
  first-once seen [] h = refl
  first-once seen (x ∷ l) h = go (firsts_past (x ∷ seen) l) (eqb (occ x seen) 0) refl (f x) refl (first-once (x ∷ seen) l)
    where
      go : (rest : List ℕ) (b : Bool) → eqb (occ x seen) 0 ≡ b → (o : Option ℕ) → f x ≡ o → (((y : ℕ) → y among x ∷ seen → f y ≡ none) → in_first f l ≡ in_first f rest)
          → or_else o (in_first f l) ≡ in_first f (cond b (x ∷ rest) rest)
      go rest true e (some i) k r = rw k refl
      go rest true e none k r = rw k (r (among-cons (λ y. f y ≡ none) x seen k h))
      go rest false e (some i) k r = absurd (let q : none ≡ some i = sym (h x (seen-before x seen e)) ∙ k in let z : ◌≡◌ {A = ℕ} 0 1 = cc in omega arith)
      go rest false e none k r = r (among-cons (λ y. f y ≡ none) x seen k h)

  pub first-of-firsts : (l : List ℕ) → in_first f l ≡ in_first f (firsts l)
  unfolding firsts
  first-of-firsts l = first-once [] l (among-nil (λ x. f x ≡ none))

-- ── the queue at the start ──
abbrev Queued : List ℕ → List Node → Type 0
Queued seen q = (x : ℕ) → x among seen → x among buckets_of q

-- a bucket that has been seen, or is queued now, is marked
queued-more : (seen : List ℕ) (q : List Node) (n : Node) → Queued seen q → Queued (n.bucket ∷ seen) (q ++ (n ∷ []))
queued-more seen q n h =
    among-cons (λ x. x among buckets_of (q ++ (n ∷ []))) n.bucket seen (omega (arith, occ-queue n.bucket q (n ∷ []), hit-refl n.bucket))
    (λ x k. omega (arith, occ-queue x q (n ∷ []), h x k))

queued-marked : (seen : List ℕ) (q : List Node) (x : ℕ) → Queued seen q → marked x q ≡ true → Queued (x ∷ seen) q
queued-marked seen q x h e = among-cons (λ y. y among buckets_of q) x seen (marked-true x q e) h

-- so that one that is not marked is a first
unmarked-first : {A : Type 0} (seen : List ℕ) (q : List Node) (x : ℕ) → Queued seen q → marked x q ≡ false → eqb (occ x seen) 0 ≡ false → A
unmarked-first seen q x h e k = absurd (omega (arith, h x (seen-before x seen k), marked-false x q e))

roots-once : (seen l : List ℕ) (q : List Node) → Queued seen q → roots_from l q ≡ roots_from (firsts_past seen l) q
roots-once seen [] q h = refl
roots-once seen (x ∷ l) q h = go (firsts_past (x ∷ seen) l) (eqb (occ x seen) 0) refl (marked x q) refl (roots-once (x ∷ seen) l)
  where
    go : (rest : List ℕ) (b : Bool) → eqb (occ x seen) 0 ≡ b → (m : Bool) → marked x q ≡ m → ((r : List Node) → Queued (x ∷ seen) r → roots_from l r ≡ roots_from rest r)
        → cond m (roots_from l q) (roots_from l (q ++ (node x [] ∷ []))) ≡ roots_from (cond b (x ∷ rest) rest) q
    go rest true e true k r = rw k (r q (queued-marked seen q x h k))
    go rest true e false k r = rw k (r (q ++ (node x [] ∷ [])) (queued-more seen q (node x []) h))
    go rest false e true k r = r q (queued-marked seen q x h k)
    go rest false e false k r = unmarked-first seen q x h k e

-- ── a turn of the search ──
abbrev heads : List ℕ → List ℕ → List Node
heads path l = map (λ (x : ℕ). node x path) l

module _ (c : List ℕ) where
  -- buckets and then more of them
  walk-append : (ns ms q : List Node) (next : List Node → Ending) → walk c (ns ++ ms) q next ≡ walk c ns q (λ r. walk c ms r next)
  walk-append [] ms q next = refl
  walk-append (n ∷ ns) ms q next =
      ap₂ (λ (a b : Ending). arrive (marked n.bucket q) (lowest_empty c n.bucket) n q a b) (walk-append ns ms q next) (walk-append ns ms (q ++ (n ∷ [])) next)

  -- whatever comes next is the same for every queue that has the bucket that the turn is of
  walk-next : (b : ℕ) (ns q : List Node) (next other : List Node → Ending) → b among buckets_of q → ((r : List Node) → b among buckets_of r → next r ≡ other r) → walk c ns q next ≡ walk c ns q other
  walk-next b [] q next other k same = same q k
  walk-next b (n ∷ ns) q next other k same =
      ap₂ (λ (x y : Ending). arrive (marked n.bucket q) (lowest_empty c n.bucket) n q x y) (walk-next b ns q next other k same)
      (walk-next b ns (q ++ (n ∷ [])) next other (omega (arith, occ-queue b q (n ∷ []))) same)

  -- repeats are marked by then
  walk-once : (seen l path : List ℕ) (q : List Node) (next : List Node → Ending) → Queued seen q
      → walk c (heads path l) q next ≡ walk c (heads path (firsts_past seen l)) q next
  walk-once seen [] path q next h = refl
  walk-once seen (x ∷ l) path q next h = go (firsts_past (x ∷ seen) l) (eqb (occ x seen) 0) refl (marked x q) refl (lowest_empty c x) refl (λ r. walk-once (x ∷ seen) l path r next)
    where
      go : (rest : List ℕ) (b : Bool) → eqb (occ x seen) 0 ≡ b → (m : Bool) → marked x q ≡ m → (o : Option ℕ) → lowest_empty c x ≡ o
          → ((r : List Node) → Queued (x ∷ seen) r → walk c (heads path l) r next ≡ walk c (heads path rest) r next)
          → arrive m o (node x path) q (walk c (heads path l) q next) (walk c (heads path l) (q ++ (node x path ∷ [])) next) ≡ walk c (heads path (cond b (x ∷ rest) rest)) q next
      go rest true e true k o j r = rw k (r q (queued-marked seen q x h k))
      go rest true e false k (some i) j r = rw (k, j) refl
      go rest true e false k none j r = rw (k, j) (r (q ++ (node x path ∷ [])) (queued-more seen q (node x path) h))
      go rest false e true k o j r = r q (queued-marked seen q x h k)
      go rest false e false k o j r = unmarked-first seen q x h k e

-- ── two settings ──
module _ (s t : Settings) (L : Laws s) (K : Laws t) (P : SamePlaces s t) where
  -- behind the bucket itself the other candidates are the same but for repeats
  others-once : (p b : ℕ) → firsts_past (b ∷ []) (others t p b) ≡ firsts_past (b ∷ []) (others s p b)
  unfolding firsts
  others-once p b =
      let e : b ∷ firsts_past (b ∷ []) (others t p b) ≡ b ∷ firsts_past (b ∷ []) (others s p b) = sym (ap firsts (K.first p b)) ∙ sym (P.once p b) ∙ ap firsts (L.first p b) in
      cc

  module _ (c : List ℕ) where
    -- the cells of a bucket that is queued, one after the other
    through_same : (n : Node) (is : List ℕ) (q : List Node) (next other : List Node → Ending) → n.bucket among buckets_of q → ((r : List Node) → next r ≡ other r)
        → walk c (through t c n is) q next ≡ walk c (through s c n is) q other
    through_same n [] q next other k same = same q
    through_same n (i ∷ is) q next other k same =
        let b = n.bucket in
        let v = cell c i in
        let path = i ∷ n.path in
        let here : Queued (b ∷ []) q = among-cons (λ x. x among buckets_of q) b [] k (among-nil (λ x. x among buckets_of q)) in
        let then-t : List Node → Ending = λ r. walk c (through t c n is) r next in
        let then-s : List Node → Ending = λ r. walk c (through s c n is) r other in
        walk-append c (heads path (others t v b)) (through t c n is) q next
        ∙ walk-once c (b ∷ []) (others t v b) path q then-t here
        ∙ ap (λ (l : List ℕ). walk c (heads path l) q then-t) (others-once v b)
        ∙ walk-next c b (heads path (firsts_past (b ∷ []) (others s v b))) q then-t then-s k (λ r j. through_same n is r next other j same)
        ∙ sym (walk-once c (b ∷ []) (others s v b) path q then-s here)
        ∙ sym (walk-append c (heads path (others s v b)) (through s c n is) q other)

    search-same : (turns h : ℕ) (q : List Node) → search_from t c turns h q ≡ search_from s c turns h q
    unfolding search_from leads_to
    search-same zero h q = refl
    search-same (suc turns) h q = go (search-same turns (suc h)) (get_or q h (node 0 [])) (at-queued h q (node 0 [])) (ltb h (length q)) refl
      where
        go : ((r : List Node) → search_from t c turns (suc h) r ≡ search_from s c turns (suc h) r) → (n : Node) → (h < length q → n.bucket among buckets_of q) → (b : Bool) → ltb h (length q) ≡ b
            → cond b (walk c (through t c n (cells_of n.bucket)) q (search_from t c turns (suc h))) (exhausted q)
            ≡ cond b (walk c (through s c n (cells_of n.bucket)) q (search_from s c turns (suc h))) (exhausted q)
        go same n k true e = through_same n (cells_of n.bucket) q (search_from t c turns (suc h)) (search_from s c turns (suc h)) (k (ltb-true h (length q) e)) same
        go same n k false e = refl

    module _ (p b : ℕ) where
      roots-same : roots_from (candidates t p b) [] ≡ roots_from (candidates s p b) []
      unfolding firsts
      roots-same =
          let none_yet : Queued [] [] = among-nil (λ x. x among []) in
          roots-once [] (candidates t p b) [] none_yet
          ∙ ap (λ (l : List ℕ). roots_from l []) (sym (P.once p b))
          ∙ sym (roots-once [] (candidates s p b) [] none_yet)

      search-for-same : search_for t c p b ≡ search_for s c p b
      unfolding search_for
      search-for-same =
          search-same t.buckets 0 (roots_from (candidates t p b) [])
          ∙ ap₂ (λ (m : ℕ) (q : List Node). search_from s c m 0 q) (sym P.buckets) roots-same

      in-first-same : (f : ℕ → Option ℕ) → in_first f (candidates t p b) ≡ in_first f (candidates s p b)
      in-first-same f = first-of-firsts f (candidates t p b) ∙ ap (in_first f) (sym (P.once p b)) ∙ sym (first-of-firsts f (candidates s p b))

      lookup-same : lookup_in t c p b ≡ lookup_in s c p b
      unfolding lookup_in copies_in
      lookup-same = rw (P.set p b) refl

      release-same : release_in t c p b ≡ release_in s c p b
      unfolding release_in found_in
      release-same = ap (emptied c) (in-first-same (lowest_at c p))

      hold-same : hold_in t c p b ≡ hold_in s c p b
      unfolding hold_in
      hold-same = ap₂ (placed c p) (in-first-same (lowest_empty c)) search-for-same

-- ── whole calls ──
module _ (s : Settings) (e : former_refusal s ≡ none) (d : degenerate s ≡ true) where
  abbrev t : Settings
  t = unmasked s

  passes : settings_refusal t ≡ none
  passes = (degenerate-laws s).plain e d

  L : Laws s
  L = (degenerate-laws s).laws e

  K : Laws t
  K = laws t passes

  P : SamePlaces s t
  P = (degenerate-laws s).places e d

  -- nothing of the settings is met
  later : (c : List ℕ) (l : List Check) → first_met (table_checks t c ++ l) ≡ first_met (size_checks s c ++ l)
  unfolding table_checks
  later c l = ap first_met (append_assoc (settings_checks t) (size_checks t c) l) ∙ (all-passed (settings_checks t) (size_checks t c ++ l) (start _) passes).decides

  act : (c : List ℕ) (a : Call) → act_in t c a ≡ act_in s c a
  act c (hold_of tag n) = hold-same s t L K P c (fingerprint t tag) (home t tag) ∙ sym (ap₂ (hold_in s c) (P.print tag) (P.home tag))
  act c (release_of tag) = release-same s t L K P c (fingerprint t tag) (home t tag) ∙ sym (ap₂ (release_in s c) (P.print tag) (P.home tag))
  act c (lookup_of tag) = lookup-same s t L K P c (fingerprint t tag) (home t tag) ∙ sym (ap₂ (lookup_in s c) (P.print tag) (P.home tag))

  ends : (c : List ℕ) (a : Call) (o : Option ℕ) → o ≡ first_met (later_checks s c a) → keeping c (unless o (act_in t c a)) ≡ unchecked_call s c a
  unfolding unchecked_call
  ends c a o k = ap₂ (λ (x : Option ℕ) (y : Act). keeping c (unless x y)) k (act c a)

  whole : (c : List ℕ) (a : Call) → table_call t c a ≡ unchecked_call s c a
  unfolding hold hold_checks scratch_checks release lookup tagged_checks
  whole c (hold_of tag n) = ends c (hold_of tag n) _ (later c (scratch_checks t n ++ tag_checks tag))
  whole c (release_of tag) = ends c (release_of tag) _ (later c (tag_checks tag))
  whole c (lookup_of tag) = ends c (lookup_of tag) _ (later c (tag_checks tag))

  runs : (c : List ℕ) (l : List Call) → run t c l ≡ unchecked_run s c l
  runs c [] = refl
  runs c (a ∷ l) =
      let u = unchecked_call s c a in
      ap (λ (r : Result). record { replies = r.answer ∷ (run t r.leaves l).replies; cells = (run t r.leaves l).cells }) (whole c a)
      ∙ ap (λ (n : Run). record { replies = u.answer ∷ n.replies; cells = n.cells }) (runs u.leaves l)

  pub same-calls : SameCalls s (unmasked s)
  same-calls = record { lookups = lookup-same s t L K P; releases = release-same s t L K P; holds = hold-same s t L K P; calls = whole; runs = runs }
