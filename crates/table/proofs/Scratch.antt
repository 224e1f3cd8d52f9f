-- Scratch as a sparse set: which buckets are marked in it, what a bucket that is queued changes, and the paths of its entries.
-- Assumes nothing.
use mathlib.Core.Path.{◌≡◌, refl, sym, ap, ◌∙◌}
use mathlib.Core.Logic.{◌≢◌}
use mathlib.Core.Bool.{Bool, true, false, cond}
use mathlib.Core.List.{List, [], ◌∷◌, ◌++◌}
use Prim.Native.Nat.{ℕ, zero, suc, ◌+◌, ◌*◌, ◌-◌, ◌/◌, ◌%◌, ◌≤◌, ◌<◌}
use native.Mathlib.Omega.{arith}
use native.Mathlib.Numerals.{add-one}
use native.Mathlib.Decide.{dec_lt}
use borrow.Author.Count.{below_more}
use borrow.Author.Tests.{eqb-true, eqb-false, eq-eqb, ne_eqb, lt-ltb, le-ltb}
use lib.Dec.{eqb, ltb}
use lib.ListN.{length, get_or, set, length-append, length-set, get_or-append}
use lib.Seq.{get_or-set_same, get_or-set_other, get_or_at}
use Rattle.calls.specs.Search.{Node, node, marked}
use Rattle.table.specs.Scratch.{bucket_in, parent_in, origin_in, node_in, queue_in, path_in, Sparse}
use Rattle.table.specs.Internal.{reached, Queues}
use Rattle.calls.specs.Laws.{Distinct}
use Rattle.calls.proofs.Laws.{queue-laws}

-- ── the queue of the first t entries ──
pub queue-length : (m : ℕ) (w : List ℕ) (roots t : ℕ) → length (queue_in m w roots t) ≡ t
unfolding queue_in
queue-length m w roots zero = refl
queue-length m w roots (suc t) = simp (length-append, queue-length m w roots t) (omega arith)

pub queue-at : (m : ℕ) (w : List ℕ) (roots t i : ℕ) → i < t → get_or (queue_in m w roots t) i (node 0 []) ≡ node_in m w roots (queue_in m w roots i) i
unfolding queue_in
queue-at m w roots zero i h = absurd (omega arith)
queue-at m w roots (suc t) i h = go (dec_lt i t) (queue-at m w roots t i)
  where
    go : Dec (i < t) → (i < t → get_or (queue_in m w roots t) i (node 0 []) ≡ node_in m w roots (queue_in m w roots i) i)
        → get_or (queue_in m w roots t ++ (node_in m w roots (queue_in m w roots t) t ∷ [])) i (node 0 []) ≡ node_in m w roots (queue_in m w roots i) i
    go (yes l) rec = get_or-append (queue_in m w roots t) (node_in m w roots (queue_in m w roots t) t ∷ []) (node 0 []) i (rw queue-length l) ∙ rec l
    go (no l) rec =
        let e : t ≡ i = omega arith in
        get_or_at (queue_in m w roots t) (node_in m w roots (queue_in m w roots t) t) [] (node 0 []) i (queue-length m w roots t ∙ e)
        ∙ ap (λ (k : ℕ). node_in m w roots (queue_in m w roots k) k) e

pub bucket-at : (m : ℕ) (w : List ℕ) (roots t i : ℕ) → i < t → (get_or (queue_in m w roots t) i (node 0 [])).bucket ≡ bucket_in w i
bucket-at m w roots t i h = ap (λ (n : Node). n.bucket) (queue-at m w roots t i h)

-- ── marks ──
marked_more : (b : ℕ) (q : List Node) (n : Node) → marked b (q ++ (n ∷ [])) ≡ cond (marked b q) true (eqb n.bucket b)
marked_more b [] n = go (eqb n.bucket b)
  where
    go : (e : Bool) → cond e true false ≡ e
    go true = refl
    go false = refl
marked_more b (x ∷ q) n = rw (marked_more b q n) (go (eqb x.bucket b))
  where
    go : (e : Bool) → cond e true (cond (marked b q) true (eqb n.bucket b)) ≡ cond (cond e true (marked b q)) true (eqb n.bucket b)
    go true = refl
    go false = refl

-- an entry that names b marks it
marked-in : (m : ℕ) (w : List ℕ) (roots t b i : ℕ) → i < t → bucket_in w i ≡ b → marked b (queue_in m w roots t) ≡ true
unfolding queue_in
marked-in m w roots zero b i h e = absurd (omega arith)
marked-in m w roots (suc t) b i h e =
    marked_more b (queue_in m w roots t) (node_in m w roots (queue_in m w roots t) t) ∙ go (dec_lt i t) (λ l. marked-in m w roots t b i l e)
  where
    both : (x : Bool) → cond x true true ≡ true
    both true = refl
    both false = refl

    go : Dec (i < t) → (i < t → marked b (queue_in m w roots t) ≡ true) → cond (marked b (queue_in m w roots t)) true (eqb (bucket_in w t) b) ≡ true
    go (yes l) rec = rw (rec l)
    go (no l) rec = let z : t ≡ i = omega arith in rw (eq-eqb (bucket_in w t) b (ap (bucket_in w) z ∙ e)) (both (marked b (queue_in m w roots t)))

-- with no such entry it is not marked
marked-out : (m : ℕ) (w : List ℕ) (roots t b : ℕ) → ((i : ℕ) → i < t → bucket_in w i ≡ b → ⊥) → marked b (queue_in m w roots t) ≡ false
unfolding queue_in
marked-out m w roots zero b no-entry = refl
marked-out m w roots (suc t) b no-entry =
    marked_more b (queue_in m w roots t) (node_in m w roots (queue_in m w roots t) t)
    ∙ rw (marked-out m w roots t b (λ i h. no-entry i (omega arith))) (ne_eqb _ _ (no-entry t (omega arith)))

pub unmarked : (m : ℕ) (w : List ℕ) (roots t b i : ℕ) → marked b (queue_in m w roots t) ≡ false → i < t → bucket_in w i ≡ b → ⊥
unmarked m w roots t b i un h e = let z : true ≡ false = sym (marked-in m w roots t b i h e) ∙ un in let y : ◌≡◌ {A = ℕ} 0 1 = cc in omega arith

module _ {m : ℕ} {w : List ℕ} {t : ℕ} (sp : Sparse m w t) where
  -- ── what the test of a mark finds ──
  module _ (b : ℕ) where
    back-of : (i : ℕ) → i < t → bucket_in w i ≡ b → get_or w (m + b) 0 / 4 ≡ i
    back-of i l q = rw (sym q) (sp.back i l)

    pub marked-low : (roots : ℕ) → get_or w (m + b) 0 / 4 < t → eqb (bucket_in w (get_or w (m + b) 0 / 4)) b ≡ marked b (queue_in m w roots t)
    marked-low roots h = go (eqb (bucket_in w (get_or w (m + b) 0 / 4)) b) refl
      where
        go : (e : Bool) → eqb (bucket_in w (get_or w (m + b) 0 / 4)) b ≡ e → e ≡ marked b (queue_in m w roots t)
        go true e = sym (marked-in m w roots t b _ h (eqb-true _ _ e))
        go false e = sym (marked-out m w roots t b λ i l q. eqb-false _ _ e (ap (bucket_in w) (back-of i l q) ∙ q))

    pub marked-high : (roots : ℕ) → t ≤ get_or w (m + b) 0 / 4 → false ≡ marked b (queue_in m w roots t)
    marked-high roots h = sym (marked-out m w roots t b λ i l q. let z = back-of i l q in omega arith)

  -- ── no bucket stands twice, so that there is room for one that is not marked ──
  distinct-upto : (roots k : ℕ) → k ≤ t → Distinct m (queue_in m w roots k)
  unfolding queue_in
  distinct-upto roots zero h = (queue-laws m).starts
  distinct-upto roots (suc k) h =
      (queue-laws m).grows (queue_in m w roots k) (node_in m w roots (queue_in m w roots k) k) (distinct-upto roots k (omega arith)) (sp.low k (omega arith))
      (marked-out m w roots k (bucket_in w k) λ i l q. omega (arith, sp.back i (omega arith), sp.back k (omega arith), ap (λ (x : ℕ). get_or w (m + x) 0 / 4) q))

  pub sparse-room : (roots b : ℕ) → b < m → marked b (queue_in m w roots t) ≡ false → t < m
  sparse-room roots b l e = omega (arith, (queue-laws m).room (queue_in m w roots t) (node b []) (distinct-upto roots t (omega arith)) l e, queue-length m w roots t)

-- no entries at all are a sparse set, whatever the words
pub sparse-none : {m : ℕ} {w : List ℕ} → 2 * m ≤ length w → m ≤ 65536 → Sparse m w 0
sparse-none h l = record {
  big = h;
  small = l;
  count = omega arith;
  low = λ i b. absurd (omega arith);
  back = λ i b. absurd (omega arith);
  older = λ i b. absurd (omega arith);
}

-- fewer entries are a sparse set too
pub sparse-less : {m : ℕ} {w : List ℕ} {t : ℕ} (k : ℕ) → k ≤ t → Sparse m w t → Sparse m w k
sparse-less k h sp = record {
  big = sp.big;
  small = sp.small;
  count = omega (arith, sp.count);
  low = λ i l. sp.low i (omega arith);
  back = λ i l. sp.back i (omega arith);
  older = λ i l. sp.older i (omega arith);
}

-- ── a bucket is queued: the words of the old entries stand, and the new one stands at the tail ──
abbrev pub stored : ℕ → List ℕ → ℕ → ℕ → ℕ → ℕ → List ℕ
stored m w t b h k = set (set w t (b + 65536 * h)) (m + b) (4 * t + k)

same-node : (roots i : ℕ) (q : List Node) {b b' o o' p p' : ℕ} → b ≡ b' → o ≡ o' → p ≡ p'
    → node b (cond (ltb i roots) [] (o ∷ (get_or q p (node 0 [])).path)) ≡ node b' (cond (ltb i roots) [] (o' ∷ (get_or q p' (node 0 [])).path))
same-node roots i q e f g = cc

module _ (m : ℕ) (w : List ℕ) (t b h k : ℕ) (sp : Sparse m w t) (hb : b < m) (ht : t < m) (hk : k < 4) (hh : h ≤ t - 1)
    (un : marked b (queue_in m w 0 t) ≡ false) where
  entry_old : (i : ℕ) → i < t → get_or (stored m w t b h k) i 0 ≡ get_or w i 0
  entry_old i l = get_or-set_other (set w t (b + 65536 * h)) (m + b) i (4 * t + k) 0 (λ e. omega arith) ∙ get_or-set_other w t i (b + 65536 * h) 0 (λ e. omega arith)

  mark-old : (i : ℕ) → i < t → get_or (stored m w t b h k) (m + bucket_in w i) 0 ≡ get_or w (m + bucket_in w i) 0
  mark-old i l =
      get_or-set_other (set w t (b + 65536 * h)) (m + b) (m + bucket_in w i) (4 * t + k) 0 (λ e. unmarked m w 0 t b i un l (omega arith))
      ∙ get_or-set_other w t (m + bucket_in w i) (b + 65536 * h) 0 (λ e. omega arith)

  entry_new : get_or (stored m w t b h k) t 0 ≡ b + 65536 * h
  entry_new =
      get_or-set_other (set w t (b + 65536 * h)) (m + b) t (4 * t + k) 0 (λ e. omega arith)
      ∙ get_or-set_same w t (b + 65536 * h) 0 (let z = sp.big in omega arith)

  mark-new : get_or (stored m w t b h k) (m + b) 0 ≡ 4 * t + k
  mark-new = get_or-set_same (set w t (b + 65536 * h)) (m + b) (4 * t + k) 0 (simp length-set (let z = sp.big in omega arith))

  bucket-old : (i : ℕ) → i < t → bucket_in (stored m w t b h k) i ≡ bucket_in w i
  bucket-old i l = ap (λ x. x % 65536) (entry_old i l)

  parent-old : (i : ℕ) → i < t → parent_in (stored m w t b h k) i ≡ parent_in w i
  parent-old i l = ap (λ x. x / 65536) (entry_old i l)

  bucket-new : bucket_in (stored m w t b h k) t ≡ b
  bucket-new = let z = sp.small in omega (arith, entry_new)

  parent-new : parent_in (stored m w t b h k) t ≡ h
  parent-new = let z = sp.small in omega (arith, entry_new)

  mark-at : (i : ℕ) → i < t → get_or (stored m w t b h k) (m + bucket_in (stored m w t b h k) i) 0 ≡ get_or w (m + bucket_in w i) 0
  mark-at i l = ap (λ x. get_or (stored m w t b h k) (m + x) 0) (bucket-old i l) ∙ mark-old i l

  mark_of : get_or (stored m w t b h k) (m + bucket_in (stored m w t b h k) t) 0 ≡ 4 * t + k
  mark_of = ap (λ x. get_or (stored m w t b h k) (m + x) 0) bucket-new ∙ mark-new

  origin-old : (i : ℕ) → i < t → origin_in m (stored m w t b h k) i ≡ origin_in m w i
  origin-old i l =
      omega (
        arith,
        ap (bucket_in (stored m w t b h k)) (parent-old i l) ∙ bucket-old (parent_in w i) (omega (arith, sp.older i l)),
        ap (λ x. x % 4) (mark-at i l),
      )

  node-old : (roots : ℕ) (q : List Node) (i : ℕ) → i < t → node_in m (stored m w t b h k) roots q i ≡ node_in m w roots q i
  node-old roots q i l = same-node roots i q (bucket-old i l) (origin-old i l) (parent-old i l)

  queue-old : (roots i : ℕ) → i ≤ t → queue_in m (stored m w t b h k) roots i ≡ queue_in m w roots i
  unfolding queue_in
  queue-old roots zero l = refl
  queue-old roots (suc i) l = rw (queue-old roots i (omega arith), node-old roots (queue_in m w roots i) i (omega arith))

  queue-more : (roots : ℕ) (n : Node) → node_in m (stored m w t b h k) roots (queue_in m w roots t) t ≡ n
      → queue_in m (stored m w t b h k) roots (t + 1) ≡ queue_in m w roots t ++ (n ∷ [])
  unfolding queue_in
  queue-more roots n e = rw (add-one t, queue-old roots t (omega arith), e)

  pub sparse-new : Sparse m (stored m w t b h k) (t + 1)
  sparse-new = record {
    big = simp length-set sp.big;
    small = sp.small;
    count = omega arith;
    low = below_more (λ i. bucket_in (stored m w t b h k) i < m) t (λ i l. omega (arith, sp.low i l, bucket-old i l)) (omega (arith, bucket-new));
    back = below_more (λ i. get_or (stored m w t b h k) (m + bucket_in (stored m w t b h k) i) 0 / 4 ≡ i) t (λ i l. ap (λ x. x / 4) (mark-at i l) ∙ sp.back i l) (omega (arith, mark_of));
    older = below_more (λ i. parent_in (stored m w t b h k) i ≤ i - 1) t (λ i l. omega (arith, sp.older i l, parent-old i l)) (omega (arith, parent-new));
  }

  root-new : (roots : ℕ) → t < roots → node_in m (stored m w t b h k) roots (queue_in m w roots t) t ≡ node b []
  root-new roots l = rw (lt-ltb t roots l, bucket-new)

  later-new : (roots : ℕ) → 1 ≤ roots → roots ≤ t → node_in m (stored m w t b h k) roots (queue_in m w roots t) t ≡ reached (queue_in m w roots t) b h k
  later-new roots o l =
      let e : origin_in m (stored m w t b h k) t ≡ 4 * (get_or (queue_in m w roots t) h (node 0 [])).bucket + k =
      omega (
        arith,
        ap (bucket_in (stored m w t b h k)) parent-new ∙ bucket-old h (omega arith) ∙ sym (bucket-at m w roots t h (omega arith)),
        mark_of,
      ) in
      same-node roots t (queue_in m w roots t) bucket-new e parent-new ∙ rw (le-ltb t roots l)

  -- the old entries stand also where the first word alone is written
  first-old : (i : ℕ) → i ≢ t → get_or (set w t (b + 65536 * h)) i 0 ≡ get_or w i 0
  first-old i n = get_or-set_other w t i (b + 65536 * h) 0 n

  pub sparse-first : Sparse m (set w t (b + 65536 * h)) t
  sparse-first = record {
    big = simp length-set sp.big;
    small = sp.small;
    count = sp.count;
    low = λ i l. rw (first-old i (λ e. omega arith)) (sp.low i l);
    back = λ i l. rw (first-old i (λ e. omega arith))
        (rw (first-old (m + bucket_in w i) (λ e. omega arith)) (sp.back i l));
    older = λ i l. rw (first-old i (λ e. omega arith)) (sp.older i l);
  }

  pub queues-new : Queues m b h k w t (stored m w t b h k)
  queues-new = record {
    root = λ roots l. queue-more roots (node b []) (root-new roots l);
    later = λ roots o l. queue-more roots (reached (queue_in m w roots t) b h k) (later-new roots o l);
  }

-- ── the roots are those of the queue at the start, however many there may be ──
pub roots-any : (m : ℕ) (w : List ℕ) (roots others t : ℕ) → t ≤ roots → t ≤ others → queue_in m w roots t ≡ queue_in m w others t
unfolding queue_in
roots-any m w roots others zero h l = refl
roots-any m w roots others (suc t) h l = rw (roots-any m w roots others t (omega arith) (omega arith), lt-ltb t roots h, lt-ltb t others l)

-- ── the paths of entries ──
module _ (m : ℕ) (w : List ℕ) (roots : ℕ) where
  pub path-at : (t i : ℕ) → i < t → (get_or (queue_in m w roots t) i (node 0 [])).path ≡ path_in m w roots i
  unfolding path_in
  path-at t i h = ap (λ (n : Node). n.path) (queue-at m w roots t i h ∙ sym (queue-at m w roots (suc i) i (omega arith)))

  path-node : (i : ℕ) → path_in m w roots i ≡ (node_in m w roots (queue_in m w roots i) i).path
  unfolding path_in
  path-node i = ap (λ (n : Node). n.path) (queue-at m w roots (suc i) i (omega arith))

  pub path-root : (i : ℕ) → i < roots → path_in m w roots i ≡ []
  path-root i h = rw (path-node i, lt-ltb i roots h)

  pub path-later : (i : ℕ) → roots ≤ i → parent_in w i < i → path_in m w roots i ≡ origin_in m w i ∷ path_in m w roots (parent_in w i)
  path-later i h l = rw (path-node i, le-ltb i roots h, path-at i (parent_in w i) l)
