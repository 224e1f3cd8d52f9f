-- The loops over scratch: what each keeps from turn to turn. The search's are by continuation: the definition continued from the queue and
-- the place of the code gives what the whole search gives.
-- Assumes nothing.
use mathlib.Core.Path.{◌≡◌, refl, sym, ap, ◌∙◌, subst}
use mathlib.Core.Bool.{Bool, true, false, cond}
use mathlib.Core.Option.{Option, none, some}
use mathlib.Core.List.{List, [], ◌∷◌, ◌++◌, map}
use Prim.Native.Nat.{ℕ, zero, suc, ◌+◌, ◌*◌, ◌-◌, ◌≤◌, ◌<◌}
use native.Mathlib.Omega.{arith}
use native.Mathlib.Numerals.{add-one}
use native.Mathlib.Decide.{dec_lt}
use borrow.Author.Tests.{lt-ltb, le-ltb}
use lib.ListN.{length, get_or, drop, set, length-append, drop_of_length-le, get_or-append}
use Rattle.std.specs.Prelude as std
use Rattle.index.specs.Candidates.{others}
use Rattle.index.specs.declared.Settings.{Settings}
use Rattle.calls.specs.Cells.{cell, cells_of, lowest_empty}
use Rattle.calls.specs.Search.{Node, node, marked, Ending, found, exhausted, arrive, walk, through, leads_to, search_from, roots_from, relocate}
use Rattle.table.specs.Scratch.{bucket_in, parent_in, origin_in, node_in, queue_in, path_in, Sparse, Stands}
use Rattle.table.specs.Probes.{Ended, RanOut}
use Rattle.table.specs.Internal.{place_is, Visits}
use Rattle.table.proofs.Scratch.{queue-length, queue-at, sparse-none, roots-any, path-root, path-later}

-- ── the roots ──
-- the buckets before number k are queued
pub record AtSeed (m : ℕ) (bs : List ℕ) (w : List ℕ) (tail k : ℕ) : Type 0 where
  pub same : roots_from (drop k bs) (queue_in m w m tail) ≡ roots_from bs []

-- none is queued yet, and all words will do
pub seed-starts : {m : ℕ} {bs w : List ℕ} → AtSeed m bs w 0 0 × (2 * m ≤ length w → m ≤ 65536 → Sparse m w 0)
unfolding queue_in
seed-starts = (record { same = refl }, sparse-none)

module _ {m : ℕ} {bs w : List ℕ} {tail k : ℕ} (a : AtSeed m bs w tail k) where
  pub seed-ends : tail ≤ m → length bs ≤ k → queue_in m w tail tail ≡ roots_from bs []
  seed-ends l h = roots-any m w tail m tail (omega arith) l ∙ (rw (drop_of_length-le bs {i = k} h) at a.same)

-- ── the moves ──
-- entry `at` of the queue is reached, and `space` is free
pub record AtMove (m : ℕ) (w : List ℕ) (roots last p : ℕ) (c₀ : List ℕ) (free : ℕ) (c : List ℕ) (at space moves : ℕ) : Type 0 where
  pub size : length c ≡ length c₀
  pub upto : at ≤ last
  pub inside : space < length c₀
  pub same : relocate c space (path_in m w roots at) p ≡ relocate c₀ free (path_in m w roots last) p
  pub counted : moves + length (path_in m w roots at) ≡ length (path_in m w roots last)

module _ {m : ℕ} {w : List ℕ} {t : ℕ} (sp : Sparse m w t) (roots : ℕ) (o : 1 ≤ roots) where
  -- an entry that is no root came from a lower one
  pub lower : (i : ℕ) → roots ≤ i → i < t → parent_in w i < i
  lower i h l = omega (arith, sp.older i l)

  -- the path of a root is empty, and that of another entry one longer than its parent's
  path-one : (i : ℕ) → i < t → ((j : ℕ) → j < i → length (path_in m w roots j) ≤ j) → length (path_in m w roots i) ≤ i
  path-one i l rec = go (dec_lt i roots)
    where
      go : Dec (i < roots) → length (path_in m w roots i) ≤ i
      go (yes k) = rw (path-root m w roots i k) (omega arith)
      go (no k) =
          let z : parent_in w i < i = lower i (omega arith) l in
          omega (arith, ap length (path-later m w roots i (omega arith) z), rec (parent_in w i) z)

  path-upto : (n i : ℕ) → i < n → i < t → length (path_in m w roots i) ≤ i
  path-upto zero i h l = absurd (omega arith)
  path-upto (suc n) i h l = path-one i l (λ j k. path-upto n j (omega arith) (omega arith))

  pub path-short : (i : ℕ) → i < t → length (path_in m w roots i) ≤ i
  path-short i l = path-upto (suc i) i (omega arith) l

  module _ {last p free : ℕ} {c₀ c : List ℕ} {at space moves : ℕ} (a : AtMove m w roots last p c₀ free c at space moves) (h : roots ≤ at) (l : at < t) where
    pub moves-on : {c' : List ℕ} (from parent : ℕ) → from < length c₀ → from ≡ origin_in m w at → parent ≡ parent_in w at
        → length c' ≡ length c → c' ≡ set c space (cell c from) → AtMove m w roots last p c₀ free c' parent from (moves + 1)
    moves-on {c'} from parent i e f g k =
        let z = lower at h l in
        let path : path_in m w roots at ≡ from ∷ path_in m w roots parent =
        path-later m w roots at h z ∙ ap (λ (x : ℕ). origin_in m w at ∷ path_in m w roots x) (sym f) ∙ ap (λ (x : ℕ). x ∷ path_in m w roots parent) (sym e) in
        record {
          size = g ∙ a.size;
          upto = omega (arith, a.upto);
          inside = i;
          same = rw k (rw path at a.same);
          counted = omega (arith, ap length path, a.counted);
        }

  module _ {last p free : ℕ} {c₀ c : List ℕ} {at space moves : ℕ} (a : AtMove m w roots last p c₀ free c at space moves) (h : at < roots) where
    pub moves-end : (c' : List ℕ) → c' ≡ set c space p → (c' ≡ relocate c₀ free (path_in m w roots last) p) × (moves ≡ length (path_in m w roots last))
    moves-end c' e =
        let path = path-root m w roots at h in
        (e ∙ (rw path at a.same), omega (arith, ap length path, a.counted))

-- ── the search ──
-- what its loops change: scratch, and the length of the queue
pub record State : Type 0 where
  pub words : List ℕ
  pub tail : ℕ

abbrev pub state : List ℕ → ℕ → State
state w t = record { words = w; tail = t }

-- one node is looked at: it is not the end, or it is
module _ (c : List ℕ) (n : Node) (ns q : List Node) (next : List Node → Ending) where
  step-on : none ≡ cond (marked n.bucket q) none (lowest_empty c n.bucket) → walk c ns (cond (marked n.bucket q) q (q ++ (n ∷ []))) next ≡ walk c (n ∷ ns) q next
  step-on e = go (marked n.bucket q) (lowest_empty c n.bucket) e
    where
      go : (b : Bool) (o : Option ℕ) → none ≡ cond b none o
          → walk c ns (cond b q (q ++ (n ∷ []))) next ≡ arrive b o n q (walk c ns q next) (walk c ns (q ++ (n ∷ [])) next)
      go true o e = refl
      go false none e = refl
      go false (some i) e = cc

  step-ends : (i : ℕ) → some i ≡ cond (marked n.bucket q) none (lowest_empty c n.bucket)
      → (found i n q ≡ walk c (n ∷ ns) q next) × (cond (marked n.bucket q) q (q ++ (n ∷ [])) ≡ q ++ (n ∷ []))
  step-ends i e = go (marked n.bucket q) (lowest_empty c n.bucket) e
    where
      go : (b : Bool) (o : Option ℕ) → some i ≡ cond b none o
          → (found i n q ≡ arrive b o n q (walk c ns q next) (walk c ns (q ++ (n ∷ [])) next)) × (cond b q (q ++ (n ∷ [])) ≡ q ++ (n ∷ []))
      go true o e = absurd (let z : ◌≡◌ {A = ℕ} 0 1 = cc in omega arith)
      go false none e = absurd (let z : ◌≡◌ {A = ℕ} 0 1 = cc in omega arith)
      go false (some j) e = (cc, refl)

-- the cells of a bucket from number k on
cells-from : (b k : ℕ) → k < 4 → drop k (cells_of b) ≡ (4 * b + k) ∷ drop (suc k) (cells_of b)
cells-from b zero h = let z : 4 * b ≡ 4 * b + 0 = omega arith in ap (λ (x : ℕ). x ∷ drop 1 (cells_of b)) z
cells-from b (suc zero) h = refl
cells-from b (suc (suc zero)) h = refl
cells-from b (suc (suc (suc zero))) h = refl
cells-from b (suc (suc (suc (suc k)))) h = absurd (omega arith)

no_cells : (b k : ℕ) → 4 ≤ k → drop k (cells_of b) ≡ []
no_cells b k h = drop_of_length-le (cells_of b) {i = k} h

module _ (s : Settings) (c : List ℕ) (roots : ℕ) where
  abbrev queue : State → List Node
  queue q = queue_in s.buckets q.words roots q.tail

  -- the node of entry h
  pub entry : State → ℕ → Node
  entry q h = node_in s.buckets q.words roots (queue_in s.buckets q.words roots h) h

  entry-bucket : (q : State) (h : ℕ) → (entry q h).bucket ≡ bucket_in q.words h
  unfolding entry
  entry-bucket q h = refl

  entry_at : (q : State) (h : ℕ) → h < q.tail → get_or (queue q) h (node 0 []) ≡ entry q h
  unfolding entry
  entry_at q h l = queue-at s.buckets q.words roots q.tail h l

  -- what comes after the turn of entry `head`
  abbrev after : ℕ → List Node → Ending
  after head = search_from s c (s.buckets - suc head) (suc head)

  -- at the head of the queue's loop
  pub from_queue : ℕ → State → Ending
  from_queue head q = search_from s c (s.buckets - head) head (queue q)

  -- at the head of the cells' loop: cells k to 3 of node n, which is entry `head`
  pub from_cell : Node → ℕ → ℕ → State → Ending
  from_cell n head k q = walk c (through s c n (drop k (cells_of n.bucket))) (queue q) (after head)

  -- at the head of the candidates' loop: candidates of cell k from number j on, and then the cells after it
  abbrev nodes : Node → ℕ → List ℕ → List Node
  nodes n k xs = map (λ (x : ℕ). node x ((4 * n.bucket + k) ∷ n.path)) xs ++ through s c n (drop (suc k) (cells_of n.bucket))

  pub from_other : Node → ℕ → ℕ → List ℕ → ℕ → State → Ending
  from_other n head k xs j q = walk c (nodes n k (drop j xs)) (queue q) (after head)

  starts : (q : State) → from_queue 0 q ≡ search_from s c s.buckets 0 (queue q)
  unfolding from_queue
  starts q = let z : s.buckets - 0 ≡ s.buckets = omega arith in rw z

  turn : (head : ℕ) (q : State) → head < q.tail → q.tail ≤ s.buckets → from_cell (entry q head) head 0 q ≡ from_queue head q
  unfolding from_queue from_cell search_from leads_to
  turn head q h l =
      let z : s.buckets - head ≡ suc (s.buckets - suc head) = omega arith in
      let y : head < length (queue q) = rw queue-length h in
      rw (z, lt-ltb _ _ y, entry_at q head h)

  done : (head : ℕ) (q : State) → q.tail ≤ head → from_queue head q ≡ exhausted (queue q)
  unfolding from_queue search_from
  done head q h = go (s.buckets - head)
    where
      go : (turns : ℕ) → search_from s c turns head (queue q) ≡ exhausted (queue q)
      go zero = refl
      go (suc turns) = rw (le-ltb head (length (queue q)) (rw queue-length h))

  cell-starts : (q₀ : State) (head k b : ℕ) (xs : List ℕ) (q : State) → k < 4 → b ≡ bucket_in q₀.words head → xs ≡ others s (cell c (4 * b + k)) b
      → from_other (entry q₀ head) head k xs 0 q ≡ from_cell (entry q₀ head) head k q
  unfolding from_cell from_other
  cell-starts q₀ head k b xs q h e f =
      let g : xs ≡ others s (cell c (4 * (entry q₀ head).bucket + k)) (entry q₀ head).bucket =
      f ∙ ap (λ (y : ℕ). others s (cell c (4 * y + k)) y) (e ∙ sym (entry-bucket q₀ head)) in
      rw (cells-from (entry q₀ head).bucket k h, g)

  cell-ends : (n : Node) (head k : ℕ) (xs : List ℕ) (j : ℕ) (q : State) → drop j xs ≡ [] → from_cell n head (k + 1) q ≡ from_other n head k xs j q
  unfolding from_cell from_other
  cell-ends n head k xs j q e = rw (e, add-one k)

  turn-ends : (n : Node) (head k : ℕ) (q : State) → 4 ≤ k → from_queue (head + 1) q ≡ from_cell n head k q
  unfolding from_queue from_cell
  turn-ends n head k q h = rw (no_cells n.bucket k h, add-one head)

  -- a candidate is looked at, from entry `head`, which is node n
  module _ (q q' : State) {x head k : ℕ} {r : std.Option ℕ} (o : 1 ≤ roots) (l : roots ≤ q.tail) (hh : head < q.tail)
      (v : Visits c s.buckets x head k q.words q.tail q'.words q'.tail r) (n : Node) (is : entry q head ≡ n) where
    abbrev to : Node
    to = node x ((4 * n.bucket + k) ∷ n.path)

    its-queue : queue q' ≡ cond (marked x (queue q)) (queue q) (queue q ++ (to ∷ []))
    its-queue =
        v.queue roots o l
        ∙ ap (λ (y : Node). cond (marked x (queue q)) (queue q) (queue q ++ (node x ((4 * y.bucket + k) ∷ y.path) ∷ []))) (entry_at q head hh ∙ is)

    -- entry `head` stays what it was
    same-entry : entry q' head ≡ n
    same-entry =
        sym (entry_at q' head (omega (arith, v.grows)))
        ∙ ap (λ (y : List Node). get_or y head (node 0 [])) its-queue ∙ kept (marked x (queue q)) ∙ entry_at q head hh ∙ is
      where
        kept : (b : Bool) → get_or (cond b (queue q) (queue q ++ (to ∷ []))) head (node 0 []) ≡ get_or (queue q) head (node 0 [])
        kept true = refl
        kept false = get_or-append (queue q) (to ∷ []) (node 0 []) head (rw queue-length hh)

    module _ (xs : List ℕ) (j : ℕ) (e : drop j xs ≡ x ∷ drop (j + 1) xs) where
      goes_on : none ≡ place_is r → from_other n head k xs (j + 1) q' ≡ from_other n head k xs j q
      unfolding from_other
      goes_on f = rw (its-queue, e) (step-on c to (nodes n k (drop (j + 1) xs)) (queue q) (after head) (f ∙ v.place roots))

      hits : (i : ℕ) → some i ≡ place_is r → (found i to (queue q) ≡ from_other n head k xs j q) × (queue q' ≡ queue q ++ (to ∷ []))
      unfolding from_other
      hits i f = let a = step-ends c to (nodes n k (drop (j + 1) xs)) (queue q) (after head) i (f ∙ v.place roots) in (rw e a.0, its-queue ∙ a.1)

  -- what the answers say
  module _ (q : State) (o : Ending) (sp : Sparse s.buckets q.words q.tail) where
    stands : Stands s.buckets q.words roots (queue q)
    stands = record { sparse = rw queue-length sp; queue = ap (queue_in s.buckets q.words roots) (queue-length s.buckets q.words roots q.tail) }

    says-exhausted : exhausted (queue q) ≡ o → RanOut o s.buckets q.words q.tail
    says-exhausted e = record { queue = queue q; is = sym e; count = sym (queue-length s.buckets q.words roots q.tail); roots = roots; stands = stands }

    says-found : 1 ≤ roots → (i : ℕ) (n : Node) (p : List Node) → found i n p ≡ o → queue q ≡ p ++ (n ∷ []) → Ended o s.buckets q.words i roots (q.tail - 1)
    says-found k i n p e f =
        let z : q.tail - 1 ≡ length p = omega (arith, sym (queue-length s.buckets q.words roots q.tail) ∙ ap length f ∙ length-append p (n ∷ [])) in
        record { end = n; queue = p; is = sym e; at = z; rooted = k; stands = subst (Stands s.buckets q.words roots) f stands }

  -- ── the loops' invariants: q₀ is as the loop began ──
  pub record AtQueue (q₀ : State) (head₀ : ℕ) (q : State) (head : ℕ) : Type 0 where
    pub order : head ≤ q.tail
    pub rooted : roots ≤ q.tail
    pub same : from_queue head q ≡ from_queue head₀ q₀

  -- the queue has grown, and entry `head` is as it was
  pub record Since (head : ℕ) (q₀ q : State) : Type 0 where
    pub order : q₀.tail ≤ q.tail
    pub stays : entry q head ≡ entry q₀ head

  since-then : {head : ℕ} {q₀ q₁ q₂ : State} → Since head q₀ q₁ → Since head q₁ q₂ → Since head q₀ q₂
  since-then a b = record { order = omega (arith, a.order, b.order); stays = b.stays ∙ a.stays }

  pub record AtCell (head : ℕ) (q₀ : State) (k₀ : ℕ) (q : State) (k : ℕ) : Type 0 where
    pub since : Since head q₀ q
    pub cells : k ≤ 4
    pub same : from_cell (entry q₀ head) head k q ≡ from_cell (entry q₀ head) head k₀ q₀

  pub record AtOther (head k : ℕ) (xs : List ℕ) (q₀ : State) (j₀ : ℕ) (q : State) (j : ℕ) : Type 0 where
    pub since : Since head q₀ q
    pub same : from_other (entry q₀ head) head k xs j q ≡ from_other (entry q₀ head) head k xs j₀ q₀

  -- ── a turn of each ──
  module _ (o : 1 ≤ roots) {head : ℕ} where
    -- a candidate that is not the end
    pub other-on : {k j₀ j x : ℕ} {xs : List ℕ} {q₀ q q' : State} {r : std.Option ℕ} → AtOther head k xs q₀ j₀ q j → roots ≤ q₀.tail → head < q₀.tail
        → drop j xs ≡ x ∷ drop (j + 1) xs → Visits c s.buckets x head k q.words q.tail q'.words q'.tail r → none ≡ place_is r
        → AtOther head k xs q₀ j₀ q' (j + 1)
    other-on {j = j} {xs = xs} {q = q} {q' = q'} a l h e v f =
        let ht : head < q.tail = omega (arith, a.since.order) in
        let lt : roots ≤ q.tail = omega (arith, a.since.order) in
        record {
          since = since-then a.since (record { order = v.grows; stays = same-entry q q' o lt ht v _ refl });
          same = goes_on q q' o lt ht v _ a.since.stays xs j e f ∙ a.same;
        }

    -- a cell whose candidates are looked at
    pub cell-on : {k₀ k j : ℕ} {xs : List ℕ} {q₀ q q' : State} → AtCell head q₀ k₀ q k → k < 4 → (b : ℕ) → b ≡ bucket_in q₀.words head → xs ≡ others s (cell c (4 * b + k)) b
        → AtOther head k xs q 0 q' j → length xs ≤ j → AtCell head q₀ k₀ q' (k + 1)
    cell-on {k₀} {k} {j} {xs} {q₀} {q} {q'} a h b eb e u d = record {
      since = since-then a.since u.since;
      cells = omega arith;
      same = cell-ends (entry q₀ head) head k xs j q' (drop_of_length-le xs {i = j} d)
          ∙ subst (λ (y : Node). from_other y head k xs j q' ≡ from_other y head k xs 0 q) a.since.stays u.same
          ∙ cell-starts q₀ head k b xs q h eb e ∙ a.same;
    }

    -- an entry whose cells are done
    pub queue-on : {head₀ k : ℕ} {q₀ q q' : State} → AtQueue q₀ head₀ q head → q.tail ≤ s.buckets → head < q.tail → AtCell head q 0 q' k → 4 ≤ k → AtQueue q₀ head₀ q' (head + 1)
    queue-on {k = k} {q = q} {q' = q'} t m h a d = record {
      order = omega (arith, a.since.order);
      rooted = omega (arith, a.since.order, t.rooted);
      same = turn-ends (entry q head) head k q' d ∙ a.same ∙ turn head q h m ∙ t.same;
    }

    -- every entry is done
    pub queue-ends : {q₀ q : State} → AtQueue q₀ 0 q head → Sparse s.buckets q.words q.tail → q.tail ≤ head
        → RanOut (search_from s c s.buckets 0 (queue q₀)) s.buckets q.words q.tail
    queue-ends {q₀} {q} t sp h = says-exhausted q _ sp (sym (done head q h) ∙ t.same ∙ starts q₀)

    -- a candidate that is the end: q₁ is where the cells' loop began, q₂ where the candidates' did
    pub ends_found : {k j x : ℕ} {xs : List ℕ} {q₀ q₁ q₂ q q' : State} {r : std.Option ℕ} → AtQueue q₀ 0 q₁ head → q₁.tail ≤ s.buckets → head < q₁.tail → AtCell head q₁ 0 q₂ k → k < 4
        → (b : ℕ) → b ≡ bucket_in q₁.words head → xs ≡ others s (cell c (4 * b + k)) b → AtOther head k xs q₂ 0 q j
        → drop j xs ≡ x ∷ drop (j + 1) xs → Visits c s.buckets x head k q.words q.tail q'.words q'.tail r → Sparse s.buckets q'.words q'.tail
        → (i : ℕ) → some i ≡ place_is r → Ended (search_from s c s.buckets 0 (queue q₀)) s.buckets q'.words i roots (q'.tail - 1)
    ends_found {k} {j} {x} {xs} {q₀} {q₁} {q₂} {q} {q'} {r} t m h a hk b eb e u d v sp i f =
        let whole : Since head q₁ q = since-then a.since u.since in
        let last = hits q q' o (omega (arith, t.rooted, whole.order)) (omega (arith, whole.order)) v (entry q₁ head) whole.stays xs j d i f in
        says-found q' _ sp o i _ _
        (last.0 ∙ subst (λ (y : Node). from_other y head k xs j q ≡ from_other y head k xs 0 q₂) a.since.stays u.same
        ∙ cell-starts q₁ head k b xs q₂ hk eb e ∙ a.same ∙ turn head q₁ h m ∙ t.same ∙ starts q₀)
        last.1
