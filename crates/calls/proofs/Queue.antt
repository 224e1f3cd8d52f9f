-- What holds of the search's queue from the roots to the end: its buckets are below M, none stands in it twice, each was reached along
-- a path of taken buckets, all candidates of the entries in taken buckets are queued or about to be looked at, and the nearer buckets come
-- first.
-- Assumes nothing.
use mathlib.Core.Path.{◌≡◌, refl, sym, ◌∙◌, subst}
use mathlib.Core.Logic.{inl, inr}
use mathlib.Core.Bool.{Bool, true, false, cond}
use mathlib.Core.Option.{Option, none, some}
use mathlib.Core.List.{List, [], ◌∷◌, ◌++◌, map}
use Prim.Native.Nat.{ℕ, zero, suc, ◌+◌, ◌*◌, ◌/◌, ◌≤◌, ◌<◌}
use native.Mathlib.Omega.{arith}
use borrow.Author.Tests.{ltb-true, ltb-false}
use lib.Dec.{ltb}
use lib.ListN.{length, get_or, length-append}
use Rattle.lemmas.specs.Count.{hit, occ, ◌among◌}
use Rattle.lemmas.proofs.Count.{hit-cases, hit-refl, hit-of, hit-eq, zero-cases}
use Rattle.index.specs.Candidates.{candidates, others}
use Rattle.index.specs.Laws.{Laws}
use Rattle.index.specs.declared.Settings.{Settings}
use Rattle.calls.specs.Cells.{cell, cells_of, lowest_empty}
use Rattle.calls.specs.Search.{Node, node, marked, Ending, found, exhausted, arrive, walk, through, leads_to, search_from, roots_from, search_for}
use Rattle.calls.specs.Laws.{Finds}
use Rattle.calls.proofs.Cells.{empty-finds, cells-of, in_cells}
use Rattle.calls.proofs.Classes.{other-candidate}
use Rattle.calls.specs.Laws.{buckets_of, Distinct}
use Rattle.calls.proofs.Levels.{Level, start-level, skip-level, queue-level, turn_level, Distances, found-distances}
use Rattle.calls.proofs.Nodes.{buckets_on, taken, All, Full, root_nodes, all_map, all_append, all-at, occ-queue, marked-true, marked-false, taken-append, taken-suc}
use Rattle.calls.proofs.Nodes.{taken-le, at-queued, occ-leads, all-leads, distinct_none, distinct_more, distinct-short}

-- ── the invariant ──
module _ (s : Settings) (c rs : List ℕ) where
  -- a path that ends in bucket b and starts in a root: each of its cells holds an entry that may go where the path goes on, and no
  -- bucket comes twice
  abbrev pub Chain : ℕ → List ℕ → Type 0
  Chain b [] = b among rs
  Chain b (i ∷ p) = (b among candidates s (cell c i) (i / 4)) × (i < 4 * s.buckets) × (occ b (buckets_on (i ∷ p)) ≡ 0) × Chain (i / 4) p

  -- a queued node: its path is of taken buckets
  abbrev pub Reached : List ℕ → Node → Type 0
  Reached d n = Chain n.bucket n.path × ((y : ℕ) → y among buckets_on n.path → y among d)

  -- a node to be looked at: its path is good if its bucket was not taken
  abbrev pub Edge : List ℕ → Node → Type 0
  Edge d n = (n.bucket < s.buckets) × (occ n.bucket d ≡ 0 → Chain n.bucket n.path) × ((y : ℕ) → y among buckets_on n.path → y among d)

  -- the queue q, of which the first h are taken, with the nodes ns yet to be looked at
  pub record Inv (h : ℕ) (q ns : List Node) : Type 0 where
    pub size : h ≤ length q
    pub queue : Distinct s.buckets q
    pub full : Full c rs → Full c (buckets_of q)
    pub reached : All (Reached (taken h q)) q
    pub edges : All (Edge (taken h q)) ns
    pub rooted : (x : ℕ) → x among rs → 1 ≤ occ x (buckets_of q) + occ x (buckets_of ns)
    pub closed : (i x : ℕ) → (i / 4) among taken h q → x among candidates s (cell c i) (i / 4) → 1 ≤ occ x (buckets_of q) + occ x (buckets_of ns)
    pub level : Level s c rs h q ns

  -- an empty cell i of the bucket of n, which is new to the queue q
  pub record Ended (i : ℕ) (n : Node) (q : List Node) : Type 0 where
    pub place : i / 4 ≡ n.bucket
    pub within : i < 4 * s.buckets
    pub empty : cell c i ≡ 0
    pub chain : Chain n.bucket n.path
    pub queue : Distinct s.buckets q
    pub unmarked : marked n.bucket q ≡ false
    -- its path is of queued buckets, which are full if the roots are, and no bucket with an empty cell is nearer
    pub on-queue : (y : ℕ) → y among buckets_on n.path → y among buckets_of q
    pub full : Full c rs → Full c (buckets_of q)
    pub distances : Full c rs → Distances s c rs (length n.path)

  abbrev pub Ends : Ending → Type 0
  Ends (found i n q) = Ended i n q
  Ends (exhausted q) = Inv (length q) q []

  -- ── one node is looked at ──
  pub skip-inv : (h : ℕ) (q : List Node) (n : Node) (ns : List Node) → Inv h q (n ∷ ns) → marked n.bucket q ≡ true → Inv h q ns
  skip-inv h q n ns v e = record {
    size = v.size;
    queue = v.queue;
    full = v.full;
    reached = v.reached;
    edges = v.edges.1;
    rooted = λ y k. old y (v.rooted y k);
    closed = λ i y k g. old y (v.closed i y k g);
    level = skip-level s c rs h q n ns v.level;
  }
    where
      old : (y : ℕ) → 1 ≤ occ y (buckets_of q) + occ y (buckets_of (n ∷ ns)) → 1 ≤ occ y (buckets_of q) + occ y (buckets_of ns)
      old y k = elim (hit-cases y n.bucket) [ inl g ↦ rw g (omega (arith, marked-true n.bucket q e)) | inr z ↦ omega arith ]

  pub queue-inv : (h : ℕ) (q : List Node) (n : Node) (ns : List Node) → Inv h q (n ∷ ns) → marked n.bucket q ≡ false
      → (Full c rs → Full c (n.bucket ∷ [])) → Inv h (q ++ (n ∷ [])) ns
  queue-inv h q n ns v e f = record {
    size = omega (arith, v.size, length-append q (n ∷ []));
    queue = distinct_more s.buckets q n v.queue v.edges.0.0 e;
    full = λ r i k. elim (hit-cases (i / 4) n.bucket) [ inl g ↦ f r i (omega (arith, hit-of (i / 4) n.bucket g)) | inr w ↦ v.full r i (omega (arith, m (i / 4))) ];
    reached = rw t (all_append (Reached (taken h q)) q (n ∷ []) v.reached ((v.edges.0.1 (omega (arith, z, taken-le h q n.bucket)), v.edges.0.2), tt));
    edges = rw t v.edges.1;
    rooted = λ y k. omega (arith, m y, v.rooted y k);
    closed = λ i y k g. omega (arith, m y, v.closed i y (rw t at k) g);
    level = queue-level s c rs h q n ns v.size v.level;
  }
    where
      z : occ n.bucket (buckets_of q) ≡ 0
      z = marked-false n.bucket q e

      t : taken h (q ++ (n ∷ [])) ≡ taken h q
      t = taken-append h q (n ∷ []) v.size

      m : (y : ℕ) → occ y (buckets_of (q ++ (n ∷ []))) ≡ occ y (buckets_of q) + hit y n.bucket
      m y = omega (arith, occ-queue y q (n ∷ []))

  pub ended-inv : (h : ℕ) (q : List Node) (n : Node) (ns : List Node) (i : ℕ) → Inv h q (n ∷ ns) → marked n.bucket q ≡ false
      → Finds c 0 (n.bucket ∷ []) (some i) → Ended i n q
  ended-inv h q n ns i v e f =
      let g : i / 4 ≡ n.bucket = hit-eq (i / 4) n.bucket (omega (arith, f.1)) in
      let z : occ n.bucket (buckets_of q) ≡ 0 = marked-false n.bucket q e in
      record {
        place = g;
        within = omega (arith, v.edges.0.0);
        empty = f.0;
        chain = v.edges.0.1 (omega (arith, taken-le h q n.bucket));
        queue = v.queue;
        unmarked = e;
        on-queue = λ y k. omega (arith, v.edges.0.2 y k, taken-le h q y);
        full = v.full;
        distances = λ r. found-distances s c rs h q n ns v.level (v.full r);
      }

  -- all the nodes are looked at
  pub walk_ends : (h : ℕ) (ns q : List Node) (next : List Node → Ending) → Inv h q ns → ((r : List Node) → Inv h r [] → Ends (next r)) → Ends (walk c ns q next)
  walk_ends h [] q next v k = k q v
  walk_ends h (n ∷ ns) q next v k = go (marked n.bucket q) refl (lowest_empty c n.bucket) (empty-finds c n.bucket) (λ r u. walk_ends h ns r next u k)
    where
      go : (b : Bool) → marked n.bucket q ≡ b → (o : Option ℕ) → Finds c 0 (n.bucket ∷ []) o → ((r : List Node) → Inv h r ns → Ends (walk c ns r next))
          → Ends (arrive b o n q (walk c ns q next) (walk c ns (q ++ (n ∷ [])) next))
      go true e o f r = r q (skip-inv h q n ns v e)
      go false e (some i) f r = ended-inv h q n ns i v e f
      go false e none f r = r (q ++ (n ∷ [])) (queue-inv h q n ns v e (λ w. f))

-- ── one node is taken: the nodes that it leads to are to be looked at ──
module _ (s : Settings) (L : Laws s) (c : List ℕ) where
  in-through : (n : Node) (is : List ℕ) (i x : ℕ) → i among is → x among others s (cell c i) n.bucket → x among buckets_of (through s c n is)
  in-through n [] i x h g = absurd (omega arith)
  in-through n (j ∷ is) i x h g = elim (hit-cases i j) [
    | inl e ↦ let k : x among others s (cell c j) n.bucket = rw e at g in omega (arith, both, occ-leads x (j ∷ n.path) (others s (cell c j) n.bucket))
    | inr z ↦ omega (arith, both, in-through n is i x (omega arith) g)
  ]
    where
      both : occ x (buckets_of (through s c n (j ∷ is))) ≡ occ x (buckets_of (map (λ (y : ℕ). node y (j ∷ n.path)) (others s (cell c j) n.bucket))) + occ x (buckets_of (through s c n is))
      both = occ-queue x (map (λ (y : ℕ). node y (j ∷ n.path)) (others s (cell c j) n.bucket)) (through s c n is)

  module _ (rs : List ℕ) where
    through-edges : (d : List ℕ) (n : Node) (is : List ℕ) → n.bucket < s.buckets → n.bucket among d → Reached s c rs d n
        → ((i : ℕ) → i among is → i / 4 ≡ n.bucket) → All (Edge s c rs d) (through s c n is)
    through-edges d n [] l m r f = tt
    through-edges d n (i ∷ is) l m r f = all_append (Edge s c rs d) (map (λ (y : ℕ). node y (i ∷ n.path)) (others s (cell c i) n.bucket)) (through s c n is)
        (all-leads (Edge s c rs d) (i ∷ n.path) (others s (cell c i) n.bucket) edge)
        (through-edges d n is l m r (λ j k. f j (omega arith)))
      where
        e : i / 4 ≡ n.bucket
        e = f i (omega (arith, hit-refl i))

        on : (y : ℕ) → y among buckets_on (i ∷ n.path) → y among d
        on y k = elim (hit-cases y (i / 4)) [ inl g ↦ rw (g ∙ e) m | inr z ↦ r.1 y (omega arith) ]

        edge : (x : ℕ) → x among others s (cell c i) n.bucket → Edge s c rs d (node x (i ∷ n.path))
        edge x h =
            let g : x among candidates s (cell c i) n.bucket = other-candidate s L (cell c i) n.bucket x h in (
              L.below (cell c i) n.bucket x l g,
              λ z. (rw e g, omega (arith, e), elim (zero-cases (occ x (buckets_on (i ∷ n.path)))) [ inl o ↦ o | inr k ↦ absurd (omega (arith, on x k)) ], rw e r.0),
              on,
            )

    pub turn-inv : (h : ℕ) (q : List Node) → h < length q → Inv s c rs h q [] → Inv s c rs (suc h) q (leads_to s c (get_or q h (node 0 [])))
    unfolding leads_to
    turn-inv h q l v = record {
      size = l;
      queue = v.queue;
      full = v.full;
      reached = all_map (Reached s c rs (taken h q)) (Reached s c rs (taken (suc h) q)) (λ m r. (r.0, λ y k. wider y (r.1 y k))) q v.reached;
      edges = through-edges (taken (suc h) q) n (cells_of n.bucket) (v.queue.below n.bucket there) (omega (arith, grown n.bucket, hit-refl n.bucket))
          (at.0, λ y k. wider y (at.1 y k)) (cells-of n.bucket);
      rooted = λ x k. omega (arith, v.rooted x k);
      closed = λ i x k g. elim (hit-cases (i / 4) n.bucket) [
        | inl e ↦ taken-one i x e g
        | inr z ↦ omega (arith, v.closed i x (omega (arith, grown (i / 4))) g)
      ];
      level = turn_level s c rs h q l (λ x k. omega (arith, v.rooted x k)) (λ i x k g. omega (arith, v.closed i x k g)) v.level;
    }
      where
        n : Node
        n = get_or q h (node 0 [])

        there : n.bucket among buckets_of q
        there = at-queued h q (node 0 []) l

        at : Reached s c rs (taken h q) n
        at = all-at (Reached s c rs (taken h q)) (node 0 []) q h v.reached l

        grown : (y : ℕ) → occ y (taken (suc h) q) ≡ occ y (taken h q) + hit y n.bucket
        grown y = taken-suc h q (node 0 []) y l

        wider : (y : ℕ) → y among taken h q → y among taken (suc h) q
        wider y k = omega (arith, grown y)

        taken-one : (i x : ℕ) → i / 4 ≡ n.bucket → x among candidates s (cell c i) (i / 4) → 1 ≤ occ x (buckets_of q) + occ x (buckets_of (through s c n (cells_of n.bucket)))
        taken-one i x e g =
            let k : 1 ≤ hit x n.bucket + occ x (others s (cell c i) n.bucket) = rw (e, L.first (cell c i) n.bucket) at g in
            elim (hit-cases x n.bucket) [
              | inl o ↦ rw o (omega (arith, there))
              | inr z ↦ omega (arith, in-through n (cells_of n.bucket) i x (in_cells n.bucket i e) (omega arith))
            ]

    -- ── the search from a queue on ──
    -- at the end every node of the queue is taken
    all-taken : (h : ℕ) (q : List Node) → Inv s c rs h q [] → length q ≤ h → Inv s c rs (length q) q []
    all-taken h q v l = let e : h ≡ length q = omega (arith, v.size) in subst (λ (k : ℕ). Inv s c rs k q []) e v

    pub search-from-ends : (turns h : ℕ) (q : List Node) → Inv s c rs h q [] → s.buckets ≤ turns + h → Ends s c rs (search_from s c turns h q)
    unfolding search_from
    search-from-ends zero h q v l = all-taken h q v (omega (arith, distinct-short s.buckets q v.queue))
    search-from-ends (suc turns) h q v l = go (ltb h (length q)) refl (λ r u. search-from-ends turns (suc h) r u (omega arith))
      where
        go : (b : Bool) → ltb h (length q) ≡ b → ((r : List Node) → Inv s c rs (suc h) r [] → Ends s c rs (search_from s c turns (suc h) r))
            → Ends s c rs (cond b (walk c (leads_to s c (get_or q h (node 0 []))) q (search_from s c turns (suc h))) (exhausted q))
        go true e k = walk_ends s c rs (suc h) (leads_to s c (get_or q h (node 0 []))) q (search_from s c turns (suc h)) (turn-inv h q (ltb-true _ _ e) v) k
        go false e k = all-taken h q v (ltb-false _ _ e)

    -- ── the roots ──
    pub roots-inv : (xs : List ℕ) (q : List Node) → ((x : ℕ) → x among xs → x among rs) → Inv s c rs 0 q (root_nodes xs) → Inv s c rs 0 (roots_from xs q) []
    roots-inv [] q f v = v
    roots-inv (x ∷ xs) q f v = go (marked x q) refl (λ r. roots-inv xs r (λ y k. f y (omega arith)))
      where
        go : (b : Bool) → marked x q ≡ b → ((r : List Node) → Inv s c rs 0 r (root_nodes xs) → Inv s c rs 0 (roots_from xs r) [])
            → Inv s c rs 0 (cond b (roots_from xs q) (roots_from xs (q ++ (node x [] ∷ [])))) []
        go true e r = r q (skip-inv s c rs 0 q (node x []) (root_nodes xs) v e)
        go false e r = r (q ++ (node x [] ∷ [])) (queue-inv s c rs 0 q (node x []) (root_nodes xs) v e
            (λ w i k. w i (subst (λ (y : ℕ). y among rs) (sym (hit-eq (i / 4) x (omega arith))) (f x (omega (arith, hit-refl x))))))

  -- before any candidate is looked at
  pub start-inv : (p b : ℕ) → b < s.buckets → Inv s c (candidates s p b) 0 [] (root_nodes (candidates s p b))
  start-inv p b l = record {
    size = omega arith;
    queue = distinct_none s.buckets;
    full = λ w i k. absurd (omega arith);
    reached = tt;
    edges = all-leads (Edge s c (candidates s p b) []) [] (candidates s p b) (λ x k. (L.below p b x l k, λ z. k, λ y m. absurd (omega arith)));
    rooted = λ x k. omega (arith, occ-leads x [] (candidates s p b));
    closed = λ i x k g. absurd (omega arith);
    level = start-level s c (candidates s p b) (candidates s p b);
  }

  pub queue-at-start : (p b : ℕ) → b < s.buckets → Inv s c (candidates s p b) 0 (roots_from (candidates s p b) []) []
  queue-at-start p b l = roots-inv (candidates s p b) (candidates s p b) [] (λ x k. k) (start-inv p b l)

  pub search-ends : (p b : ℕ) → b < s.buckets → Ends s c (candidates s p b) (search_for s c p b)
  unfolding search_for
  search-ends p b l = search-from-ends (candidates s p b) s.buckets 0 (roots_from (candidates s p b) []) (queue-at-start p b l) (omega arith)
