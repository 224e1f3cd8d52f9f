-- How many moves a bucket is away from the new entry's candidates, as the search knows it: queued buckets by their paths, all others as
-- far as the nodes that are still to be looked at. They are looked at in order of their paths' lengths, so that no bucket is nearer.
-- Assumes nothing.
use mathlib.Core.Path.{◌≡◌, refl, sym, ◌∙◌}
use mathlib.Core.Logic.{◌⊎◌, inl, inr, ◌≢◌}
use mathlib.Core.Bool.{Bool, true, false, cond}
use mathlib.Core.List.{List, [], ◌∷◌, ◌++◌, map}
use Prim.Native.Nat.{ℕ, zero, suc, ◌/◌, ◌≤◌, ◌<◌}
use native.Mathlib.Omega.{arith}
use lib.Dec.{eqb, eqb→eq}
use lib.ListN.{length, get_or, drop}
use lib.Seq.{drop-append-le, drop-cons}
use Rattle.lemmas.specs.Count.{hit, occ, ◌among◌}
use Rattle.lemmas.proofs.Count.{T_of, eqb-ne, hit-miss, hit-of, zero-cases}
use Rattle.index.specs.Candidates.{candidates, others}
use Rattle.index.specs.declared.Settings.{Settings}
use Rattle.calls.specs.Cells.{cell, cells_of}
use Rattle.calls.specs.Search.{Node, node, through, leads_to}
use Rattle.calls.specs.Laws.{buckets_of}
use Rattle.calls.proofs.Nodes.{taken, All, Full, root_nodes, all_append, all-leads}

-- the length of the path of the first node with bucket x, and e if there is none
abbrev pub away : List Node → ℕ → ℕ → ℕ
away [] e x = e
away (n ∷ q) e x = let rest = away q e x in cond (eqb n.bucket x) (length n.path) rest

-- the first node is the one, or the rest decides
abbrev First : Node → ℕ → Type 0
First n x = ((x ≡ n.bucket) × ((q : List Node) (e : ℕ) → away (n ∷ q) e x ≡ length n.path))
    ⊎ ((hit x n.bucket ≡ 0) × ((q : List Node) (e : ℕ) → away (n ∷ q) e x ≡ away q e x))

away-first : (n : Node) (x : ℕ) → First n x
away-first n x = go (eqb n.bucket x) refl
  where
    go : (b : Bool) → eqb n.bucket x ≡ b → First n x
    go true f = inl (sym (eqb→eq n.bucket x (T_of f)), λ q e. rw f refl)
    go false f = inr (hit-miss x n.bucket (λ k. eqb-ne n.bucket x f (sym k)), λ q e. rw f refl)

-- a node as far as all that is not queued changes nothing
away-more : (q : List Node) (n : Node) (e x : ℕ) → length n.path ≡ e → away (q ++ (n ∷ [])) e x ≡ away q e x
away-more [] n e x l = elim (away-first n x) [ inl f ↦ f.1 [] e ∙ l | inr f ↦ f.1 [] e ]
away-more (m ∷ q) n e x l = elim (away-first m x) [
  | inl f ↦ f.1 (q ++ (n ∷ [])) e ∙ sym (f.1 q e)
  | inr f ↦ f.1 (q ++ (n ∷ [])) e ∙ away-more q n e x l ∙ sym (f.1 q e)
]

away-none : (q : List Node) (e x : ℕ) → occ x (buckets_of q) ≡ 0 → away q e x ≡ e
away-none [] e x z = refl
away-none (n ∷ q) e x z = elim (away-first n x) [ inl f ↦ absurd (omega (arith, hit-of x n.bucket f.0)) | inr f ↦ f.1 q e ∙ away-none q e x (omega arith) ]

away-queued : (q : List Node) (e d x : ℕ) → x among buckets_of q → away q e x ≡ away q d x
away-queued [] e d x k = absurd (omega arith)
away-queued (n ∷ q) e d x k = elim (away-first n x) [
  | inl f ↦ f.1 q e ∙ sym (f.1 q d)
  | inr f ↦ f.1 q e ∙ away-queued q e d x (omega (arith, f.0)) ∙ sym (f.1 q d)
]

away-mono : (q : List Node) (e d x : ℕ) → e ≤ d → away q e x ≤ away q d x
away-mono q e d x l = elim (zero-cases (occ x (buckets_of q))) [ inl z ↦ omega (arith, away-none q e x z, away-none q d x z) | inr k ↦ omega (arith, away-queued q e d x k) ]

-- a bucket that is not among the first h
away-drop : (h : ℕ) (q : List Node) (e x : ℕ) → occ x (taken h q) ≡ 0 → away q e x ≡ away (drop h q) e x
away-drop zero q e x z = refl
away-drop (suc h) [] e x z = refl
away-drop (suc h) (n ∷ q) e x z = elim (away-first n x) [ inl f ↦ absurd (omega (arith, hit-of x n.bucket f.0)) | inr f ↦ f.1 q e ∙ away-drop h q e x (omega arith) ]

-- ── the paths' lengths rise along the queue, from l or more to e or less ──
abbrev pub Rising : ℕ → ℕ → List Node → Type 0
Rising l e [] = l ≤ e
Rising l e (n ∷ q) = (l ≤ length n.path) × Rising (length n.path) e q

rising-more : (l e : ℕ) (q : List Node) (n : Node) → length n.path ≡ e → Rising l e q → Rising l e (q ++ (n ∷ []))
rising-more l e [] n k r = (omega arith, omega arith)
rising-more l e (m ∷ q) n k r = (r.0, rising-more (length m.path) e q n k r.1)

rising-to : (l e d : ℕ) (q : List Node) → e ≤ d → Rising l e q → Rising l d q
rising-to l e d [] k r = omega arith
rising-to l e d (n ∷ q) k r = (r.0, rising-to (length n.path) e d q k r.1)

rising-least : (l e : ℕ) (q : List Node) (x : ℕ) → Rising l e q → l ≤ away q e x
rising-least l e [] x r = r
rising-least l e (n ∷ q) x r = elim (away-first n x) [
  | inl f ↦ omega (arith, f.1 q e, r.0)
  | inr f ↦ omega (arith, f.1 q e, r.0, rising-least (length n.path) e q x r.1)
]

-- ── the invariant ──
module _ (s : Settings) (c rs : List ℕ) where
  -- the queue q, of which the first h are taken, with the nodes ns yet to be looked at
  pub record Level (h : ℕ) (q ns : List Node) : Type 0 where
    -- the one length of the paths of all nodes yet to be looked at
    pub ahead : ℕ
    pub next : All (λ n. length n.path ≡ ahead) ns
    -- what is left of the queue comes in the order of its paths' lengths, which differ from that by 1 at most
    pub low : ℕ
    pub least : ahead ≤ suc low
    pub rising : Rising low ahead (drop h q)
    pub roots : (x : ℕ) → x among rs → away q ahead x ≡ 0
    -- an entry's candidates are at most one move further than its bucket, whether that is taken or not
    pub near : (i x : ℕ) → x among candidates s (cell c i) (i / 4) → away q ahead x ≤ suc (away q ahead (i / 4))

  pub start-level : (xs : List ℕ) → Level 0 [] (root_nodes xs)
  start-level xs = record {
    ahead = 0;
    next = all-leads (λ n. length n.path ≡ 0) [] xs (λ x k. refl);
    low = 0;
    least = omega arith;
    rising = omega arith;
    roots = λ x k. refl;
    near = λ i x k. omega arith;
  }

  pub skip-level : (h : ℕ) (q : List Node) (n : Node) (ns : List Node) → Level h q (n ∷ ns) → Level h q ns
  skip-level h q n ns v = record { ahead = v.ahead; next = v.next.1; low = v.low; least = v.least; rising = v.rising; roots = v.roots; near = v.near }

  pub queue-level : (h : ℕ) (q : List Node) (n : Node) (ns : List Node) → h ≤ length q → Level h q (n ∷ ns) → Level h (q ++ (n ∷ [])) ns
  queue-level h q n ns l v = record {
    ahead = v.ahead;
    next = v.next.1;
    low = v.low;
    least = v.least;
    rising = rw (drop-append-le h q (n ∷ []) l) (rising-more v.low v.ahead (drop h q) n v.next.0 v.rising);
    roots = λ x k. same x ∙ v.roots x k;
    near = λ i x k. omega (arith, same x, same (i / 4), v.near i x k);
  }
    where
      same : (x : ℕ) → away (q ++ (n ∷ [])) v.ahead x ≡ away q v.ahead x
      same x = away-more q n v.ahead x v.next.0

  -- the nodes that one node leads to are one move further than it
  through-next : (n : Node) (is : List ℕ) → All (λ m. length m.path ≡ suc (length n.path)) (through s c n is)
  through-next n [] = tt
  through-next n (i ∷ is) = all_append (λ m. length m.path ≡ suc (length n.path)) (map (λ (y : ℕ). node y (i ∷ n.path)) (others s (cell c i) n.bucket)) (through s c n is)
      (all-leads (λ m. length m.path ≡ suc (length n.path)) (i ∷ n.path) (others s (cell c i) n.bucket) (λ x k. refl))
      (through-next n is)

  -- a node is taken. Roots are queued by then, and so are all candidates of the entries in the buckets taken before
  pub turn_level : (h : ℕ) (q : List Node) → h < length q → ((x : ℕ) → x among rs → x among buckets_of q)
      → ((i x : ℕ) → (i / 4) among taken h q → x among candidates s (cell c i) (i / 4) → x among buckets_of q)
      → Level h q [] → Level (suc h) q (leads_to s c (get_or q h (node 0 [])))
  unfolding leads_to
  turn_level h q l rooted closed v = record {
    ahead = e;
    next = through-next n (cells_of n.bucket);
    low = length n.path;
    least = omega arith;
    rising = risen;
    roots = λ x k. away-queued q e v.ahead x (rooted x k) ∙ v.roots x k;
    near = near;
  }
    where
      n : Node
      n = get_or q h (node 0 [])

      e : ℕ
      e = suc (length n.path)

      rises : Rising v.low v.ahead (n ∷ drop (suc h) q)
      rises = rw (drop-cons q h (node 0 []) l) at v.rising

      up : v.ahead ≤ e
      up = omega (arith, v.least, rises.0)

      risen : Rising (length n.path) e (drop (suc h) q)
      risen = rising-to (length n.path) v.ahead e (drop (suc h) q) up rises.1

      -- no bucket that is not taken is nearer than n
      far : (x : ℕ) → occ x (taken h q) ≡ 0 → length n.path ≤ away q e x
      far x z = rw (away-drop h q e x z, drop-cons q h (node 0 []) l) (rising-least (length n.path) e (n ∷ drop (suc h) q) x (omega arith, risen))

      near : (i x : ℕ) → x among candidates s (cell c i) (i / 4) → away q e x ≤ suc (away q e (i / 4))
      near i x k = elim (zero-cases (occ x (buckets_of q))) [
        | inl z ↦ elim (zero-cases (occ (i / 4) (taken h q))) [
          | inl w ↦ omega (arith, away-none q e x z, far (i / 4) w)
          | inr t ↦ absurd (omega (arith, closed i x t k))
        ]
        | inr g ↦ omega (arith, away-queued q e v.ahead x g, v.near i x k, away-mono q v.ahead e (i / 4) up)
      ]

  -- ── what is known of all buckets when a node is found d moves away ──
  pub record Distances (d : ℕ) : Type 0 where
    pub steps : ℕ → ℕ
    pub roots : (x : ℕ) → x among rs → steps x ≡ 0
    pub near : (i x : ℕ) → x among candidates s (cell c i) (i / 4) → steps x ≤ suc (steps (i / 4))
    pub full : (i : ℕ) → steps (i / 4) < d → cell c i ≢ 0

  pub found-distances : (h : ℕ) (q : List Node) (n : Node) (ns : List Node) → Level h q (n ∷ ns) → Full c (buckets_of q) → Distances (length n.path)
  found-distances h q n ns v f = record {
    steps = away q v.ahead;
    roots = v.roots;
    near = v.near;
    full = λ i k. elim (zero-cases (occ (i / 4) (buckets_of q))) [ inl z ↦ absurd (omega (arith, away-none q v.ahead (i / 4) z, v.next.0)) | inr g ↦ f i g ];
  }
