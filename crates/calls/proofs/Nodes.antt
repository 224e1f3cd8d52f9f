-- Lists of nodes: their buckets, which of them are taken, and when a bucket is marked.
-- Assumes nothing.
use mathlib.Core.Path.{◌≡◌, refl, sym, ap, ◌∙◌}
use mathlib.Core.Logic.{inl, inr, ◌≢◌}
use mathlib.Core.Bool.{Bool, true, false, cond}
use mathlib.Core.List.{List, [], ◌∷◌, ◌++◌, map}
use Prim.Native.Nat.{ℕ, zero, suc, ◌+◌, ◌/◌, ◌≤◌, ◌<◌}
use native.Mathlib.Omega.{arith}
use lib.Dec.{eqb, eqb→eq}
use lib.ListN.{length, get_or, take, length-append}
use lib.Seq.{take-append-le, take-suc}
use Rattle.lemmas.specs.Count.{hit, occ, ◌among◌}
use Rattle.lemmas.proofs.Count.{T_of, eqb-ne, hit-cases, hit-refl, hit-of}
use Rattle.lemmas.proofs.Sums.{few}
use Rattle.calls.specs.Cells.{cell}
use Rattle.calls.specs.Laws.{buckets_of, Distinct}
use Rattle.calls.specs.Search.{Node, node, marked}

-- the buckets of a path's cells
abbrev pub buckets_on : List ℕ → List ℕ
buckets_on [] = []
buckets_on (i ∷ p) = (i / 4) ∷ buckets_on p

-- the buckets of the first h nodes
abbrev pub taken : ℕ → List Node → List ℕ
taken h q = buckets_of (take h q)

abbrev pub All : (Node → Type 0) → List Node → Type 0
All P [] = Unit {0}
All P (n ∷ q) = P n × All P q

pub all_map : (P Q : Node → Type 0) → ((n : Node) → P n → Q n) → (q : List Node) → All P q → All Q q
all_map P Q f [] a = tt
all_map P Q f (n ∷ q) a = (f n a.0, all_map P Q f q a.1)

pub all_append : (P : Node → Type 0) (q r : List Node) → All P q → All P r → All P (q ++ r)
all_append P [] r a b = b
all_append P (n ∷ q) r a b = (a.0, all_append P q r a.1 b)

pub all-at : (P : Node → Type 0) (d : Node) (q : List Node) (h : ℕ) → All P q → h < length q → P (get_or q h d)
all-at P d [] h a l = absurd (omega arith)
all-at P d (n ∷ q) zero a l = a.0
all-at P d (n ∷ q) (suc h) a l = all-at P d q h a.1 (omega arith)

pub length-buckets : (q : List Node) → length (buckets_of q) ≡ length q
length-buckets [] = refl
length-buckets (n ∷ q) = ap suc (length-buckets q)

pub occ-queue : (x : ℕ) (q r : List Node) → occ x (buckets_of (q ++ r)) ≡ occ x (buckets_of q) + occ x (buckets_of r)
occ-queue x [] r = omega arith
occ-queue x (n ∷ q) r = omega (arith, occ-queue x q r)

-- marked is: stands in the queue
pub marked-true : (x : ℕ) (q : List Node) → marked x q ≡ true → x among buckets_of q
marked-true x [] e = absurd (let z : ◌≡◌ {A = ℕ} 0 1 = cc in omega arith)
marked-true x (n ∷ q) e = go (eqb n.bucket x) refl e (marked-true x q)
  where
    go : (b : Bool) → eqb n.bucket x ≡ b → cond b true (marked x q) ≡ true → (marked x q ≡ true → x among buckets_of q) → x among buckets_of (n ∷ q)
    go true f e r = omega (arith, hit-of x n.bucket (sym (eqb→eq n.bucket x (T_of f))))
    go false f e r = omega (arith, r e)

pub marked-false : (x : ℕ) (q : List Node) → marked x q ≡ false → occ x (buckets_of q) ≡ 0
marked-false x [] e = refl
marked-false x (n ∷ q) e = go (eqb n.bucket x) refl e (marked-false x q)
  where
    go : (b : Bool) → eqb n.bucket x ≡ b → cond b true (marked x q) ≡ false → (marked x q ≡ false → occ x (buckets_of q) ≡ 0) → occ x (buckets_of (n ∷ q)) ≡ 0
    go true f e r = absurd (let z : ◌≡◌ {A = ℕ} 0 1 = cc in omega arith)
    go false f e r = elim (hit-cases x n.bucket) [ inl k ↦ absurd (eqb-ne n.bucket x f (sym k)) | inr z ↦ omega (arith, r e) ]

pub taken-append : (h : ℕ) (q r : List Node) → h ≤ length q → taken h (q ++ r) ≡ taken h q
taken-append h q r l = ap buckets_of (take-append-le h q r l)

pub taken-suc : (h : ℕ) (q : List Node) (d : Node) (x : ℕ) → h < length q → occ x (taken (suc h) q) ≡ occ x (taken h q) + hit x (get_or q h d).bucket
taken-suc h q d x l = ap (λ (r : List Node). occ x (buckets_of r)) (take-suc q h d l) ∙ occ-queue x (take h q) (get_or q h d ∷ []) ∙ omega arith

pub taken-le : (h : ℕ) (q : List Node) (x : ℕ) → occ x (taken h q) ≤ occ x (buckets_of q)
taken-le zero q x = omega arith
taken-le (suc h) [] x = omega arith
taken-le (suc h) (n ∷ q) x = omega (arith, taken-le h q x)

pub at-queued : (h : ℕ) (q : List Node) (d : Node) → h < length q → (get_or q h d).bucket among buckets_of q
at-queued h [] d l = absurd (omega arith)
at-queued zero (n ∷ q) d l = omega (arith, hit-refl n.bucket)
at-queued (suc h) (n ∷ q) d l = omega (arith, at-queued h q d (omega arith))

-- no cell of the buckets is empty
abbrev pub Full : List ℕ → List ℕ → Type 0
Full c bs = (i : ℕ) → (i / 4) among bs → cell c i ≢ 0

-- ── a queue of buckets below m, none of them twice ──
pub distinct_none : (m : ℕ) → Distinct m []
distinct_none m = record { below = λ x k. absurd (omega arith); once = λ x. omega arith }

-- an unmarked bucket is queued
pub distinct_more : (m : ℕ) (q : List Node) (n : Node) → Distinct m q → n.bucket < m → marked n.bucket q ≡ false → Distinct m (q ++ (n ∷ []))
distinct_more m q n d l e = record {
  below = λ x k. elim (hit-cases x n.bucket) [ inl g ↦ rw g l | inr w ↦ d.below x (omega (arith, occ-queue x q (n ∷ []))) ];
  once = λ x. elim (hit-cases x n.bucket) [
    | inl g ↦ rw g (omega (arith, occ-queue n.bucket q (n ∷ []), hit-refl n.bucket, marked-false n.bucket q e))
    | inr w ↦ omega (arith, occ-queue x q (n ∷ []), d.once x)
  ];
}

pub distinct-short : (m : ℕ) (q : List Node) → Distinct m q → length q ≤ m
distinct-short m q d = omega (arith, few m (buckets_of q) d.below d.once, length-buckets q)

-- and so there is room for it
pub distinct-room : (m : ℕ) (q : List Node) (n : Node) → Distinct m q → n.bucket < m → marked n.bucket q ≡ false → length q < m
distinct-room m q n d l e = omega (arith, distinct-short m (q ++ (n ∷ [])) (distinct_more m q n d l e), length-append q (n ∷ []))

-- buckets with one path
pub occ-leads : (x : ℕ) (p xs : List ℕ) → occ x (buckets_of (map (λ (y : ℕ). node y p) xs)) ≡ occ x xs
occ-leads x p [] = refl
occ-leads x p (y ∷ xs) = omega (arith, occ-leads x p xs)

pub all-leads : (P : Node → Type 0) (p xs : List ℕ) → ((x : ℕ) → x among xs → P (node x p)) → All P (map (λ (y : ℕ). node y p) xs)
all-leads P p [] f = tt
all-leads P p (x ∷ xs) f = (f x (omega (arith, hit-refl x)), all-leads P p xs (λ y k. f y (omega arith)))

-- the candidates as nodes yet to be looked at
abbrev pub root_nodes : List ℕ → List Node
root_nodes xs = map (λ (x : ℕ). node x []) xs
