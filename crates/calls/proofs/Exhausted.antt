-- An exhausted search: the queue's buckets are full, and every candidate of their entries and of the new one is among them. So the
-- entries and the new one cannot all be assigned.
-- Assumes nothing.
use mathlib.Core.Path.{◌≡◌, refl, ap}
use mathlib.Core.Logic.{inl, inr}
use mathlib.Core.Bool.{Bool, true, false, cond}
use mathlib.Core.List.{List, [], ◌∷◌}
use Prim.Native.Nat.{ℕ, ◌*◌, ◌/◌, ◌≤◌, ◌<◌}
use native.Mathlib.Omega.{arith}
use lib.Dec.{eqb, eqb→eq}
use lib.ListN.{length}
use lib.Seq.{take-length}
use Rattle.lemmas.specs.Count.{occ, ◌among◌}
use Rattle.lemmas.specs.Sums.{total}
use Rattle.lemmas.proofs.Count.{T_of, eqb-ne, hit-cases, hit-refl, zero-cases}
use Rattle.lemmas.proofs.Sums.{sum-le, sum-fours, sum-occ, total-occ}
use Rattle.index.specs.Candidates.{candidates, Class, class_at}
use Rattle.index.specs.Laws.{Laws}
use Rattle.index.specs.declared.Settings.{Settings}
use Rattle.calls.specs.Cells.{cell}
use Rattle.calls.specs.Search.{Node}
use Rattle.calls.specs.Assignment.{Fits, Assignable}
use Rattle.calls.specs.Demand.{entries}
use Rattle.calls.specs.Multiset.{Same}
use Rattle.calls.proofs.Classes.{from-class}
use Rattle.calls.specs.Laws.{buckets_of}
use Rattle.calls.proofs.Nodes.{taken, Full}
use Rattle.calls.proofs.Queue.{Inv}
use Rattle.calls.proofs.Weights.{weight_at, weight-filled, total-entries}

-- 1 if all members of the list are in d
unfoldable inside : List ℕ → List ℕ → ℕ
inside d [] = 1
inside d (x ∷ l) = cond (eqb (occ x d) 0) 0 (inside d l)

inside_one : (d l : List ℕ) → ((x : ℕ) → x among l → x among d) → inside d l ≡ 1
unfolding inside
inside_one d [] h = refl
inside_one d (x ∷ l) h = go (eqb (occ x d) 0) refl (inside_one d l (λ y k. h y (omega arith)))
  where
    go : (b : Bool) → eqb (occ x d) 0 ≡ b → inside d l ≡ 1 → cond b 0 (inside d l) ≡ 1
    go true e r = absurd (omega (arith, h x (omega (arith, hit-refl x)), eqb→eq (occ x d) 0 (T_of e)))
    go false e r = r

inside-le : (d l : List ℕ) → inside d l ≤ 1
unfolding inside
inside-le d [] = omega arith
inside-le d (x ∷ l) = go (eqb (occ x d) 0) (inside-le d l)
  where
    go : (b : Bool) → inside d l ≤ 1 → cond b 0 (inside d l) ≤ 1
    go true r = omega arith
    go false r = r

inside-occ : (d l : List ℕ) (x : ℕ) → x among l → inside d l ≤ occ x d
unfolding inside
inside-occ d [] x h = absurd (omega arith)
inside-occ d (y ∷ l) x h = go (eqb (occ y d) 0) refl (inside-occ d l x)
  where
    go : (b : Bool) → eqb (occ y d) 0 ≡ b → (x among l → inside d l ≤ occ x d) → cond b 0 (inside d l) ≤ occ x d
    go true e r = omega arith
    go false e r = elim (hit-cases x y) [ inl k ↦ rw k (omega (arith, inside-le d l, eqb-ne (occ y d) 0 e)) | inr z ↦ r (omega arith) ]

-- entries that can go nowhere but into d are given buckets of d
fits_le : (d : List ℕ) (ks : List Class) (bs : List ℕ) → Fits ks bs → total (λ k. inside d k.set) ks ≤ total (λ b. occ b d) bs
fits_le d [] [] f = omega arith
fits_le d [] (b ∷ bs) f = absurd f
fits_le d (k ∷ ks) [] f = absurd f
fits_le d (k ∷ ks) (b ∷ bs) f = omega (arith, inside-occ d k.set b f.0, fits_le d ks bs f.1)

pub not-assignable : (s : Settings) (L : Laws s) (c : List ℕ) (p b : ℕ) → b < s.buckets → Full c (candidates s p b)
    → (q : List Node) → Inv s c (candidates s p b) (length q) q [] → (E : List Class) → Same (entries s c) E → Assignable (class_at s p b ∷ E) → ⊥
not-assignable s L c p b l o q v E m a =
    omega (
      arith,
      fits_le d (class_at s p b ∷ E) a.0 a.1,
      total-occ 4 a.0 d a.2,
      inside_one d (class_at s p b).set (λ x g. omega (arith, v.rooted x (from-class s L p b x l g))),
      m w,
      total-entries s w c,
      sum-occ s.buckets d v.queue.below,
      sum-fours s.buckets (λ x. occ x d),
      sum-le (4 * s.buckets) (λ i. occ (i / 4) d) (λ i. weight_at s w i (cell c i)) (λ i g. each i),
    )
  where
    d : List ℕ
    d = buckets_of q

    w : Class → ℕ
    w k = inside d k.set

    all : taken (length q) q ≡ d
    all = ap buckets_of (take-length q)

    each : (i : ℕ) → occ (i / 4) d ≤ weight_at s w i (cell c i)
    each i = elim (zero-cases (occ (i / 4) d)) [
      | inl z ↦ omega arith
      | inr g ↦ omega (
        arith,
        v.queue.once (i / 4),
        weight-filled s w i (cell c i) (v.full o i g),
        inside_one d (class_at s (cell c i) (i / 4)).set
            (λ x k. omega (arith, v.closed i x (rw all g) (from-class s L (cell c i) (i / 4) x (v.queue.below (i / 4) g) k))),
      )
    ]
