-- Classes by the index layer's laws, and lists of classes as multisets: two are the same multiset if every weight has the same total on
-- both.
-- Assumes nothing.
use mathlib.Core.Path.{◌≡◌, refl, sym, ap, ◌∙◌, subst}
use mathlib.Core.Logic.{◌⊎◌, inl, inr}
use mathlib.Core.List.{List, [], ◌∷◌}
use mathlib.Core.List.Permᴰ
use mathlib.Core.List.{Permᴰ}
use Prim.Native.Nat.{ℕ, ◌+◌, ◌≤◌, ◌<◌}
use native.Mathlib.Omega.{arith}
use Rattle.lemmas.specs.Count.{occ, ◌among◌}
use Rattle.lemmas.specs.Sums.{total}
use Rattle.lemmas.proofs.Count.{hit-refl}
use Rattle.index.specs.Candidates.{others, candidates, Class, class_at}
use Rattle.index.specs.Laws.{Laws}
use Rattle.index.specs.declared.Settings.{Settings}
use Rattle.calls.specs.Assignment.{Fits, Assignable}
use Rattle.calls.specs.Multiset.{dec_class, one_if, count, without, erase, Same}

class-eq : (k x : Class) → k.print ≡ x.print → k.set ≡ x.set → k ≡ x
class-eq k x p q i = record { print = p i; set = q i }

module _ (s : Settings) (L : Laws s) where
  -- a candidate is the bucket itself or one of the others
  pub other-candidate : (p b x : ℕ) → x among others s p b → x among candidates s p b
  other-candidate p b x h = rw (L.first p b) (omega arith)

  pub own-candidate : (p b : ℕ) → b among candidates s p b
  own-candidate p b = rw (L.first p b) (omega (arith, hit-refl b))

  -- an entry keeps its class wherever it is moved
  pub class_same : (p b x : ℕ) → b < s.buckets → x among candidates s p b → class_at s p x ≡ class_at s p b
  class_same p b x l h = class-eq (class_at s p x) (class_at s p b) (L.class_print p x ∙ sym (L.class_print p b))
      (L.class_set p x ∙ L.same_set p b x l h ∙ sym (L.class_set p b))

  pub from-class : (p b x : ℕ) → b < s.buckets → x among (class_at s p b).set → x among candidates s p b
  from-class p b x l h = (L.members p b x l).0 (rw (L.class_set p b) at h)

  pub own-class : (p b : ℕ) → b < s.buckets → b among (class_at s p b).set
  own-class p b l = rw (L.class_set p b) ((L.members p b b l).1 (own-candidate p b))

-- ── multisets ──
-- 1 at k, 0 elsewhere
unfoldable pub one_at : Class → Class → ℕ
one_at k x = one_if (dec_class k x)

pub one-refl : (k : Class) → one_at k k ≡ 1
unfolding one_at
one-refl k = go (dec_class k k)
  where
    go : (d : Dec (k ≡ k)) → one_if d ≡ 1
    go (yes e) = refl
    go (no n) = absurd (n refl)

pub one-cases : (k x : Class) → (k ≡ x) ⊎ (one_at k x ≡ 0)
unfolding one_at
one-cases k x = go (dec_class k x)
  where
    go : (d : Dec (k ≡ x)) → (k ≡ x) ⊎ (one_if d ≡ 0)
    go (yes e) = inl e
    go (no n) = inr refl

pub count-total : (k : Class) (l : List Class) → count k l ≡ total (one_at k) l
unfolding count one_at
count-total k [] = refl
count-total k (x ∷ l) = ap (λ (n : ℕ). one_if (dec_class k x) + n) (count-total k l)

-- one copy is taken out
pub erase-total : (w : Class → ℕ) (k : Class) (l : List Class) → 1 ≤ total (one_at k) l → total w (erase k l) + w k ≡ total w l
unfolding erase
erase-total w k [] h = absurd (omega arith)
erase-total w k (x ∷ l) h = go (dec_class k x) (erase-total w k l)
  where
    go : (d : Dec (k ≡ x)) → (1 ≤ total (one_at k) l → total w (erase k l) + w k ≡ total w l) → total w (without d l (erase k l)) + w k ≡ total w (x ∷ l)
    go (yes e) r = omega (arith, ap w e)
    go (no n) r = elim (one-cases k x) [ inl e ↦ absurd (n e) | inr z ↦ omega (arith, r (omega arith)) ]

-- ── the same multiset is a permutation ──
perm_same : {l m : List Class} → Permᴰ l m → Same l m
perm_same Permᴰ.nil w = refl
perm_same (Permᴰ.cons e r) w = omega (arith, ap w e, perm_same r w)
perm_same (Permᴰ.swap e f) w = omega (arith, ap w e, ap w f)
perm_same (Permᴰ.trans r s) w = perm_same r w ∙ perm_same s w

front : (k : Class) (l : List Class) → 1 ≤ total (one_at k) l → (m : List Class) × Permᴰ l (k ∷ m)
front k [] h = absurd (omega arith)
front k (x ∷ l) h = go (one-cases k x) (front k l)
  where
    go : (k ≡ x) ⊎ (one_at k x ≡ 0) → (1 ≤ total (one_at k) l → (m : List Class) × Permᴰ l (k ∷ m)) → (m : List Class) × Permᴰ (x ∷ l) (k ∷ m)
    go (inl e) r = (l, Permᴰ.cons (sym e) (Permᴰ.refl l))
    go (inr z) r = let f = r (omega arith) in (x ∷ f.0, Permᴰ.trans (Permᴰ.cons refl f.1) (Permᴰ.swap refl refl))

pub same_perm : (m l : List Class) → Same l m → Permᴰ l m
same_perm [] [] s = Permᴰ.nil
same_perm [] (x ∷ l) s = absurd (omega (arith, s (λ k. 1)))
same_perm (k ∷ m) l s =
    let f = front k l (omega (arith, s (one_at k), one-refl k)) in
    Permᴰ.trans f.1 (Permᴰ.cons refl (same_perm m f.0 (λ w. omega (arith, s w, perm_same f.1 w))))

-- ── whether entries can be assigned depends on the multiset alone ──
fits-perm : {l m : List Class} → Permᴰ l m → (bs : List ℕ) → Fits l bs → (cs : List ℕ) × Fits m cs × ((x : ℕ) → occ x cs ≡ occ x bs)
fits-perm Permᴰ.nil bs f = (bs, f, λ x. refl)
fits-perm (Permᴰ.cons e r) [] f = absurd f
fits-perm (Permᴰ.cons e r) (b ∷ bs) f =
    let g = fits-perm r bs f.1 in
    (b ∷ g.0, (subst (λ (k : Class). b among k.set) e f.0, g.1), λ x. omega (arith, g.2 x))
fits-perm (Permᴰ.swap e h) [] f = absurd f
fits-perm (Permᴰ.swap e h) (b ∷ []) f = absurd f.1
fits-perm (Permᴰ.swap e h) (b ∷ d ∷ bs) f =
    (d ∷ b ∷ bs, (subst (λ (k : Class). d among k.set) h f.1.0, (subst (λ (k : Class). b among k.set) e f.0, f.1.1)), λ x. omega arith)
fits-perm (Permᴰ.trans r s) bs f =
    let g = fits-perm r bs f in
    let h = fits-perm s g.0 g.1 in
    (h.0, h.1, λ x. h.2 x ∙ g.2 x)

pub assignable-same : (l m : List Class) → Same l m → Assignable l → Assignable m
assignable-same l m s a = let g = fits-perm (same_perm m l s) a.0 a.1 in (g.0, g.1, λ x. omega (arith, g.2 x, a.2 x))
