-- The XOR rules: a bucket put to each of a closed set of steps comes to the same set from each of its members.
-- Assumes nothing.
use Rattle.std.proofs.Common.{◌≡◌, ℕ, ◌⊎◌, List, [], ◌∷◌, ◌++◌, map, sym, refl, ap, ◌∙◌, subst, inl, inr, arith}
use native.Mathlib.Decide.{dec_le}
use lib.Bits.{bit_xor, xor_zero_l, xor_zero_r, xor_comm, xor_self}
use Rattle.lemmas.specs.Count.{hit, occ, ◌among◌}
use Rattle.lemmas.specs.Members.{Alike}
use Rattle.lemmas.proofs.Count.{hit-cases, hit-refl, hit-of, occ-append}
use Rattle.lemmas.proofs.Bits.{xor_assoc, xor-back}

-- the steps, with 0 among them, are closed: what two of them make is one of them
pub Closed : List ℕ → Type 0
Closed l = (x y : ℕ) → x among l → y among l → bit_xor x y among l

-- x stands in b put to each of the steps: it is b put to one of them
pub step_of : (b : ℕ) (l : List ℕ) (x : ℕ) → x among map (bit_xor b) l → (d : ℕ) × (d among l) × (x ≡ bit_xor b d)
step_of b [] x h = absurd (omega arith)
step_of b (d ∷ l) x h = go (hit-cases x (bit_xor b d)) (step_of b l x)
  where
    go : (x ≡ bit_xor b d) ⊎ (hit x (bit_xor b d) ≡ 0) → (x among map (bit_xor b) l → (e : ℕ) × (e among l) × (x ≡ bit_xor b e)) → (e : ℕ) × (e among d ∷ l) × (x ≡ bit_xor b e)
    go (inl e) r = (d, omega (arith, hit-refl d), e)
    go (inr z) r = let t = r (omega arith) in (t.0, omega (arith, t.1), t.2)

of-step : (b : ℕ) (l : List ℕ) (d : ℕ) → d among l → bit_xor b d among map (bit_xor b) l
of-step b [] d h = absurd (omega arith)
of-step b (e ∷ l) d h = go (hit-cases d e) (of-step b l d)
  where
    go : (d ≡ e) ⊎ (hit d e ≡ 0) → (d among l → bit_xor b d among map (bit_xor b) l) → bit_xor b d among map (bit_xor b) (e ∷ l)
    go (inl q) r = omega (arith, hit-of (bit_xor b d) (bit_xor b e) (ap (bit_xor b) q))
    go (inr z) r = omega (arith, r (omega arith))

-- a coset is the same from each of its members
half-coset : (l : List ℕ) → Closed l → (b e y : ℕ) → e among l → y among map (bit_xor (bit_xor b e)) l → y among map (bit_xor b) l
unfolding Closed
half-coset l C b e y h k =
    let t = step_of (bit_xor b e) l y k in
    rw (t.2, xor_assoc b e t.0) (of-step b l (bit_xor e t.0) (C e t.0 h t.1))

pub coset : (l : List ℕ) → Closed l → (b x : ℕ) → x among map (bit_xor b) l → Alike (map (bit_xor x) l) (map (bit_xor b) l)
coset l C b x h y =
    let t = step_of b l x h in
    let back : b ≡ bit_xor x t.0 = sym (ap (λ (z : ℕ). bit_xor z t.0) t.2 ∙ xor_assoc b t.0 t.0 ∙ ap (bit_xor b) (xor_self t.0) ∙ xor_zero_r b) in (
      λ k. half-coset l C b t.0 y t.1 (subst (λ (z : ℕ). y among map (bit_xor z) l) t.2 k),
      λ k. half-coset l C x t.0 y t.1 (subst (λ (z : ℕ). y among map (bit_xor z) l) back k),
    )

-- the steps of both rules are closed: 0 alone is, and a closed set with the same set put to x beside it
nothing-closed : Closed (0 ∷ [])
unfolding Closed
nothing-closed x y hx hy = elim (hit-cases x 0) [
  | inl e ↦ subst (λ (v : ℕ). v among 0 ∷ []) (sym (ap (λ (z : ℕ). bit_xor z y) e ∙ xor_zero_l y)) hy
  | inr n ↦ absurd (omega arith)
]

-- a member of the doubled set is one of the old set, or x put to one
twice_of : (x : ℕ) (l : List ℕ) (y : ℕ) → y among l ++ map (bit_xor x) l → (y among l) ⊎ ((e : ℕ) × (e among l) × (y ≡ bit_xor x e))
twice_of x l y h = go (dec_le 1 (occ y l))
  where
    go : Dec (y among l) → (y among l) ⊎ ((e : ℕ) × (e among l) × (y ≡ bit_xor x e))
    go (yes k) = inl k
    go (no n) = inr (step_of x l y (omega (arith, occ-append y l (map (bit_xor x) l))))

doubled-closed : (x : ℕ) (l : List ℕ) → Closed l → Closed (l ++ map (bit_xor x) l)
unfolding Closed
doubled-closed x l C y z hy hz = go (twice_of x l y hy) (twice_of x l z hz)
  where
    old : (v w : ℕ) → v ≡ w → w among l → v among l ++ map (bit_xor x) l
    old v w e h = subst (λ (u : ℕ). u among l ++ map (bit_xor x) l) (sym e) (omega (arith, occ-append w l (map (bit_xor x) l)))

    new : (v w : ℕ) → v ≡ bit_xor x w → w among l → v among l ++ map (bit_xor x) l
    new v w e h = subst (λ (u : ℕ). u among l ++ map (bit_xor x) l) (sym e) (omega (arith, occ-append (bit_xor x w) l (map (bit_xor x) l), of-step x l w h))

    go : (y among l) ⊎ ((e : ℕ) × (e among l) × (y ≡ bit_xor x e)) → (z among l) ⊎ ((e : ℕ) × (e among l) × (z ≡ bit_xor x e)) → bit_xor y z among l ++ map (bit_xor x) l
    go (inl a) (inl b) = old (bit_xor y z) (bit_xor y z) refl (C y z a b)
    go (inl a) (inr (f, b, q)) =
        new (bit_xor y z) (bit_xor y f) (ap (bit_xor y) q ∙ sym (xor_assoc y x f) ∙ ap (λ (u : ℕ). bit_xor u f) (xor_comm y x) ∙ xor_assoc x y f) (C y f a b)
    go (inr (e, a, p)) (inl b) = new (bit_xor y z) (bit_xor e z) (ap (λ (u : ℕ). bit_xor u z) p ∙ xor_assoc x e z) (C e z a b)
    go (inr (e, a, p)) (inr (f, b, q)) =
        old (bit_xor y z) (bit_xor e f)
        (ap (λ (u : ℕ). bit_xor u z) (p ∙ xor_comm x e) ∙ ap (bit_xor (bit_xor e x)) q ∙ xor_assoc e x (bit_xor x f) ∙ ap (bit_xor e) (xor-back x f))
        (C e f a b)

pub plain_closed : (d : ℕ) → Closed (0 ∷ d ∷ [])
plain_closed d = subst (λ (v : ℕ). Closed (0 ∷ v ∷ [])) (xor_zero_r d) (doubled-closed d (0 ∷ []) nothing-closed)

pub masked-closed : (x y d : ℕ) → bit_xor x y ≡ d → Closed (0 ∷ x ∷ y ∷ d ∷ [])
masked-closed x y d e =
    subst (λ (v : ℕ). Closed (0 ∷ x ∷ v ∷ d ∷ [])) (xor_zero_r y)
    (subst (λ (v : ℕ). Closed (0 ∷ x ∷ bit_xor y 0 ∷ v ∷ [])) (xor_comm y x ∙ e) (doubled-closed y (0 ∷ x ∷ []) (plain_closed x)))
