-- Occurrences in a list.
-- Assumes nothing.
use mathlib.Core.Path.{◌≡◌, refl, sym, subst}
use mathlib.Core.Logic.{◌⊎◌, inl, inr, ◌≢◌}
use mathlib.Core.Bool.{Bool, true, false, cond}
use mathlib.Core.List.{List, [], ◌∷◌, ◌++◌}
use Prim.Native.Nat.{ℕ, zero, suc, ◌+◌, ◌≤◌}
use native.Mathlib.Omega.{arith}
use lib.Dec.{T, eqb, eqb→eq, eqb_refl}
use Rattle.lemmas.specs.Count.{hit, occ, ◌among◌}

pub T_of : {b : Bool} → b ≡ true → T b
T_of e = subst T (sym e) tt

pub eqb-ne : (x y : ℕ) → eqb x y ≡ false → x ≢ y
eqb-ne x y e h = subst T e (subst (λ (z : ℕ). T (eqb x z)) h (eqb_refl x))

-- the two numbers are equal, or the hit is 0
pub hit-cases : (x y : ℕ) → (x ≡ y) ⊎ (hit x y ≡ 0)
unfolding hit
hit-cases x y = go (eqb x y) refl
  where
    go : (b : Bool) → eqb x y ≡ b → (x ≡ y) ⊎ ◌≡◌ {A = ℕ} (cond b 1 0) 0
    go true e = inl (eqb→eq x y (T_of e))
    go false e = inr refl

pub hit-refl : (x : ℕ) → hit x x ≡ 1
unfolding hit
hit-refl x = go (eqb x x) (eqb_refl x)
  where
    go : (b : Bool) → T b → ◌≡◌ {A = ℕ} (cond b 1 0) 1
    go true t = refl
    go false t = absurd t

pub hit-of : (x y : ℕ) → x ≡ y → hit x y ≡ 1
hit-of x y e = subst (λ (z : ℕ). hit x z ≡ 1) e (hit-refl x)

pub hit-ne : (x y : ℕ) → hit x y ≡ 0 → x ≢ y
hit-ne x y z e = omega (arith, hit-of x y e)

pub occ-append : (x : ℕ) (l m : List ℕ) → occ x (l ++ m) ≡ occ x l + occ x m
occ-append x [] m = omega arith
occ-append x (y ∷ l) m = omega (arith, occ-append x l m)

-- what holds of each of a list's members holds of whatever stands in it
pub among-cons : (P : ℕ → Type 0) (y : ℕ) (l : List ℕ) → P y → ((x : ℕ) → x among l → P x) → (x : ℕ) → x among y ∷ l → P x
among-cons P y l py pl x h = elim (hit-cases x y) [ inl e ↦ subst P (sym e) py | inr z ↦ pl x (omega arith) ]

pub among-nil : (P : ℕ → Type 0) (x : ℕ) → x among [] → P x
among-nil P x h = absurd (omega arith)

pub zero-cases : (n : ℕ) → (n ≡ 0) ⊎ (1 ≤ n)
zero-cases zero = inl refl
zero-cases (suc n) = inr (omega arith)

pub hit-eq : (x y : ℕ) → 1 ≤ hit x y → x ≡ y
hit-eq x y h = elim (hit-cases x y) [ inl e ↦ e | inr z ↦ absurd (omega arith) ]

pub hit-miss : (x y : ℕ) → x ≢ y → hit x y ≡ 0
hit-miss x y n = elim (hit-cases x y) [ inl e ↦ absurd (n e) | inr z ↦ z ]

pub hit-sym : (x y : ℕ) → hit x y ≡ hit y x
hit-sym x y = go (hit-cases x y) (hit-cases y x)
  where
    go : (x ≡ y) ⊎ (hit x y ≡ 0) → (y ≡ x) ⊎ (hit y x ≡ 0) → hit x y ≡ hit y x
    go (inl e) f = omega (arith, hit-of x y e, hit-of y x (sym e))
    go (inr z) (inl e) = omega (arith, hit-of x y (sym e))
    go (inr z) (inr w) = omega arith
