-- The normal form of a set: what stands in it, that it ascends, and that lists with the same members share it.
-- Assumes nothing.
use mathlib.Core.Path.{◌≡◌, refl, sym, ap₂, subst}
use mathlib.Core.Logic.{◌⊎◌, inl, inr}
use mathlib.Core.Bool.{Bool, true, false, cond}
use mathlib.Core.List.{List, [], ◌∷◌, ◌++◌}
use Prim.Native.Nat.{ℕ, zero, suc, ◌<◌}
use native.Mathlib.Decide.{ℕ_discrete}
use native.Mathlib.Omega.{arith}
use lib.Dec.{eqb, eqb→eq}
use Rattle.lemmas.specs.Count.{hit, occ, ◌among◌}
use Rattle.lemmas.specs.Members.{members_below, AllAbove, Ascending, Alike, firsts}
use Rattle.lemmas.proofs.Count.{T_of, eqb-ne, hit-cases, hit-refl, hit-of, hit-ne, hit-miss, occ-append}

pub alike_refl : (l : List ℕ) → Alike l l
alike_refl l x = (λ h. h, λ h. h)

pub members_alike : (n : ℕ) (l m : List ℕ) → Alike l m → members_below n l ≡ members_below n m
unfolding members_below
members_alike zero l m a = refl
members_alike (suc n) l m a = ap₂ ◌++◌ (members_alike n l m a) (go (eqb (occ n l) 0) refl (eqb (occ n m) 0) refl)
  where
    go : (b : Bool) → eqb (occ n l) 0 ≡ b → (d : Bool) → eqb (occ n m) 0 ≡ d → cond b [] (n ∷ []) ≡ cond d [] (n ∷ [])
    go true e true f = refl
    go false e false f = refl
    go true e false f = absurd (omega (arith, (a n).1 (omega (arith, eqb-ne (occ n m) 0 f)), eqb→eq (occ n l) 0 (T_of e)))
    go false e true f = absurd (omega (arith, (a n).0 (omega (arith, eqb-ne (occ n l) 0 e)), eqb→eq (occ n m) 0 (T_of f)))

-- the last number to be tried stands in the set exactly if it stands in the list
last-in : (n x : ℕ) (l s : List ℕ) (b : Bool) → eqb (occ n l) 0 ≡ b → x ≡ n → x among l → x among s ++ cond b [] (n ∷ [])
last-in n x l s true e k g = absurd (omega (arith, subst (λ (y : ℕ). y among l) k g, eqb→eq (occ n l) 0 (T_of e)))
last-in n x l s false e k g = omega (arith, occ-append x s (n ∷ []), hit-of x n k)

pub into-members : (n : ℕ) (l : List ℕ) (x : ℕ) → x < n → x among l → x among members_below n l
unfolding members_below
into-members zero l x h g = absurd (omega arith)
into-members (suc n) l x h g = go (into-members n l x) (hit-cases x n)
  where
    go : (x < n → x among l → x among members_below n l) → (x ≡ n) ⊎ (hit x n ≡ 0) → x among members_below n l ++ cond (eqb (occ n l) 0) [] (n ∷ [])
    go r (inl k) = last-in n x l (members_below n l) (eqb (occ n l) 0) refl k g
    go r (inr z) = omega (arith, occ-append x (members_below n l) (cond (eqb (occ n l) 0) [] (n ∷ [])), r (omega (arith, hit-ne x n z)) g)

pub from-members : (n : ℕ) (l : List ℕ) (x : ℕ) → x among members_below n l → x among l
unfolding members_below
from-members zero l x h = absurd (omega arith)
from-members (suc n) l x h = go (eqb (occ n l) 0) refl h (from-members n l x)
  where
    go : (b : Bool) → eqb (occ n l) 0 ≡ b → x among members_below n l ++ cond b [] (n ∷ []) → (x among members_below n l → x among l) → x among l
    go true e h r = r (omega (arith, occ-append x (members_below n l) []))
    go false e h r = elim (hit-cases x n) [
      | inl k ↦ subst (λ (y : ℕ). y among l) (sym k) (omega (arith, eqb-ne (occ n l) 0 e))
      | inr z ↦ r (omega (arith, occ-append x (members_below n l) (n ∷ [])))
    ]

pub members-below : (n : ℕ) (l : List ℕ) (x : ℕ) → x among members_below n l → x < n
unfolding members_below
members-below zero l x h = absurd (omega arith)
members-below (suc n) l x h = go (eqb (occ n l) 0) h (members-below n l x)
  where
    go : (b : Bool) → x among members_below n l ++ cond b [] (n ∷ []) → (x among members_below n l → x < n) → x < suc n
    go true h r = omega (arith, r (omega (arith, occ-append x (members_below n l) [])))
    go false h r = elim (hit-cases x n) [
      | inl k ↦ omega arith
      | inr z ↦ omega (arith, r (omega (arith, occ-append x (members_below n l) (n ∷ []))))
    ]

-- a list with one larger number behind it
above-snoc : (x n : ℕ) (l : List ℕ) → AllAbove x l → x < n → AllAbove x (l ++ (n ∷ []))
above-snoc x n [] a h = (h, tt)
above-snoc x n (y ∷ l) a h = (a.0, above-snoc x n l a.1 h)

ascending-snoc : (n : ℕ) (l : List ℕ) → Ascending l → ((x : ℕ) → x among l → x < n) → Ascending (l ++ (n ∷ []))
ascending-snoc n [] a h = (tt, tt)
ascending-snoc n (y ∷ l) a h =
    (above-snoc y n l a.0 (h y (omega (arith, hit-of y y refl))), ascending-snoc n l a.1 (λ x k. h x (omega arith)))

append-nil : (l : List ℕ) → Ascending l → Ascending (l ++ [])
append-nil [] a = a
append-nil (y ∷ l) a = (above y l a.0, append-nil l a.1)
  where
    above : (x : ℕ) (l : List ℕ) → AllAbove x l → AllAbove x (l ++ [])
    above x [] a = a
    above x (z ∷ l) a = (a.0, above x l a.1)

pub members-ascend : (n : ℕ) (l : List ℕ) → Ascending (members_below n l)
unfolding members_below
members-ascend zero l = tt
members-ascend (suc n) l = go (eqb (occ n l) 0)
    (append-nil (members_below n l) (members-ascend n l))
    (ascending-snoc n (members_below n l) (members-ascend n l) (members-below n l))
  where
    go : (b : Bool) → Ascending (members_below n l ++ []) → Ascending (members_below n l ++ (n ∷ [])) → Ascending (members_below n l ++ cond b [] (n ∷ []))
    go true p q = p
    go false p q = q

-- ── two numbers, each twice ──
module _ (a b : ℕ) where
  -- one behind itself, and the pair behind the pair
  pub firsts-doubled : firsts (a ∷ a ∷ b ∷ b ∷ []) ≡ firsts (a ∷ b ∷ [])
  unfolding firsts
  firsts-doubled = elim (ℕ_discrete b a) [
    | yes e ↦ rw (e, hit-refl a) refl
    | no n ↦ rw (hit-refl a, hit-refl b, hit-miss b a n) refl
  ]

  pub firsts-again : firsts (a ∷ b ∷ a ∷ b ∷ []) ≡ firsts (a ∷ b ∷ [])
  unfolding firsts
  firsts-again = elim (ℕ_discrete b a) [
    | yes e ↦ rw (e, hit-refl a) refl
    | no n ↦ rw (hit-refl a, hit-refl b, hit-miss b a n, hit-miss a b (λ z. n (sym z))) refl
  ]

  pub alike-doubled : Alike (a ∷ a ∷ b ∷ b ∷ []) (a ∷ b ∷ [])
  alike-doubled x = (λ h. omega arith, λ h. omega arith)

  pub alike-again : Alike (a ∷ b ∷ a ∷ b ∷ []) (a ∷ b ∷ [])
  alike-again x = (λ h. omega arith, λ h. omega arith)
