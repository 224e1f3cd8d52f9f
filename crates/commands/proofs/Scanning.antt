-- The blanks at the end of a text, counted from its end.
-- Assumes nothing.
use mathlib.Core.Path.{◌≡◌, refl, sym, ap, ◌∙◌}
use mathlib.Core.Bool.{Bool, true, false, beq, cond}
use mathlib.Core.List.{List, [], ◌∷◌, ◌++◌, reverse}
use Prim.Native.Nat.{ℕ, suc, ◌+◌, ◌-◌, ◌≤◌}
use native.Mathlib.Omega.{arith}
use lib.ListN.{length, take}
use lib.Seq.{take_all}
use Rattle.std.proofs.lemmas.List.{take-append-le, length-reverse, reverse-reverse, reverse-append, length-append}
use Rattle.commands.specs.Words.{blank, front, unless_blank, trim_end}

solid : (a : ℕ) (l : List ℕ) (b : ℕ) → unless_blank a (l ++ (b ∷ [])) ≡ a ∷ l ++ (b ∷ [])
solid a [] b = refl
solid a (x ∷ l) b = refl

trim-last : (l : List ℕ) (b : ℕ) → trim_end (l ++ (b ∷ [])) ≡ cond (blank b) (trim_end l) (l ++ (b ∷ []))
unfolding trim_end
trim-last [] b = refl
trim-last (a ∷ l) b = ap (unless_blank a) (trim-last l b) ∙ go (blank b)
  where
    go : (t : Bool) → unless_blank a (cond t (trim_end l) (l ++ (b ∷ []))) ≡ cond t (unless_blank a (trim_end l)) (a ∷ l ++ (b ∷ []))
    go true = refl
    go false = solid a l b

front-le : (t : Bool) (l : List ℕ) → front t l ≤ length l
front-le t [] = omega arith
front-le t (b ∷ l) = go (beq (blank b) t) (front-le t l)
  where
    go : (u : Bool) → front t l ≤ length l → cond u (1 + front t l) 0 ≤ suc (length l)
    go true h = omega arith
    go false h = omega arith

trim-back : (r : List ℕ) → take (length r - front true r) (reverse r) ≡ trim_end (reverse r)
unfolding trim_end
trim-back [] = refl
trim-back (b ∷ r) =
    let turned : reverse (b ∷ r) ≡ reverse r ++ (b ∷ []) = reverse-append (b ∷ []) r in
    rw turned (go (blank b) (trim-back r) ∙ sym (trim-last (reverse r) b))
  where
    go : (t : Bool) → take (length r - front true r) (reverse r) ≡ trim_end (reverse r)
        → take (suc (length r) - cond (beq t true) (1 + front true r) 0) (reverse r ++ (b ∷ [])) ≡ cond t (trim_end (reverse r)) (reverse r ++ (b ∷ []))
    go true e =
        let n : suc (length r) - (1 + front true r) ≡ length r - front true r = omega (arith, front-le true r) in
        let h : length r - front true r ≤ length (reverse r) = omega (arith, length-reverse r) in
        rw (n, take-append-le) e
    go false e = take_all _ (reverse r ++ (b ∷ [])) (omega (arith, length-append (reverse r) (b ∷ []), length-reverse r))

pub counted_end : (l : List ℕ) → take (length l - front true (reverse l)) l ≡ trim_end l
counted_end l = rw (reverse-reverse, length-reverse) at (trim-back (reverse l))
