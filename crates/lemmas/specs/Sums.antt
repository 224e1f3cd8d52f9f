-- Sums over the numbers below a bound, and over a list; how often a function has a value.
-- Assumes nothing.
use Rattle.std.specs.Prelude.{cond, List, [], ◌∷◌, ℕ, zero, suc, ◌+◌, eqb}
use Rattle.lemmas.specs.Count.{hit, occ}

-- f 0 + .. + f (n - 1)
abbrev pub sum_to : ℕ → (ℕ → ℕ) → ℕ
sum_to zero f = 0
sum_to (suc n) f = sum_to n f + f n

-- how many of the numbers below n the function takes to p
unfoldable pub times_below : ℕ → (ℕ → ℕ) → ℕ → ℕ
times_below n f p = sum_to n (λ x. hit (f x) p)

-- the sum of a weight over a list's members
abbrev pub total : {A : Type 0} → (A → ℕ) → List A → ℕ
total w [] = 0
total w (x ∷ l) = w x + total w l

-- the sum of a weight over the numbers below n that stand in the list, each once however often it stands there
unfoldable pub total_once : ℕ → (ℕ → ℕ) → List ℕ → ℕ
total_once n w l = sum_to n (λ x. cond (eqb (occ x l) 0) 0 (w x))
