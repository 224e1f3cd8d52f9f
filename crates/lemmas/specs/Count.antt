-- How often a number stands in a list.
-- Assumes nothing.
use Rattle.std.specs.Prelude.{cond, List, [], ◌∷◌, ℕ, ◌+◌, ◌≤◌, eqb}

infix 4 ◌among◌
-- 1 if the two are equal, else 0
unfoldable pub hit : ℕ → ℕ → ℕ
hit x y = cond (eqb x y) 1 0

-- how often x stands in the list
abbrev pub occ : ℕ → List ℕ → ℕ
occ x [] = 0
occ x (y ∷ l) = hit x y + occ x l

-- x stands in the list
abbrev pub ◌among◌ : ℕ → List ℕ → Type 0
x among l = 1 ≤ occ x l
