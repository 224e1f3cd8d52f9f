-- The set of the numbers in a list, in a normal form: lists with the same members give the same one.
-- Assumes nothing.
use Rattle.std.specs.Prelude.{cond, ◌↔◌, List, [], ◌∷◌, ◌++◌, ℕ, zero, suc, ◌<◌, eqb}
use Rattle.lemmas.specs.Count.{occ, ◌among◌}

-- the numbers below n that stand in the list, ascending, each once
unfoldable pub members_below : ℕ → List ℕ → List ℕ
members_below zero l = []
members_below (suc n) l = members_below n l ++ cond (eqb (occ n l) 0) [] (n ∷ [])

-- every number of the list is above x
abbrev pub AllAbove : ℕ → List ℕ → Type 0
AllAbove x [] = Unit {0}
AllAbove x (y ∷ l) = (x < y) × AllAbove x l

-- each number of the list is below all that come after it
abbrev pub Ascending : List ℕ → Type 0
Ascending [] = Unit {0}
Ascending (x ∷ l) = AllAbove x l × Ascending l

-- the two lists have the same members, however often
abbrev pub Alike : List ℕ → List ℕ → Type 0
Alike l m = (x : ℕ) → (x among l) ↔ (x among m)

-- the list without repeats, each number at its first place; of a list behind others, those that have not been seen there
abbrev pub firsts_past : List ℕ → List ℕ → List ℕ
firsts_past seen [] = []
firsts_past seen (x ∷ l) = let rest = firsts_past (x ∷ seen) l in cond (eqb (occ x seen) 0) (x ∷ rest) rest

unfoldable pub firsts : List ℕ → List ℕ
firsts l = firsts_past [] l
