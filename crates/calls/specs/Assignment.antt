-- When entries can be assigned to buckets (document 01: laid out).
-- Assumes nothing.
use Rattle.std.specs.Prelude.{List, [], ◌∷◌, ℕ, ◌≤◌}
use Rattle.lemmas.specs.Count.{occ, ◌among◌}
use Rattle.index.specs.Candidates.{Class}

-- a bucket for each entry: one of its candidates
abbrev pub Fits : List Class → List ℕ → Type 0
Fits [] [] = Unit {0}
Fits [] (b ∷ bs) = ⊥
Fits (k ∷ ks) [] = ⊥
Fits (k ∷ ks) (b ∷ bs) = (b among k.set) × Fits ks bs

-- each entry can be given one of its candidates, no bucket given to more than four
abbrev pub Assignable : List Class → Type 0
Assignable ks = (bs : List ℕ) × Fits ks bs × ((x : ℕ) → occ x bs ≤ 4)
