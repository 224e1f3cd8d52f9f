-- The table's cells: a list of 4 × M numbers. 0 is an empty cell, any other value a fingerprint.
-- Assumes nothing.
use Rattle.std.specs.Prelude.{cond, List, [], ◌∷◌, ℕ, ◌+◌, ◌*◌, eqb, get_or, take, drop}
use Rattle.std.proofs.Math.Option.{Option, none, some}
use Rattle.lemmas.specs.Count.{hit}
use Rattle.lemmas.specs.Sums.{total}

abbrev pub cell : List ℕ → ℕ → ℕ
cell c i = get_or c i 0

-- the numbers of a bucket's cells, in order: bucket b is cells 4b to 4b + 3
abbrev pub cells_of : ℕ → List ℕ
cells_of b = (4 * b) ∷ (4 * b + 1) ∷ (4 * b + 2) ∷ (4 * b + 3) ∷ []

-- the values of a bucket's cells, in order
unfoldable pub bucket_of : List ℕ → ℕ → List ℕ
bucket_of c b = take 4 (drop (4 * b) c)

-- the first of the given cells that holds v
abbrev pub first_holding : List ℕ → ℕ → List ℕ → Option ℕ
first_holding c v [] = none
first_holding c v (i ∷ is) = let rest = first_holding c v is in cond (eqb (cell c i) v) (some i) rest

-- how many of the given cells hold v
abbrev pub how_many : List ℕ → ℕ → List ℕ → ℕ
how_many c v is = total (λ i. hit (cell c i) v) is

-- what the scan of a bucket reports: how many of its cells hold the fingerprint, and the lowest of them
pub record Scan : Type 0 where
  pub copies : ℕ
  pub lowest : Option ℕ

unfoldable pub scan : List ℕ → ℕ → ℕ → Scan
scan c p b = record { copies = how_many c p (cells_of b); lowest = first_holding c p (cells_of b) }

-- the two apart, of bucket b
abbrev pub copies_at : List ℕ → ℕ → ℕ → ℕ
copies_at c p b = (scan c p b).copies

abbrev pub lowest_at : List ℕ → ℕ → ℕ → Option ℕ
lowest_at c p b = (scan c p b).lowest

-- the lowest empty cell of bucket b
unfoldable pub lowest_empty : List ℕ → ℕ → Option ℕ
lowest_empty c b = first_holding c 0 (cells_of b)

-- what the first of the buckets that has something has
abbrev pub or_else : Option ℕ → Option ℕ → Option ℕ
or_else (some i) o = some i
or_else none o = o

abbrev pub in_first : (ℕ → Option ℕ) → List ℕ → Option ℕ
in_first f [] = none
in_first f (b ∷ bs) = let rest = in_first f bs in or_else (f b) rest

-- how many cells are filled
abbrev pub filled_count : List ℕ → ℕ
filled_count [] = 0
filled_count (v ∷ l) = cond (eqb v 0) 0 1 + filled_count l
