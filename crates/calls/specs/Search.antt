-- The breadth-first search for an empty cell, and the moves along the relocation path (document 01: the chain).
-- Assumes nothing.
use Rattle.std.specs.Prelude.{Bool, true, false, cond, List, [], ◌∷◌, ◌++◌, map, ℕ, zero, suc, eqb, ltb, length, get_or, set}
use Rattle.std.proofs.Math.Option.{Option, none, some}
use Rattle.index.specs.Candidates.{candidates, others}
use Rattle.index.specs.declared.Settings.{Settings}
use Rattle.calls.specs.Cells.{cell, cells_of, lowest_empty}

-- a queued bucket, with the cells whose entries would move to make room in it: first the cell that it was reached from, and so back
-- to a candidate of the new tag, which has none
pub record Node : Type 0 where
  pub bucket : ℕ
  pub path : List ℕ

abbrev pub node : ℕ → List ℕ → Node
node b p = record { bucket = b; path = p }

-- a bucket is marked if it stands in the queue, which keeps those that were taken
abbrev pub marked : ℕ → List Node → Bool
marked x [] = false
marked x (n ∷ q) = let rest = marked x q in cond (eqb n.bucket x) true rest

-- how the search ends: at an empty cell of a bucket that has just been marked, or with the queue exhausted (document 01: the queue ran
-- out). Both have the queue of all that was marked before.
pub data Ending : Type 0 where
  found : ℕ → Node → List Node → Ending
  exhausted : List Node → Ending

-- one bucket is looked at: marked already, or marked now and the end if it has an empty cell
abbrev pub arrive : Bool → Option ℕ → Node → List Node → Ending → Ending → Ending
arrive true e n q skip queue = skip
arrive false (some i) n q skip queue = found i n q
arrive false none n q skip queue = queue

-- the buckets are looked at one after the other, and then comes what is next
abbrev pub walk : List ℕ → List Node → List Node → (List Node → Ending) → Ending
walk c [] q next = next q
walk c (n ∷ ns) q next =
    let skip = walk c ns q next in
    let queue = walk c ns (q ++ (n ∷ [])) next in
    arrive (marked n.bucket q) (lowest_empty c n.bucket) n q skip queue

-- the buckets that a bucket leads to: for each of its cells in turn the other candidates of its fingerprint, in order
abbrev pub through : Settings → List ℕ → Node → List ℕ → List Node
through s c n [] = []
through s c n (i ∷ is) = map (λ x. node x (i ∷ n.path)) (others s (cell c i) n.bucket) ++ through s c n is

unfoldable pub leads_to : Settings → List ℕ → Node → List Node
leads_to s c n = through s c n (cells_of n.bucket)

-- the search from place h of the queue on, of at most so many turns
unfoldable pub search_from : Settings → List ℕ → ℕ → ℕ → List Node → Ending
search_from s c zero h q = exhausted q
search_from s c (suc turns) h q =
    let turn = walk c (leads_to s c (get_or q h (node 0 []))) q (search_from s c turns (suc h)) in
    cond (ltb h (length q)) turn (exhausted q)

-- the queue at the start: the candidates in order, each once
abbrev pub roots_from : List ℕ → List Node → List Node
roots_from [] q = q
roots_from (x ∷ xs) q =
    let skip = roots_from xs q in
    let queue = roots_from xs (q ++ (node x [] ∷ [])) in
    cond (marked x q) skip queue

-- no bucket is queued twice, so that M turns are enough
unfoldable pub search_for : Settings → List ℕ → ℕ → ℕ → Ending
search_for s c p b = search_from s c s.buckets 0 (roots_from (candidates s p b) [])

-- the moves, last first: each entry on the path goes into the space ahead of it, and v into the space that is left
abbrev pub relocate : List ℕ → ℕ → List ℕ → ℕ → List ℕ
relocate c i [] v = set c i v
relocate c i (j ∷ path) v = relocate (set c i (cell c j)) j path v
