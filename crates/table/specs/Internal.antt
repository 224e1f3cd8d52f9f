-- Contracts of the functions inside: a cell that is looked for, and what the search does to its queue in scratch.
-- Assumes nothing.
use Rattle.std.specs.Prelude.{◌≡◌, cond, List, [], ◌∷◌, ◌++◌, ℕ, ◌+◌, ◌*◌, ◌-◌, ◌≤◌, ◌<◌, get_or, Option, Some, None}
use Rattle.std.proofs.Math.Option as maybe
use Rattle.std.proofs.Math.Option.{none, some}
use Rattle.calls.specs.Cells.{Scan, lowest_empty}
use Rattle.calls.specs.Search.{Node, node, marked, Ending}
use Rattle.table.specs.Scratch.{queue_in}
use Rattle.table.specs.Probes.{Ended, RanOut}
use Rattle.table.specs.declared.Scanned.{Scanned}

-- a cell that was looked for
abbrev pub place_is : Option ℕ → maybe.Option ℕ
place_is (Some i) = some i
place_is None = none

-- what the scan of a bucket reports
abbrev pub scanned_is : Scanned → Scan
scanned_is r = record { copies = r.copies; lowest = place_is r.lowest }

-- the node of bucket b, reached from place k of entry h of the queue
abbrev pub reached : List Node → ℕ → ℕ → ℕ → Node
reached q b h k = node b ((4 * (get_or q h (node 0 [])).bucket + k) ∷ (get_or q h (node 0 [])).path)

-- bucket b is put behind the first t entries: as a root where there are more roots, else as reached from place k of entry h
pub record Queues (m b h k : ℕ) (w : List ℕ) (t : ℕ) (w' : List ℕ) : Type 0 where
  pub root : (roots : ℕ) → t < roots → queue_in m w' roots (t + 1) ≡ queue_in m w roots t ++ (node b [] ∷ [])
  pub later : (roots : ℕ) → 1 ≤ roots → roots ≤ t → queue_in m w' roots (t + 1) ≡ queue_in m w roots t ++ (reached (queue_in m w roots t) b h k ∷ [])

-- bucket b is looked at from place k of entry h: queued unless it was marked, and its lowest empty cell if it was not
pub record Visits (c : List ℕ) (m b h k : ℕ) (w : List ℕ) (t : ℕ) (w' : List ℕ) (t' : ℕ) (r : Option ℕ) : Type 0 where
  pub grows : t ≤ t'
  pub queue : (roots : ℕ) → 1 ≤ roots → roots ≤ t
      → queue_in m w' roots t' ≡ cond (marked b (queue_in m w roots t)) (queue_in m w roots t) (queue_in m w roots t ++ (reached (queue_in m w roots t) b h k ∷ []))
  pub place : (roots : ℕ) → place_is r ≡ cond (marked b (queue_in m w roots t)) none (lowest_empty c b)

-- a search: where it ends, with what scratch stands for then, a queue of t entries
abbrev pub Sought : Ending → ℕ → List ℕ → ℕ → ℕ → Option ℕ → Type 0
Sought o m w roots t (Some i) = Ended o m w i roots (t - 1)
Sought o m w roots t None = RanOut o m w t
