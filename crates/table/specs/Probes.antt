-- The search for the place of a tag, which changes no cell: what it says, and what scratch then stands for.
-- Assumes nothing.
use Rattle.std.specs.Prelude.{◌≡◌, List, [], ◌∷◌, ◌++◌, ℕ, ◌≤◌, length, Result, IsOkAnd}
use Rattle.std.proofs.Math.Option.{Option, none, some}
use Rattle.refusals.specs.Checks.{first_met}
use Rattle.refusals.specs.Outcomes.{refused}
use Rattle.refusals.specs.Refusals.{told}
use Rattle.refusals.specs.declared.Refusal.{Refusal}
use Rattle.index.specs.Hash.{fingerprint, home}
use Rattle.index.specs.Candidates.{candidates}
use Rattle.index.specs.declared.Settings.{Settings}
use Rattle.calls.specs.Cells.{lowest_empty, in_first}
use Rattle.calls.specs.Search.{Node, Ending, found, exhausted, search_for}
use Rattle.calls.specs.Calls.{hold_checks}
use Rattle.table.specs.Scratch.{Stands}
use Rattle.table.specs.declared.Placement.{Placement}

-- ── the end of a search, with scratch as it then is ──
-- at empty cell i: its bucket is the last of the queue, which scratch stands for
pub record Ended (o : Ending) (m : ℕ) (w : List ℕ) (i roots last : ℕ) : Type 0 where
  pub end : Node
  pub queue : List Node
  pub is : o ≡ found i end queue
  pub at : last ≡ length queue
  pub rooted : 1 ≤ roots
  pub stands : Stands m w roots (queue ++ (end ∷ []))

-- with the queue exhausted: so many buckets are marked, those of the queue that scratch stands for
pub record RanOut (o : Ending) (m : ℕ) (w : List ℕ) (marked : ℕ) : Type 0 where
  pub queue : List Node
  pub is : o ≡ exhausted queue
  pub count : marked ≡ length queue
  pub roots : ℕ
  pub stands : Stands m w roots queue

-- ── the search for the place of an entry ──
-- the first empty cell in the candidates of fingerprint p from bucket b
abbrev pub free_in : Settings → List ℕ → ℕ → ℕ → Option ℕ
free_in s c p b = in_first (lowest_empty c) (candidates s p b)

-- what is said of fingerprint p from bucket b
abbrev pub Probed : Settings → List ℕ → ℕ → ℕ → List ℕ → Placement → Type 0
Probed s c p b w (Placement.Free x i) = (x ≡ p) × (free_in s c p b ≡ some i)
Probed s c p b w (Placement.Path x i roots last) = (x ≡ p) × (free_in s c p b ≡ none) × Ended (search_for s c p b) s.buckets w i roots last
Probed s c p b w (Placement.Exhausted n) = (free_in s c p b ≡ none) × RanOut (search_for s c p b) s.buckets w n

-- a check that is met refuses, with scratch as it was; else the search is for the tag's fingerprint from its home bucket
abbrev pub checked : Option ℕ → List ℕ → List ℕ → Result Placement Refusal → Type 0 → Type 0
checked none w w' r goes = goes
checked (some n) w w' r goes = (told r ≡ refused n) × (w' ≡ w)

-- the checks are those of a hold
abbrev pub Probes : Result Placement Refusal → Settings → List ℕ → List ℕ → List ℕ → List ℕ → Type 0
Probes r s c w w' tag = checked (first_met (hold_checks s c (length w) tag)) w w' r (IsOkAnd r (Probed s c (fingerprint s tag) (home s tag) w'))
