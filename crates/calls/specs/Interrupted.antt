-- A hold that is interrupted: the single writes of an accepted hold, in their order, and what the table has after any number of them:
-- no entry is ever missing. No contract says that the code makes these writes and no others: that is seen in it, and tested as it is compiled.
-- Assumes nothing.
use Rattle.std.specs.Prelude.{◌≡◌, List, [], ◌∷◌, ℕ, ◌+◌, ◌≤◌, length, set, take}
use Rattle.std.proofs.Math.Option.{Option, none, some}
use Rattle.refusals.specs.Checks.{first_met}
use Rattle.refusals.specs.Outcomes.{given}
use Rattle.index.specs.Candidates.{candidates, Class, class_at, class_of}
use Rattle.index.specs.declared.Settings.{Settings}
use Rattle.calls.specs.Cells.{cell, lowest_empty, in_first}
use Rattle.calls.specs.Search.{Ending, found, exhausted, search_for}
use Rattle.calls.specs.Calls.{copies, tagged_checks, lookup}
use Rattle.calls.specs.Multiset.{count}
use Rattle.calls.specs.Demand.{entries}

-- one cell is written
pub record Write : Type 0 where
  pub at : ℕ
  pub value : ℕ

abbrev pub write : ℕ → ℕ → Write
write i v = record { at = i; value = v }

-- the cells after these writes
abbrev pub after_writes : List ℕ → List Write → List ℕ
after_writes c [] = c
after_writes c (w ∷ ws) = after_writes (set c w.at w.value) ws

-- the writes along a relocation path, last first, and then v into the space that is left
abbrev pub moves : List ℕ → ℕ → List ℕ → ℕ → List Write
moves c i [] v = write i v ∷ []
moves c i (j ∷ path) v = write i (cell c j) ∷ moves (set c i (cell c j)) j path v

-- the writes of a hold: one where a candidate has an empty cell, those of the path that the search found, none where it is refused
abbrev pub writes_by : List ℕ → ℕ → Option ℕ → Ending → List Write
writes_by c p (some i) o = write i p ∷ []
writes_by c p none (found i n q) = moves c i n.path p
writes_by c p none (exhausted q) = []

unfoldable pub hold_writes : Settings → List ℕ → ℕ → ℕ → List Write
hold_writes s c p b = writes_by c p (in_first (lowest_empty c) (candidates s p b)) (search_for s c p b)

-- for settings that pass their checks and a table of their length: fingerprint p is placed from bucket b with d moves, and c' is left
pub record Interrupted (s : Settings) (c : List ℕ) (p b d : ℕ) (c' : List ℕ) : Type 0 where
  -- d moves and the new entry's own write, and together they are the hold
  pub all : length (hold_writes s c p b) ≡ d + 1
  pub whole : after_writes c (hold_writes s c p b) ≡ c'
  -- after any number of them every class has at least as many copies as before
  pub kept : (k : ℕ) (x : Class) → count x (entries s c) ≤ count x (entries s (after_writes c (take k (hold_writes s c p b))))
  -- so that a lookup made in between finds at least as many copies as before
  pub found_still : (k : ℕ) (tag : List ℕ) → first_met (tagged_checks s c tag) ≡ none
      → (n : ℕ) × ((lookup s (after_writes c (take k (hold_writes s c p b))) tag).answer ≡ given (copies n)) × (count (class_of s tag) (entries s c) ≤ n)
  -- and after the last exactly one copy more, of the new class
  pub gained : (x : Class) → count x (entries s c') ≡ count x (class_at s p b ∷ entries s c)
