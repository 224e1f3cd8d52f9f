-- How few moves a hold makes: whichever entries are moved, and however, no fewer make room for the new one (document 02: no shorter
-- shuffle).
-- Assumes nothing.
use Rattle.std.specs.Prelude.{◌≡◌, ◌≢◌, List, [], ◌∷◌, ℕ, ◌*◌, ◌/◌, ◌≤◌, ◌<◌, length, set}
use Rattle.std.proofs.Math.Option.{none}
use Rattle.lemmas.specs.Count.{◌among◌}
use Rattle.refusals.specs.Outcomes.{given, done, outcome}
use Rattle.index.specs.Settings.{settings_refusal}
use Rattle.index.specs.Hash.{fingerprint, home}
use Rattle.index.specs.Candidates.{candidates}
use Rattle.index.specs.declared.Settings.{Settings}
use Rattle.calls.specs.Cells.{cell}
use Rattle.calls.specs.Calls.{accepted, hold_in, hold}

-- ── any move of any entry ──
-- what stands in one cell goes to another
pub record Move : Type 0 where
  pub source : ℕ
  pub target : ℕ

-- the target has it then, and the source is empty
abbrev pub moved : List ℕ → Move → List ℕ
moved c m = set (set c m.target (cell c m.source)) m.source 0

-- an entry, whichever, goes to an empty cell, whichever, of another of its candidate buckets. A cell outside the table counts as empty and
-- no candidate is outside, so that both cells are in the table.
pub record Allowed (s : Settings) (c : List ℕ) (m : Move) : Type 0 where
  pub filled : cell c m.source ≢ 0
  pub empty : cell c m.target ≡ 0
  pub candidate : (m.target / 4) among candidates s (cell c m.source) (m.source / 4)
  pub another : m.target / 4 ≢ m.source / 4

-- ── a list of moves ──
-- the cells after all of them
abbrev pub after_moves : List ℕ → List Move → List ℕ
after_moves c [] = c
after_moves c (m ∷ ms) = after_moves (moved c m) ms

-- each is allowed in the table that those before it left
abbrev pub AllAllowed : Settings → List ℕ → List Move → Type 0
AllAllowed s c [] = Unit {0}
AllAllowed s c (m ∷ ms) = Allowed s c m × AllAllowed s (moved c m) ms

-- after them a candidate bucket of fingerprint p from bucket b has an empty cell
pub record MakesRoom (s : Settings) (c : List ℕ) (p b : ℕ) (ms : List Move) : Type 0 where
  pub allowed : AllAllowed s c ms
  pub room : ℕ
  pub candidate : (room / 4) among candidates s p b
  pub empty : cell (after_moves c ms) room ≡ 0

-- ── the fewest: p was placed from b with d moves, and c' was left ──
pub record FewestMoves (s : Settings) (c : List ℕ) (p b d : ℕ) (c' : List ℕ) : Type 0 where
  -- no list of moves that makes room is shorter
  pub least : (ms : List Move) → MakesRoom s c p b ms → d ≤ length ms
  -- and one has this length: with p in the room that it makes it is what the hold did
  pub attained : (ms : List Move) × (r : MakesRoom s c p b ms) × (length ms ≡ d) × (set (after_moves c ms) r.room p ≡ c')

-- the theorem, for the three rules together
pub record HoldsMoveFewest : Type 0 where
  -- every fingerprint that is placed from any bucket, in any table of the right length
  pub places : (s : Settings) → settings_refusal s ≡ none → (c : List ℕ) → length c ≡ 4 * s.buckets → (p b : ℕ) → b < s.buckets
      → (d : ℕ) (c' : List ℕ) → hold_in s c p b ≡ given (done (accepted d) c') → FewestMoves s c p b d c'
  -- every hold that is accepted, whatever it was lent
  pub holds : (s : Settings) (c : List ℕ) (n : ℕ) (tag : List ℕ) (d : ℕ) (c' : List ℕ)
      → hold s c n tag ≡ outcome (given (accepted d)) c' → FewestMoves s c (fingerprint s tag) (home s tag) d c'
