-- Settings under which candidates repeat each other: every call comes to what it comes to without the repeats. So a list that was kept
-- under a degenerate mask may be kept under the plain rule.
-- Assumes nothing.
use Rattle.std.specs.Prelude.{◌≡◌, List, [], ◌∷◌, ◌++◌, ℕ}
use Rattle.refusals.specs.Checks.{Check, first_met}
use Rattle.refusals.specs.Outcomes.{unless, keeping}
use Rattle.index.specs.Hash.{fingerprint, home, tag_checks}
use Rattle.index.specs.declared.Settings.{Settings}
use Rattle.calls.specs.Calls.{Act, Result, size_checks, scratch_checks, lookup_in, release_in, hold_in}
use Rattle.calls.specs.Model.{Call, hold_of, release_of, lookup_of}
use Rattle.calls.specs.Demand.{table_call, Run, run}

-- ── a call under settings that are not checked: under a degenerate mask it is what the call was while such a mask passed ──
-- the rows behind those of the settings
abbrev pub later_checks : Settings → List ℕ → Call → List Check
later_checks s c (hold_of t n) = size_checks s c ++ (scratch_checks s n ++ tag_checks t)
later_checks s c (release_of t) = size_checks s c ++ tag_checks t
later_checks s c (lookup_of t) = size_checks s c ++ tag_checks t

-- what the call comes to where none of them is met
abbrev pub act_in : Settings → List ℕ → Call → Act
act_in s c (hold_of t n) = hold_in s c (fingerprint s t) (home s t)
act_in s c (release_of t) = release_in s c (fingerprint s t) (home s t)
act_in s c (lookup_of t) = lookup_in s c (fingerprint s t) (home s t)

unfoldable pub unchecked_call : Settings → List ℕ → Call → Result
unchecked_call s c a = keeping c (unless (first_met (later_checks s c a)) (act_in s c a))

-- each call gets the cells that the last one left
abbrev pub unchecked_run : Settings → List ℕ → List Call → Run
unchecked_run s c [] = record { replies = []; cells = c }
unchecked_run s c (a ∷ l) =
    let r = unchecked_call s c a in
    let n = unchecked_run s r.leaves l in
    record { replies = r.answer ∷ n.replies; cells = n.cells }

-- ── the same under two settings ──
pub record SameCalls (s t : Settings) : Type 0 where
  -- whatever the fingerprint, the bucket and the table are: the number of copies, the entry that is taken out, and of a hold the
  -- answer, the moves and all cells
  pub lookups : (c : List ℕ) (p b : ℕ) → lookup_in t c p b ≡ lookup_in s c p b
  pub releases : (c : List ℕ) (p b : ℕ) → release_in t c p b ≡ release_in s c p b
  pub holds : (c : List ℕ) (p b : ℕ) → hold_in t c p b ≡ hold_in s c p b
  -- and so of every call, on every table, with its numbers
  pub calls : (c : List ℕ) (a : Call) → table_call t c a ≡ unchecked_call s c a
  -- and of every list of calls, from any table on
  pub runs : (c : List ℕ) (l : List Call) → run t c l ≡ unchecked_run s c l
