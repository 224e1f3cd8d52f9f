-- The laws for whoever calls the search: what a hold then comes to, and how a relocation path is read off scratch. `proofs/Laws.antt`
-- proves them.
-- Assumes nothing.
use Rattle.std.specs.Prelude.{◌≡◌, List, [], ◌∷◌, ℕ, ◌+◌, ◌≤◌, ◌<◌, length, set, Result, Ok, Err}
use Rattle.std.proofs.Math.Option.{some}
use Rattle.refusals.specs.Checks.{first_met}
use Rattle.refusals.specs.Outcomes.{Outcome, refused, given, outcome}
use Rattle.refusals.specs.Refusals.{number_told}
use Rattle.refusals.specs.declared.Refusal.{Refusal}
use Rattle.index.specs.declared.Settings.{Settings}
use Rattle.calls.specs.Search.{relocate}
use Rattle.calls.specs.Calls.{Said, accepted, hold, hold_checks}
use Rattle.table.specs.Scratch.{parent_in, origin_in, path_in, Sparse}
use Rattle.table.specs.Probes.{Probes}
use Rattle.table.specs.declared.Placement.{Placement}

-- what a hold comes to after a search, with scratch as the search left it
abbrev pub comes_from : Settings → List ℕ → List ℕ → Placement → Outcome Said (List ℕ)
comes_from s c w (Placement.Free x i) = outcome (given (accepted 0)) (set c i x)
comes_from s c w (Placement.Path x i roots last) =
    let path = path_in s.buckets w roots last in
    outcome (given (accepted (length path))) (relocate c i path x)
comes_from s c w (Placement.Exhausted n) = outcome (refused 9) c

-- the same where a check may have refused it
abbrev pub comes_to : Settings → List ℕ → List ℕ → Result Placement Refusal → Outcome Said (List ℕ)
comes_to s c w (Ok p) = comes_from s c w p
comes_to s c w (Err e) = outcome (refused (number_told e)) c

pub record ProbeLaws (r : Result Placement Refusal) (s : Settings) (c w w' tag : List ℕ) : Type 0 where
  pub hold_answers : hold s c (length w) tag ≡ comes_to s c w' r
  -- a check that is met leaves scratch as it was
  pub keeps : (n : ℕ) → first_met (hold_checks s c (length w) tag) ≡ some n → w' ≡ w
  -- a path's end is in scratch
  pub path : (x i roots last : ℕ) → r ≡ Ok (Placement.Path x i roots last) → Sparse s.buckets w' (last + 1) × (1 ≤ roots)

abbrev pub ProbesTell : Type 0
ProbesTell = (r : Result Placement Refusal) (s : Settings) (c w w' tag : List ℕ) → Probes r s c w w' tag → ProbeLaws r s c w w' tag

-- the paths of the first t entries, of which one at least is a root
pub record PathLaws (m : ℕ) (w : List ℕ) (t roots : ℕ) : Type 0 where
  -- a root has no path, and another entry that of the entry which it was reached from and one cell more
  pub root : (i : ℕ) → i < roots → path_in m w roots i ≡ []
  pub later : (i : ℕ) → roots ≤ i → i < t → path_in m w roots i ≡ origin_in m w i ∷ path_in m w roots (parent_in w i)
  pub lower : (i : ℕ) → roots ≤ i → i < t → parent_in w i < i
  pub short : (i : ℕ) → i < t → length (path_in m w roots i) ≤ i

abbrev pub PathsTold : Type 0
PathsTold = (m : ℕ) (w : List ℕ) (t roots : ℕ) → Sparse m w t → 1 ≤ roots → PathLaws m w t roots
