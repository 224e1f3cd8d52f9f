-- What a hold comes to after a search, and how a path is read off scratch.
-- Assumes nothing.
use mathlib.Core.Path.{◌≡◌, refl, sym, ap, subst, ◌∙◌}
use mathlib.Core.Option.{Option, none, some}
use mathlib.Core.List.{List}
use Prim.Native.Nat.{ℕ, ◌<◌}
use native.Mathlib.Omega.{arith}
use lib.ListN.{length}
use Rattle.std.specs.Prelude.{Result, Ok, Err, IsOkAnd}
use Rattle.refusals.specs.Checks.{first_met}
use Rattle.refusals.specs.Outcomes.{Answer, refused, outcome}
use Rattle.refusals.specs.Refusals.{number_told, told}
use Rattle.refusals.specs.declared.Refusal.{Refusal}
use Rattle.refusals.proofs.Cursor.{parts-passed, call-refused, call-goes-on}
use Rattle.index.specs.Hash.{fingerprint, home}
use Rattle.index.specs.declared.Settings.{Settings}
use Rattle.index.proofs.Laws.{laws}
use Rattle.calls.specs.Calls.{Said, Sound, table_checks, hold_checks, hold_in, hold}
use Rattle.calls.proofs.Laws.{table-check-laws}
use Rattle.table.specs.Probes.{Probed, checked}
use Rattle.table.specs.Laws.{comes_from, ProbeLaws, ProbesTell, PathsTold}
use Rattle.table.specs.declared.Placement.{Placement}
use Rattle.table.proofs.Scratch.{path-root, path-later}
use Rattle.table.proofs.Walks.{lower, path-short}
use Rattle.table.proofs.Placing.{ended-within, comes}

-- ── what a hold comes to ──
module _ (s : Settings) (c w w' t : List ℕ) where
  -- no check is met
  module _ (n : first_met (hold_checks s c (length w) t) ≡ none) where
    sound : Sound s c
    unfolding hold_checks
    sound = (table-check-laws s c).sound (parts-passed (table_checks s c) _ n).0

    below : home s t < s.buckets
    below = (laws s sound.settings).home_below t

    hold-comes : (r : Placement) → Probed s c (fingerprint s t) (home s t) w' r → hold s c (length w) t ≡ comes_from s c w' r
    unfolding hold
    hold-comes r f = sym (call-goes-on c (hold_in s c (fingerprint s t) (home s t)) n) ∙ comes s c (fingerprint s t) (home s t) sound below w' r f

    passed-laws : (r : Placement) → Probed s c (fingerprint s t) (home s t) w' r → ProbeLaws (Ok r) s c w w' t
    passed-laws r f = record {
      hold_answers = hold-comes r f;
      keeps = λ k h. absurd (let z : ◌≡◌ {A = ℕ} 0 1 = cc in omega arith);
      path = λ y j m l h.
          let g : r ≡ Placement.Path y j m l = cc in
          let e = ended-within s c (fingerprint s t) (home s t) sound below w' (subst (Probed s c (fingerprint s t) (home s t) w') g f).2 in
          (e.1, e.2);
    }

  refused-laws : (r : Result Placement Refusal) (n : ℕ) → first_met (hold_checks s c (length w) t) ≡ some n → told r ≡ refused n → w' ≡ w → ProbeLaws r s c w w' t
  unfolding hold
  refused-laws (Err e) n h k f = record {
    hold_answers = sym (call-refused c (hold_in s c (fingerprint s t) (home s t)) h) ∙ ap (λ (a : Answer Said). outcome a c) (let z : n ≡ number_told e = cc in ap refused z);
    keeps = λ k h. f;
    path = λ y j m l h. absurd (let z : ◌≡◌ {A = ℕ} 0 1 = cc in omega arith);
  }
  refused-laws (Ok p) n h k f = absurd (let z : ◌≡◌ {A = ℕ} 0 1 = cc in omega arith)

pub probe-laws : ProbesTell
probe-laws r s c w w' t P = go (first_met (hold_checks s c (length w) t)) refl P
  where
    taken : (r : Result Placement Refusal) → first_met (hold_checks s c (length w) t) ≡ none → IsOkAnd r (Probed s c (fingerprint s t) (home s t) w') → ProbeLaws r s c w w' t
    taken (Ok p) e f = passed-laws s c w w' t e p f
    taken (Err x) e f = absurd f

    go : (o : Option ℕ) → first_met (hold_checks s c (length w) t) ≡ o → checked o w w' r (IsOkAnd r (Probed s c (fingerprint s t) (home s t) w')) → ProbeLaws r s c w w' t
    go none e f = taken r e f
    go (some n) e f = refused-laws s c w w' t r n e f.0 f.1

-- ── paths ──
pub path-laws : PathsTold
path-laws m w t roots sp o = record {
  root = path-root m w roots;
  later = λ i h l. path-later m w roots i h (lower sp roots o i h l);
  lower = lower sp roots o;
  short = path-short sp roots o;
}
