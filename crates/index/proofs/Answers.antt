-- Each call's answer, from what the code knows where it gives it.
-- Assumes nothing.
use Rattle.std.proofs.Common.{◌≡◌, ℕ, ◌<◌, ◌≤◌, leb, ◌⊎◌, List, [], ◌++◌, length, sym, ap, ◌∙◌, ap₂, leb-false}
use mathlib.Core.Option.{none, some}
use Rattle.refusals.specs.Checks.{Check, check, first_met}
use Rattle.refusals.specs.Outcomes.{Answer, refused, given}
use Rattle.refusals.proofs.Cursor.{start, all-met, all-passed, parts-passed, not-met, is-refused, goes_on}
use Rattle.index.specs.Settings.{settings_checks, settings_refusal}
use Rattle.index.specs.Hash.{fingerprint, home, tag_checks}
use Rattle.index.specs.Candidates.{offset, candidates, bucket_checks}
use Rattle.index.specs.Answers.{checked_settings, entry_of, offset_answer, candidates_answer}
use Rattle.index.specs.declared.Entry.{Entry}
use Rattle.index.specs.declared.passed.Passed.{Passed}
use Rattle.index.specs.declared.Settings.{Settings}
use Rattle.index.proofs.Checks.{tag_passes, tag_refused, bucket_passes, bucket_refused}

-- what the type of settings that passed tells
pub as_passed : (p : Passed) {s : Settings} → p.settings ≡ s → none ≡ settings_refusal s
as_passed p e = sym p.passes ∙ ap settings_refusal e

-- the settings refuse with a number
module _ (s : Settings) {n : ℕ} (e : some n ≡ settings_refusal s) where
  -- whatever has more checks
  stopped : (more : List Check) → first_met (settings_checks s ++ more) ≡ some n
  stopped more = all-met (settings_checks s) more (start _) (sym e)

  pub checked_refused : refused n ≡ checked_settings s
  unfolding checked_settings
  checked_refused = is-refused (given s) (sym e)

  pub offset-refused : (p : ℕ) → refused n ≡ offset_answer s p
  unfolding offset_answer
  offset-refused p = is-refused (given (offset s p)) (sym e)

  pub entry_refused : (t : List ℕ) → refused n ≡ entry_of s t
  unfolding entry_of
  entry_refused t = is-refused (given (record { print = fingerprint s t; home = home s t })) (stopped (tag_checks t))

  pub bucket-stopped : (b : ℕ) → some n ≡ first_met (settings_checks s ++ bucket_checks s b)
  bucket-stopped b = sym (stopped (bucket_checks s b))

-- the settings pass
module _ (s : Settings) (e : none ≡ settings_refusal s) where
  -- what is left of the checks decides
  left : (more : List Check) → first_met (settings_checks s ++ more) ≡ first_met more
  left more = (all-passed (settings_checks s) more (start _) (sym e)).decides

  pub checked-passed : given s ≡ checked_settings s
  unfolding checked_settings
  checked-passed = goes_on (given s) (sym e)

  pub offset-given : (p : ℕ) {d : ℕ} → d ≡ offset s p → given d ≡ offset_answer s p
  unfolding offset_answer
  offset-given p q = ap given q ∙ goes_on (given (offset s p)) (sym e)

  pub bucket-out : (b : ℕ) → s.buckets ≤ b → some 8 ≡ first_met (settings_checks s ++ bucket_checks s b)
  bucket-out b k = sym (left (bucket_checks s b) ∙ bucket_refused s b k)

  pub bucket-in : (b : ℕ) → b < s.buckets → none ≡ first_met (settings_checks s ++ bucket_checks s b)
  bucket-in b k = sym (left (bucket_checks s b) ∙ bucket_passes s b k)

  module _ (t : List ℕ) where
    abbrev entry : Answer Entry
    entry = given (record { print = fingerprint s t; home = home s t })

    pub entry-bad : (length t ≡ 0) ⊎ (64 < length t) → refused 7 ≡ entry_of s t
    unfolding entry_of
    entry-bad k = is-refused entry (left (tag_checks t) ∙ tag_refused t k)

    pub entry_given : 0 < length t → length t ≤ 64 → {p b : ℕ} → p ≡ fingerprint s t → b ≡ home s t → given (record { print = p; home = b }) ≡ entry_of s t
    unfolding entry_of
    entry_given k l ep eb = ap₂ (λ (x y : ℕ). given (record { print = x; home = y })) ep eb ∙ goes_on entry (left (tag_checks t) ∙ tag_passes t k l)

-- ── the candidates ──
module _ (s : Settings) (b : ℕ) (p : ℕ) where
  pub list-refused : {n : ℕ} → some n ≡ first_met (settings_checks s ++ bucket_checks s b) → refused n ≡ candidates_answer s p b
  unfolding candidates_answer
  list-refused e = is-refused (given (candidates s p b)) (sym e)

  module _ (e : none ≡ first_met (settings_checks s ++ bucket_checks s b)) where
    pub list-passed : settings_refusal s ≡ none
    list-passed = (parts-passed (settings_checks s) (bucket_checks s b) (sym e)).0

    pub list_inside : b < s.buckets
    unfolding bucket_checks
    list_inside = leb-false s.buckets b (not-met (check 8 (leb s.buckets b)) [] (parts-passed (settings_checks s) (bucket_checks s b) (sym e)).1).0

    pub list-given : {l : List ℕ} → candidates s p b ≡ l → given l ≡ candidates_answer s p b
    unfolding candidates_answer
    list-given q = ap given (sym q) ∙ goes_on (given (candidates s p b)) (sym e)
