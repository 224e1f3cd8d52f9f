-- The layer's checks and answers keep their laws, whatever the settings.
-- Assumes nothing.
use Rattle.std.proofs.Common.{◌≡◌, ℕ, ◌<◌, ◌≤◌, eqb, ◌⊎◌, List, ◌++◌, length, sym, ap, ◌∙◌, inl, inr, arith, le-ltb, lt-ltb, eq-eqb, ne_eqb, le-leb}
use mathlib.Core.Option.{none, some}
use borrow.Author.Tests.{lt-leb}
use Rattle.lemmas.proofs.Bools.{or-true-left, or_true_right, or-false}
use Rattle.refusals.specs.Checks.{first_met, Numbered}
use Rattle.refusals.specs.Outcomes.{refused, given}
use Rattle.refusals.proofs.Cursor.{start, met, passed, none_left, all-passed, numbered-both, goes_on, by-check, by-none}
use Rattle.index.specs.Settings.{former_checks, settings_checks, settings_refusal}
use Rattle.index.specs.Hash.{fingerprint, home, tag_checks}
use Rattle.index.specs.Candidates.{candidates, bucket_checks}
use Rattle.index.specs.Answers.{entry_of, candidates_answer}
use Rattle.index.specs.Laws.{CheckLaws}
use Rattle.index.specs.declared.Settings.{Settings}
use Rattle.index.specs.declared.Entry.{Entry}
use Rattle.index.proofs.Refusals.{numbered-former}

pub numbered : (s : Settings) → Numbered (settings_checks s)
unfolding settings_checks
numbered s = numbered-both (former_checks s) _ (numbered-former s) (omega arith, tt)

pub tag_passes : (t : List ℕ) → 0 < length t → length t ≤ 64 → first_met (tag_checks t) ≡ none
unfolding tag_checks
tag_passes t n h = none_left (passed (start (tag_checks t)) (or-false _ _ (ne_eqb (length t) 0 (λ e. omega arith)) (le-ltb 64 (length t) h)))

pub tag_refused : (t : List ℕ) → (length t ≡ 0) ⊎ (64 < length t) → first_met (tag_checks t) ≡ some 7
unfolding tag_checks
tag_refused t (inl e) = met (start (tag_checks t)) (or-true-left _ _ (eq-eqb (length t) 0 e))
tag_refused t (inr h) = met (start (tag_checks t)) (or_true_right (eqb (length t) 0) _ (lt-ltb 64 (length t) h))

module _ (s : Settings) where
  pub bucket_passes : (b : ℕ) → b < s.buckets → first_met (bucket_checks s b) ≡ none
  unfolding bucket_checks
  bucket_passes b h = none_left (passed (start (bucket_checks s b)) (lt-leb s.buckets b h))

  pub bucket_refused : (b : ℕ) → s.buckets ≤ b → first_met (bucket_checks s b) ≡ some 8
  unfolding bucket_checks
  bucket_refused b h = met (start (bucket_checks s b)) (le-leb s.buckets b h)

  entry_refused : (t : List ℕ) (n : ℕ) → entry_of s t ≡ refused n → first_met (settings_checks s ++ tag_checks t) ≡ some n
  unfolding entry_of
  entry_refused t n e = by-check (first_met (settings_checks s ++ tag_checks t)) _ (sym e)

  entry_given : (t : List ℕ) (p b : ℕ) → entry_of s t ≡ given (record { print = p; home = b })
      → (first_met (settings_checks s ++ tag_checks t) ≡ none) × (p ≡ fingerprint s t) × (b ≡ home s t)
  unfolding entry_of
  entry_given t p b e =
      let r = by-none (first_met (settings_checks s ++ tag_checks t)) (sym e) in
      (r.0, ap (λ (x : Entry). x.print) r.1, ap (λ (x : Entry). x.home) r.1)

  candidates_given : (p b : ℕ) → settings_refusal s ≡ none → b < s.buckets → candidates_answer s p b ≡ given (candidates s p b)
  unfolding candidates_answer
  candidates_given p b e h = sym (goes_on (given (candidates s p b)) ((all-passed (settings_checks s) (bucket_checks s b) (start _) e).decides ∙ bucket_passes b h))

  pub check-laws : CheckLaws s
  check-laws = record {
    numbered = numbered s;
    tag_passes = tag_passes;
    tag_refused = tag_refused;
    bucket_passes = bucket_passes;
    bucket_refused = bucket_refused;
    entry_refused = entry_refused;
    entry_given = entry_given;
    candidates_given = candidates_given;
  }
