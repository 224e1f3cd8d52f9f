-- What the public calls answer: for each call the answer that it has to give, with the number or the values of document 01. The case of
-- a `Result` is told by `told` of `refusals`.
-- Assumes nothing.
use Rattle.std.specs.Prelude.{◌≡◌, ℕ, List, ◌++◌, take, replicate, Result, Ok, Err}
use Rattle.refusals.specs.Checks.{first_met}
use Rattle.refusals.specs.Outcomes.{Answer, refused, given, unless}
use Rattle.refusals.specs.Refusals.{number_told}
use Rattle.refusals.specs.declared.Refusal.{Refusal}
use Rattle.index.specs.Settings.{settings_checks, settings_refusal}
use Rattle.index.specs.Hash.{fingerprint, home, tag_checks}
use Rattle.index.specs.Candidates.{offset, candidates, bucket_checks}
use Rattle.index.specs.declared.Settings.{Settings}
use Rattle.index.specs.declared.Entry.{Entry}
use Rattle.index.specs.declared.candidate_list.Candidates.{Candidates}

-- the checking constructor: the settings, or 1 to 4
unfoldable pub checked_settings : Settings → Answer Settings
checked_settings s = unless (settings_refusal s) (given s)

-- fingerprint and home bucket of a tag, or 1 to 4, or 7
unfoldable pub entry_of : Settings → List ℕ → Answer Entry
entry_of s tag = unless (first_met (settings_checks s ++ tag_checks tag)) (given (record { print = fingerprint s tag; home = home s tag }))

-- the offset of a 16-bit value, or 1 to 4
unfoldable pub offset_answer : Settings → ℕ → Answer ℕ
offset_answer s p = unless (settings_refusal s) (given (offset s p))

-- the candidates in order, or 1 to 4, or 8
abbrev pub candidates_are : Result Candidates Refusal → Answer (List ℕ)
candidates_are (Ok l) = given (take l.count l.buckets)
candidates_are (Err e) = refused (number_told e)

-- places past its end are 0
abbrev pub Padded : Result Candidates Refusal → Type 0
Padded (Ok l) = l.buckets ≡ take 4 (take l.count l.buckets ++ replicate 4 0)
Padded (Err e) = Unit {0}

unfoldable pub candidates_answer : Settings → ℕ → ℕ → Answer (List ℕ)
candidates_answer s p b = unless (first_met (settings_checks s ++ bucket_checks s b)) (given (candidates s p b))

pub record Lists (r : Result Candidates Refusal) (a : Answer (List ℕ)) : Type 0 where
  pub says : candidates_are r ≡ a
  pub whole : Padded r
