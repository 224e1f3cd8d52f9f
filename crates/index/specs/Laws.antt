-- The laws of the index layer: of the candidates, for settings that pass their checks, and of the layer's own checks and answers, for
-- all settings. The proofs of the layers above use these records and open none of the layer's definitions. `proofs/Laws.antt` and
-- `proofs/Checks.antt` prove them.
--
-- A fingerprint is any number here: a table that is handed in may hold any 16-bit value.
-- Assumes nothing.
use Rattle.std.specs.Prelude.{◌≡◌, ℕ, ◌^◌, ◌<◌, ◌≤◌, ◌≢◌, ◌⊎◌, ◌↔◌, List, ◌∷◌, ◌++◌, length}
use Rattle.std.proofs.Math.Option.{none, some}
use Rattle.lemmas.specs.Count.{◌among◌}
use Rattle.lemmas.specs.Members.{Ascending}
use Rattle.refusals.specs.Checks.{first_met, Numbered}
use Rattle.refusals.specs.Outcomes.{refused, given}
use Rattle.index.specs.Settings.{settings_checks, settings_refusal}
use Rattle.index.specs.Hash.{fingerprint, home, tag_checks}
use Rattle.index.specs.Candidates.{others, candidates, candidate_set, class_at, class_of, bucket_checks}
use Rattle.index.specs.Answers.{entry_of, candidates_answer}
use Rattle.index.specs.declared.Settings.{Settings}

pub record Laws (s : Settings) : Type 0 where
  -- a rule that there is; a mask under the masked rule alone, and below M
  pub rule_high : s.rule ≤ 2
  pub no_mask : s.rule ≢ 2 → s.mask ≡ 0
  pub mask_below : s.mask < s.buckets
  -- there is a bucket, and there are at most 65,536; a fingerprint has 4 to 16 bits
  pub some_bucket : 0 < s.buckets
  pub few_buckets : s.buckets ≤ 65536
  pub width_low : 4 ≤ s.width
  pub width_high : s.width ≤ 16
  -- the bucket itself comes first
  pub first : (p b : ℕ) → candidates s p b ≡ b ∷ others s p b
  -- two candidates or four, the same number for every entry
  pub count : (p b : ℕ) → (length (candidates s p b) ≡ 2) ⊎ (length (candidates s p b) ≡ 4)
  pub same_count : (p b q a : ℕ) → length (candidates s p b) ≡ length (candidates s q a)
  -- every candidate is below M where the bucket is
  pub below : (p b x : ℕ) → b < s.buckets → x among candidates s p b → x < s.buckets
  -- each candidate of an entry leads to the same candidates
  pub same_set : (p b x : ℕ) → b < s.buckets → x among candidates s p b → candidate_set s p x ≡ candidate_set s p b
  -- the candidate set has the candidates, each once, ascending
  pub members : (p b x : ℕ) → b < s.buckets → (x among candidate_set s p b) ↔ (x among candidates s p b)
  pub ascends : (p b : ℕ) → Ascending (candidate_set s p b)
  -- a tag's fingerprint fills a cell and fits its width; its home bucket is in the table
  pub print_filled : (tag : List ℕ) → fingerprint s tag ≢ 0
  pub print_fits : (tag : List ℕ) → fingerprint s tag < 2 ^ s.width
  pub home_below : (tag : List ℕ) → home s tag < s.buckets
  -- a class is a fingerprint with its candidate set, and a tag's class is that of its fingerprint in its home bucket
  pub class_print : (p b : ℕ) → (class_at s p b).print ≡ p
  pub class_set : (p b : ℕ) → (class_at s p b).set ≡ candidate_set s p b
  pub class_tag : (tag : List ℕ) → class_of s tag ≡ class_at s (fingerprint s tag) (home s tag)

-- the checks and answers, whatever the settings
pub record CheckLaws (s : Settings) : Type 0 where
  -- no check of the settings has the number 0
  pub numbered : Numbered (settings_checks s)
  -- a tag of 1 to 64 bytes passes, any other gives 7
  pub tag_passes : (tag : List ℕ) → 0 < length tag → length tag ≤ 64 → first_met (tag_checks tag) ≡ none
  pub tag_refused : (tag : List ℕ) → (length tag ≡ 0) ⊎ (64 < length tag) → first_met (tag_checks tag) ≡ some 7
  -- a bucket below M passes, any other gives 8
  pub bucket_passes : (b : ℕ) → b < s.buckets → first_met (bucket_checks s b) ≡ none
  pub bucket_refused : (b : ℕ) → s.buckets ≤ b → first_met (bucket_checks s b) ≡ some 8
  -- a tag's entry is refused by the checks of settings and tag, and is else its fingerprint in its home bucket
  pub entry_refused : (tag : List ℕ) (n : ℕ) → entry_of s tag ≡ refused n → first_met (settings_checks s ++ tag_checks tag) ≡ some n
  pub entry_given : (tag : List ℕ) (p b : ℕ) → entry_of s tag ≡ given (record { print = p; home = b })
      → (first_met (settings_checks s ++ tag_checks tag) ≡ none) × (p ≡ fingerprint s tag) × (b ≡ home s tag)
  -- the candidates of a bucket that there is are given
  pub candidates_given : (p b : ℕ) → settings_refusal s ≡ none → b < s.buckets → candidates_answer s p b ≡ given (candidates s p b)
