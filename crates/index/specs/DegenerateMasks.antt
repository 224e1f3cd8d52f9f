-- Masks that split no offset: which settings they make, and that these place every entry as the plain rule does.
-- Assumes nothing.
use Rattle.std.specs.Prelude.{◌≡◌, ℕ, ◌-◌, ◌≤◌, true, false, ◌⊎◌, ◌↔◌, List}
use Rattle.std.proofs.Math.Option.{none, some}
use Rattle.lemmas.specs.Members.{firsts}
use Rattle.refusals.specs.Checks.{Numbered}
use Rattle.index.specs.Settings.{degenerate, former_checks, former_refusal, settings_refusal, unmasked}
use Rattle.index.specs.Hash.{fingerprint, home}
use Rattle.index.specs.Candidates.{candidates, candidate_set}
use Rattle.index.specs.Laws.{Laws}
use Rattle.index.specs.declared.Settings.{Settings}

-- two settings that place every entry alike: the same entry for each tag, and the same candidates in the same order but for repeats
pub record SamePlaces (s t : Settings) : Type 0 where
  pub buckets : s.buckets ≡ t.buckets
  pub print : (tag : List ℕ) → fingerprint s tag ≡ fingerprint t tag
  pub home : (tag : List ℕ) → home s tag ≡ home t tag
  pub once : (p b : ℕ) → firsts (candidates s p b) ≡ firsts (candidates t p b)
  pub set : (p b : ℕ) → candidate_set s p b ≡ candidate_set t p b

pub record DegenerateLaws (s : Settings) : Type 0 where
  -- a mask is degenerate exactly if it is 0 or M - 1 under the masked rule
  pub means : former_refusal s ≡ none → (degenerate s ≡ true) ↔ ((s.rule ≡ 2) × ((s.mask ≡ 0) ⊎ (s.mask ≡ s.buckets - 1)))
  -- settings pass exactly if they passed before and the mask is not degenerate; one that is gets 4
  pub passes : (settings_refusal s ≡ none) ↔ ((former_refusal s ≡ none) × (degenerate s ≡ false))
  pub four : former_refusal s ≡ none → degenerate s ≡ true → settings_refusal s ≡ some 4
  -- with one or two buckets the masked rule has no other mask
  pub small : former_refusal s ≡ none → s.rule ≡ 2 → s.buckets ≤ 2 → settings_refusal s ≡ some 4
  -- whoever was refused before is refused with the same number
  pub before : (n : ℕ) → former_refusal s ≡ some n → settings_refusal s ≡ some n
  pub numbered : Numbered (former_checks s)
  -- the laws hold of all settings that passed before
  pub laws : former_refusal s ≡ none → Laws s
  -- the plain rule takes what a degenerate mask leaves, and places it alike
  pub plain : former_refusal s ≡ none → degenerate s ≡ true → settings_refusal (unmasked s) ≡ none
  pub places : former_refusal s ≡ none → degenerate s ≡ true → SamePlaces s (unmasked s)
