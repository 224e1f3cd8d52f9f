-- Salt 0 changes no hash, and no salt changes what is not made of a tag.
-- Assumes nothing.
use Rattle.std.proofs.Common.{◌≡◌, ℕ, List, refl, ap, ◌∙◌}
use lib.Bits.{xor_zero_r}
use Rattle.index.specs.Settings.{degenerate, form_checks, former_checks, settings_checks, half, modulus}
use Rattle.index.specs.Hash.{fnv_start, fnv_from, fnv1a, tag_hash, fingerprint_of, home_of, fingerprint, home}
use Rattle.index.specs.Candidates.{offset, co_mask, xor_steps, others_by, others, candidates, candidate_set, class_at, bucket_checks}
use Rattle.index.specs.Unsalted.{Unsalted}
use Rattle.index.specs.declared.Settings.{Settings}

plain : (tag : List ℕ) → tag_hash 0 tag ≡ fnv1a tag
unfolding tag_hash fnv1a
plain tag = ap (λ (h : ℕ). fnv_from h tag) (xor_zero_r fnv_start)

module _ (s : Settings) (tag : List ℕ) (e : s.salt ≡ 0) where
  unsalted : tag_hash s.salt tag ≡ fnv1a tag
  unsalted = ap (λ (k : ℕ). tag_hash k tag) e ∙ plain tag

  print-plain : fingerprint s tag ≡ fingerprint_of s (fnv1a tag)
  unfolding fingerprint
  print-plain = ap (fingerprint_of s) unsalted

  home-plain : home s tag ≡ home_of s (fnv1a tag)
  unfolding home
  home-plain = ap (home_of s) unsalted

pub salt-zero : Unsalted
unfolding degenerate form_checks former_checks settings_checks bucket_checks offset modulus half co_mask xor_steps others_by others candidates candidate_set class_at
salt-zero = record {
  hash = plain;
  print = print-plain;
  home = home-plain;
  checks = λ s k. refl;
  bucket = λ s k b. refl;
  offset = λ s k p. refl;
  candidates = λ s k p b. refl;
  class = λ s k p b. refl;
}
