-- Under salt 0 tags are hashed as before settings had a salt, and whatever the salt is, it acts on tags alone.
-- Assumes nothing.
use Rattle.std.specs.Prelude.{◌≡◌, ℕ, List}
use Rattle.index.specs.Settings.{with_salt, settings_checks}
use Rattle.index.specs.Hash.{fnv1a, tag_hash, fingerprint_of, home_of, fingerprint, home}
use Rattle.index.specs.Candidates.{offset, candidates, class_at, bucket_checks}
use Rattle.index.specs.declared.Settings.{Settings}

pub record Unsalted : Type 0 where
  -- under salt 0 a tag's hash is plain FNV-1a, and its fingerprint and home bucket are those of that hash
  pub hash : (tag : List ℕ) → tag_hash 0 tag ≡ fnv1a tag
  pub print : (s : Settings) (tag : List ℕ) → s.salt ≡ 0 → fingerprint s tag ≡ fingerprint_of s (fnv1a tag)
  pub home : (s : Settings) (tag : List ℕ) → s.salt ≡ 0 → home s tag ≡ home_of s (fnv1a tag)
  -- what is not made of a tag is the same under every salt: the checks, the offset, the candidates and the class of an entry
  pub checks : (s : Settings) (k : ℕ) → settings_checks (with_salt k s) ≡ settings_checks s
  pub bucket : (s : Settings) (k b : ℕ) → bucket_checks (with_salt k s) b ≡ bucket_checks s b
  pub offset : (s : Settings) (k p : ℕ) → offset (with_salt k s) p ≡ offset s p
  pub candidates : (s : Settings) (k p b : ℕ) → candidates (with_salt k s) p b ≡ candidates s p b
  pub class : (s : Settings) (k p b : ℕ) → class_at (with_salt k s) p b ≡ class_at s p b
