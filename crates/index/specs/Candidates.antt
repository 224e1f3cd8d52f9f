-- The offset of a fingerprint, the candidates of a fingerprint in a bucket, and the class of an entry.
-- Assumes nothing.
use Rattle.std.specs.Prelude.{ℕ, ◌+◌, ◌-◌, ◌/◌, ◌%◌, cond, List, [], ◌∷◌, map, bit_and, bit_xor, nat_le, nat_lt}
use Rattle.lemmas.specs.Members.{members_below}
use Rattle.refusals.specs.Checks.{Check, check}
use Rattle.index.specs.Settings.{by_rule, half, modulus}
use Rattle.index.specs.Hash.{fnv1a, fingerprint, home}
use Rattle.index.specs.declared.Settings.{Settings}

-- D, of any 16-bit value: the hash of its two bytes, low byte first
unfoldable pub offset : Settings → ℕ → ℕ
offset s p = fnv1a (p % 256 ∷ p / 256 ∷ []) % modulus s

-- the other end of a pair on the ring: D ahead in the second block for a bucket of the first, and D back in the first block for a
-- bucket of the second. There b is at least l and D less, so that nothing falls below zero.
unfoldable pub across : ℕ → ℕ → ℕ → ℕ
across l d b = cond (nat_lt b l) (l + (b + d) % l) ((b - d) % l)

-- the mask's complement in the bits of a bucket number
unfoldable pub co_mask : Settings → ℕ
co_mask s = s.buckets - 1 - s.mask

-- what the two XOR rules put to a bucket's number to come to its other candidates, in order
unfoldable pub xor_steps : Settings → ℕ → List ℕ
xor_steps s d = by_rule s.rule (d ∷ []) [] (bit_and d s.mask ∷ bit_and d (co_mask s) ∷ d ∷ [])

-- the candidates after the bucket itself, for offset d
unfoldable pub others_by : Settings → ℕ → ℕ → List ℕ
others_by s d b = by_rule s.rule (map (bit_xor b) (xor_steps s d)) (across (half s) d b ∷ []) (map (bit_xor b) (xor_steps s d))

-- for a fingerprint p in bucket b: the other candidates, and all of them, in order; some may coincide
unfoldable pub others : Settings → ℕ → ℕ → List ℕ
others s p b = others_by s (offset s p) b

unfoldable pub candidates : Settings → ℕ → ℕ → List ℕ
candidates s p b = b ∷ others s p b

-- the candidate set: each candidate once, ascending, so that equal sets are equal lists
unfoldable pub candidate_set : Settings → ℕ → ℕ → List ℕ
candidate_set s p b = members_below s.buckets (candidates s p b)

-- an entry's fingerprint with its candidate set
pub record Class : Type 0 where
  pub print : ℕ
  pub set : List ℕ

-- the class of an entry in a bucket, and of a tag
unfoldable pub class_at : Settings → ℕ → ℕ → Class
class_at s p b = record { print = p; set = candidate_set s p b }

unfoldable pub class_of : Settings → List ℕ → Class
class_of s tag = class_at s (fingerprint s tag) (home s tag)

-- the row of the place "view": a bucket number is below M
unfoldable pub bucket_checks : Settings → ℕ → List Check
bucket_checks s b = check 8 (nat_le s.buckets b) ∷ []
