-- How evenly fingerprints come up: over all lower halves of a hash, whatever its upper half is, which names the home bucket.
-- Assumes nothing.
use Rattle.std.specs.Prelude.{◌≡◌, ℕ, ◌+◌, ◌-◌, ◌*◌, ◌/◌, ◌%◌, ◌^◌, ◌<◌, ◌≤◌, cond, nat_le}
use Rattle.lemmas.specs.Sums.{times_below}
use Rattle.index.specs.Hash.{fingerprint_of}
use Rattle.index.specs.declared.Settings.{Settings}

-- of the 2 to the 32 hashes with this upper half, how many have the fingerprint p
unfoldable pub often : Settings → ℕ → ℕ → ℕ
often s upper p = times_below (2 ^ 32) (λ lower. fingerprint_of s (upper * 2 ^ 32 + lower)) p

pub record Even : Type 0 where
  -- the hashes are shared out in full rounds, and what is left goes to the lowest fingerprints, one each
  pub share : (s : Settings) (upper p : ℕ) → 0 < p → p < 2 ^ s.width
      → often s upper p ≡ 2 ^ 32 / (2 ^ s.width - 1) + cond (nat_le p (2 ^ 32 % (2 ^ s.width - 1))) 1 0
  -- so any two fingerprints of the width come up equally often but for one
  pub even : (s : Settings) (upper p q : ℕ) → 0 < p → p < 2 ^ s.width → 0 < q → q < 2 ^ s.width → often s upper p ≤ often s upper q + 1
