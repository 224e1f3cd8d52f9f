-- From tag to entry: the hash, the fingerprint and the home bucket.
-- Assumes nothing.
use Rattle.std.specs.Prelude.{ℕ, ◌+◌, ◌-◌, ◌*◌, ◌/◌, ◌%◌, ◌^◌, ◌||◌, List, [], ◌∷◌, length, ◌==◌, bit_xor, nat_lt}
use Rattle.refusals.specs.Checks.{Check, check}
use Rattle.index.specs.Settings.{modulus}
use Rattle.index.specs.declared.Settings.{Settings}

abbrev pub fnv_start : ℕ
fnv_start = 14695981039346656037

abbrev pub fnv_prime : ℕ
fnv_prime = 1099511628211

-- one byte: XOR into the low eight bits, then times the prime, modulo 2 to the 64
unfoldable pub fnv_step : ℕ → ℕ → ℕ
fnv_step h b = (h / 256 * 256 + bit_xor (h % 256) b) * fnv_prime % 2 ^ 64

-- the bytes one after the other, from a hash on
unfoldable pub fnv_from : ℕ → List ℕ → ℕ
fnv_from h [] = h
fnv_from h (b ∷ bs) = fnv_from (fnv_step h b) bs

-- the 64-bit FNV-1a hash
unfoldable pub fnv1a : List ℕ → ℕ
fnv1a bytes = fnv_from fnv_start bytes

-- the lower half of a hash
unfoldable pub lower_half : ℕ → ℕ
lower_half h = h % 2 ^ 32

-- the fingerprint (document 01: the print) of a hash: its lower half, spread over 1 to 2 to the w less 1. 0 marks an empty cell
unfoldable pub fingerprint_of : Settings → ℕ → ℕ
fingerprint_of s h = 1 + lower_half h % (2 ^ s.width - 1)

-- the home bucket of a hash, by its upper 32 bits
unfoldable pub home_of : Settings → ℕ → ℕ
home_of s h = h / 2 ^ 32 % modulus s

-- the hash of a tag: the salt changes where it starts, and with it which tags share an entry
unfoldable pub tag_hash : ℕ → List ℕ → ℕ
tag_hash salt tag = fnv_from (bit_xor fnv_start salt) tag

unfoldable pub fingerprint : Settings → List ℕ → ℕ
fingerprint s tag = fingerprint_of s (tag_hash s.salt tag)

unfoldable pub home : Settings → List ℕ → ℕ
home s tag = home_of s (tag_hash s.salt tag)

-- the row of the place "tag": a tag is 1 to 64 bytes
unfoldable pub tag_checks : List ℕ → List Check
tag_checks tag = check 7 (length tag == 0 || nat_lt 64 (length tag)) ∷ []
