-- The packed form of a table, and its writer.
-- Assumes nothing.
use Rattle.std.specs.Prelude.{List, [], ◌∷◌, ◌++◌, ℕ, ◌+◌, ◌*◌, ◌-◌, ◌/◌, ◌%◌, ◌^◌, min, max}
use Rattle.lemmas.specs.Bytes.{bytes_of}
use Rattle.index.specs.declared.Settings.{Settings}
use Rattle.calls.specs.WrittenForms.{Written, written}
use Rattle.rows.specs.Rows.{quadruple, row_of}

-- four cells in ascending order, by the least and the greatest of pairs
abbrev pub sort4 : ℕ → ℕ → ℕ → ℕ → List ℕ
sort4 a b c d =
    min (min a b) (min c d)
    ∷ min (max (min a b) (min c d)) (min (max a b) (max c d))
    ∷ max (max (min a b) (min c d)) (min (max a b) (max c d))
    ∷ max (max a b) (max c d)
    ∷ []

-- the table with each bucket's cells sorted, empties as 0
unfoldable pub sort_buckets : List ℕ → List ℕ
sort_buckets [] = []
sort_buckets (a ∷ []) = []
sort_buckets (a ∷ b ∷ []) = []
sort_buckets (a ∷ b ∷ c ∷ []) = []
sort_buckets (a ∷ b ∷ c ∷ d ∷ rest) = sort4 a b c d ++ sort_buckets rest

-- the high nibble of a fingerprint (document 01: its lead), and its low bits (its rest); width 4 has none
abbrev pub high : ℕ → ℕ → ℕ
high w v = v / 2 ^ (w - 4)

abbrev pub low : ℕ → ℕ → ℕ
low w v = v % 2 ^ (w - 4)

-- a sorted bucket as a number: the row in 12 bits, and then the four low parts, each in w − 4 bits, the first lowest
unfoldable pub code_of : ℕ → ℕ → ℕ → ℕ → ℕ → ℕ
code_of w a b c d =
    row_of (quadruple (high w a) (high w b) (high w c) (high w d))
    + 4096 * (low w a + 2 ^ (w - 4) * (low w b + 2 ^ (w - 4) * (low w c + 2 ^ (w - 4) * low w d)))

-- how many bits a bucket takes: 12 + 4 × (w − 4)
unfoldable pub bucket_bits : ℕ → ℕ
bucket_bits w = 4 * (w - 1)

-- the bit stream as one number, the first bucket lowest; of sorted buckets
unfoldable pub stream_of : ℕ → List ℕ → ℕ
stream_of w [] = 0
stream_of w (a ∷ []) = 0
stream_of w (a ∷ b ∷ []) = 0
stream_of w (a ∷ b ∷ c ∷ []) = 0
stream_of w (a ∷ b ∷ c ∷ d ∷ rest) = code_of w a b c d + 2 ^ bucket_bits w * stream_of w rest

-- how many bytes the buckets take: the last is filled with zeros
unfoldable pub length_of_packed : Settings → ℕ
length_of_packed s = (bucket_bits s.width * s.buckets + 7) / 8

unfoldable pub packed_of : Settings → List ℕ → List ℕ
packed_of s c = bytes_of (length_of_packed s) (stream_of s.width (sort_buckets c))

unfoldable pub write_packed : Settings → List ℕ → List ℕ → Written
write_packed s c out = written s c (packed_of s c) out
