-- The reader of the packed form.
-- Assumes nothing.
use Rattle.std.specs.Prelude.{Bool, false, not, ◌||◌, List, [], ◌∷◌, ◌++◌, ℕ, zero, suc, ◌+◌, ◌*◌, ◌-◌, ◌/◌, ◌%◌, ◌^◌, eqb, leb, ltb, length}
use Rattle.lemmas.specs.Bytes.{number_from}
use Rattle.refusals.specs.Checks.{Check, check, first_met}
use Rattle.refusals.specs.Outcomes.{Answer, refused, given, unless, Done, done, Outcome, keeping}
use Rattle.index.specs.declared.Settings.{Settings}
use Rattle.calls.specs.Cells.{filled_count}
use Rattle.calls.specs.Calls.{table_checks}
use Rattle.rows.specs.Rows.{nibble0, nibble1, nibble2, nibble3, quadruple_at}
use Rattle.packed_form.specs.Writer.{bucket_bits, length_of_packed}

-- the four fingerprints of a bucket's number: high nibbles by the row, low parts by the bits after it
abbrev pub low_part : ℕ → ℕ → ℕ → ℕ
low_part w code i = code / 4096 / 2 ^ ((w - 4) * i) % 2 ^ (w - 4)

abbrev pub joined : ℕ → ℕ → ℕ → ℕ
joined w nibble part = nibble * 2 ^ (w - 4) + part

unfoldable pub bucket_from : ℕ → ℕ → List ℕ
bucket_from w code =
    joined w (nibble0 (quadruple_at (code % 4096))) (low_part w code 0)
    ∷ joined w (nibble1 (quadruple_at (code % 4096))) (low_part w code 1)
    ∷ joined w (nibble2 (quadruple_at (code % 4096))) (low_part w code 2)
    ∷ joined w (nibble3 (quadruple_at (code % 4096))) (low_part w code 3)
    ∷ []

-- some value of the list is above the next
abbrev pub descends : List ℕ → Bool
descends [] = false
descends (a ∷ []) = false
descends (a ∷ b ∷ l) = ltb b a || descends (b ∷ l)

-- a row that there is none of gives 18, a bucket that is not ascending 19
unfoldable pub code_checks : ℕ → ℕ → List Check
code_checks w code = check 18 (leb 3876 (code % 4096)) ∷ check 19 (descends (bucket_from w code)) ∷ []

-- a bucket's cells ahead of what comes after them
abbrev pub onward : List ℕ → Answer (List ℕ) → Answer (List ℕ)
onward four (refused n) = refused n
onward four (given l) = given (four ++ l)

-- so many buckets from the lowest bits of the stream on; what is left after them is filling, and a bit of it gives 20
unfoldable pub unpack : ℕ → ℕ → ℕ → Answer (List ℕ)
unpack w zero stream = unless (first_met (check 20 (not (eqb stream 0)) ∷ [])) (given [])
unpack w (suc m) stream =
    unless (first_met (code_checks w (stream % 2 ^ bucket_bits w)))
    (onward (bucket_from w (stream % 2 ^ bucket_bits w)) (unpack w m (stream / 2 ^ bucket_bits w)))

-- the length: too few bytes give 11, too many 15
unfoldable pub length_checks : Settings → List ℕ → List Check
length_checks s bytes = check 11 (ltb (length bytes) (length_of_packed s)) ∷ check 15 (ltb (length_of_packed s) (length bytes)) ∷ []

-- what the reader says of cells, the count of those filled, and leaves
abbrev pub with_count : Answer (List ℕ) → Answer (Done ℕ (List ℕ))
with_count (refused n) = refused n
with_count (given l) = given (done (filled_count l) l)

unfoldable pub read_packed : Settings → List ℕ → List ℕ → Outcome ℕ (List ℕ)
read_packed s bytes c = keeping c (unless (first_met (table_checks s c ++ length_checks s bytes)) (with_count (unpack s.width s.buckets (number_from bytes))))
