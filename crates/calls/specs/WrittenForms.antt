-- What the two written forms of a table share, the hold file and the packed form: their writers' checks, 17 before 16, and what a writer
-- leaves.
-- Assumes nothing.
use Rattle.std.specs.Prelude.{Bool, false, ◌||◌, List, [], ◌∷◌, ◌++◌, ℕ, ◌^◌, leb, ltb, length, drop}
use Rattle.refusals.specs.Checks.{Check, check, first_met}
use Rattle.refusals.specs.Outcomes.{Answer, given, unless, done, Outcome, keeping}
use Rattle.index.specs.declared.Settings.{Settings}
use Rattle.calls.specs.Calls.{table_checks}

-- some cell is n or more
abbrev pub any_from : ℕ → List ℕ → Bool
any_from n [] = false
any_from n (v ∷ l) = leb n v || any_from n l

-- the rows of the place "writing": a cell too large for the width, and an output too short for the bytes
unfoldable pub write_checks : Settings → List ℕ → ℕ → ℕ → List Check
write_checks s c room needed = table_checks s c ++ (check 17 (any_from (2 ^ s.width) c) ∷ check 16 (ltb room needed) ∷ [])

-- those of a call that only tells how many bytes it will be: there is no output
unfoldable pub count_checks : Settings → List ℕ → List Check
count_checks s c = table_checks s c ++ (check 17 (any_from (2 ^ s.width) c) ∷ [])

-- what a writer answers, the byte count or a number, and the output that it leaves: bytes past the count as they were
abbrev pub Written : Type 0
Written = Outcome ℕ (List ℕ)

unfoldable pub written : Settings → List ℕ → List ℕ → List ℕ → Written
written s c bytes out =
    keeping out (unless (first_met (write_checks s c (length out) (length bytes))) (given (done (length bytes) (bytes ++ drop (length bytes) out))))

-- the length of these bytes, foretold
unfoldable pub length_of : Settings → List ℕ → List ℕ → Answer ℕ
length_of s c bytes = unless (first_met (count_checks s c)) (given (length bytes))
