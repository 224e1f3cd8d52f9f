-- Tags as they are typed: text, or bytes in hexadecimal digits after 0x.
-- Assumes nothing.
use Rattle.std.specs.Prelude.{Bool, true, false, cond, ◌&&◌, ◌≡◌, List, [], ◌∷◌, ◌++◌, ℕ, ◌≤◌, ◌+◌, ◌*◌, length, take, drop, Result, Ok, Err}
use Rattle.std.proofs.Math.Option.{Option, none, some}
use Rattle.digits.specs.Digits.{hex_value, hex_digit, hex_mark}
use Rattle.refusals.specs.Checks.{first_met}
use Rattle.refusals.specs.Outcomes.{Answer, refused, given, unless, done, Outcome, keeping}
use Rattle.index.specs.Hash.{tag_checks}
use Rattle.refusals.specs.Refusals.{number_told}
use Rattle.typed_tags.specs.declared.TagError.{TagError}

-- two digits to a byte
abbrev pub also : Bool → ℕ → Option (List ℕ) → Option (List ℕ)
also true b (some l) = some (b ∷ l)
also true b none = none
also false b o = none

unfoldable pub hex_bytes : List ℕ → Option (List ℕ)
hex_bytes [] = some []
hex_bytes (a ∷ []) = none
hex_bytes (a ∷ b ∷ l) = also (hex_digit a && hex_digit b) (16 * hex_value a + hex_value b) (hex_bytes l)

-- after 0x the digits, else the text itself
unfoldable pub tag_bytes : List ℕ → Option (List ℕ)
tag_bytes l = cond (hex_mark l) (hex_bytes (drop 2 l)) (some l)

-- what the call says: the tag's length, or none for digits that are not hexadecimal
abbrev pub tag_is : Result ℕ TagError → Answer (Option ℕ)
tag_is (Ok n) = given (some n)
tag_is (Err TagError.NotHex) = given none
tag_is (Err (TagError.Refused r)) = refused (number_told r)

-- a tag that passes the check of tags goes to the start of the bytes that are lent
abbrev pub tag_out : Option (List ℕ) → List ℕ → Outcome (Option ℕ) (List ℕ)
tag_out none out = keeping out (given (done none out))
tag_out (some tag) out = keeping out (unless (first_met (tag_checks tag)) (given (done (some (length tag)) (tag ++ drop (length tag) out))))

-- ── for those who take the tag from the bytes ──
abbrev pub tag_length : Result ℕ TagError → ℕ
tag_length (Ok n) = n
tag_length (Err e) = 0

-- so many bytes are there
pub record Starts (n : ℕ) (l : List ℕ) : Type 0 where
  pub within : n ≤ length l
  pub taken : n ≡ length (take n l)
