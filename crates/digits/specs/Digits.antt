-- Digits as they are typed, and the mark before hexadecimal ones.
-- Assumes nothing.
use Rattle.std.specs.Prelude.{Bool, false, cond, ◌&&◌, List, [], ◌∷◌, ℕ, ◌-◌, eqb, leb, Option, None, Some}

-- a hexadecimal digit's value, 16 for any other byte
unfoldable pub hex_value : ℕ → ℕ
hex_value b =
    cond (leb 48 b && leb b 57) (b - 48) (
    cond (leb 97 b && leb b 102) (b - 87) (
    cond (leb 65 b && leb b 70) (b - 55) 16))

abbrev pub hex_digit : ℕ → Bool
hex_digit b = leb (hex_value b) 15

-- what the call answers of it
abbrev pub digit_of : ℕ → Option ℕ
digit_of b = cond (hex_digit b) (Some (hex_value b)) None

-- whether text starts with 0x
unfoldable pub hex_mark : List ℕ → Bool
hex_mark [] = false
hex_mark (a ∷ []) = false
hex_mark (a ∷ b ∷ l) = eqb a 48 && eqb b 120
