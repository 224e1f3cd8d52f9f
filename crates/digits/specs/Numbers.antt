-- Numbers as they are typed, of any base and up to any limit.
-- Assumes nothing.
use Rattle.std.specs.Prelude.{cond, ◌&&◌, List, [], ◌∷◌, ℕ, ◌+◌, ◌*◌, leb, ltb, drop, Option, None, Some}
use Rattle.digits.specs.Digits.{hex_value, hex_mark}

-- the number that n and more digits make; none if a byte is no digit of the base or the number is above the limit
unfoldable pub value_from : ℕ → ℕ → ℕ → List ℕ → Option ℕ
value_from base most n [] = Some n
value_from base most n (b ∷ l) = cond (ltb (hex_value b) base && leb (base * n + hex_value b) most) (value_from base most (base * n + hex_value b) l) None

-- a number has at least one digit
unfoldable pub value_of : ℕ → ℕ → List ℕ → Option ℕ
value_of base most [] = None
value_of base most (b ∷ l) = value_from base most 0 (b ∷ l)

-- in decimal digits
abbrev pub decimal_of : ℕ → List ℕ → Option ℕ
decimal_of most l = value_of 10 most l

-- after 0x in hexadecimal digits, else in decimal ones
unfoldable pub number_of : ℕ → List ℕ → Option ℕ
number_of most l = cond (hex_mark l) (value_of 16 most (drop 2 l)) (decimal_of most l)
