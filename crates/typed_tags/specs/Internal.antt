-- What only the private functions' contracts speak of.
-- Assumes nothing.
use Rattle.std.specs.Prelude.{Bool, ◌&&◌, List, [], ◌∷◌, ℕ, ◌+◌, ◌*◌, ◌%◌, eqb, length}
use Rattle.std.specs.List.{list_all}
use Rattle.digits.specs.Digits.{hex_value, hex_digit}

-- whether digits stand for bytes
abbrev pub hex_passes : List ℕ → Bool
hex_passes l = eqb (length l % 2) 0 && list_all hex_digit l

-- the bytes that they stand for where they do
unfoldable pub hex_pairs : List ℕ → List ℕ
hex_pairs [] = []
hex_pairs (a ∷ []) = []
hex_pairs (a ∷ b ∷ l) = (16 * hex_value a + hex_value b) ∷ hex_pairs l
