-- Bytes and the map of fields.
-- Assumes nothing.
use Rattle.std.specs.Prelude.{Bool, true, false, List, [], ◌∷◌, ℕ, ◌+◌, ◌*◌, ◌/◌, ◌%◌, eqb}

-- two bytes, low byte first
abbrev pub pair : ℕ → List ℕ
pair x = (x % 256) ∷ (x / 256) ∷ []

-- 1 for true
abbrev pub one : Bool → ℕ
one true = 1
one false = 0

-- the number whose bits 0 to 3 are these
abbrev pub nibble : Bool → Bool → Bool → Bool → ℕ
nibble a b c d = one a + 2 * one b + 4 * one c + 8 * one d

-- bits 0 to 3 of a number
abbrev pub bit0 : ℕ → Bool
bit0 x = eqb (x % 2) 1

abbrev pub bit1 : ℕ → Bool
bit1 x = eqb (x / 2 % 2) 1

abbrev pub bit2 : ℕ → Bool
bit2 x = eqb (x / 4 % 2) 1

abbrev pub bit3 : ℕ → Bool
bit3 x = eqb (x / 8 % 2) 1

-- the list where it is wanted, else nothing
abbrev pub where? : Bool → List ℕ → List ℕ
where? true l = l
where? false l = []
