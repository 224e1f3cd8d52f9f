-- The numbers that are told of a list.
-- Assumes nothing.
use Rattle.std.specs.Prelude.{cond, ℕ, ◌*◌, ◌/◌, min, eqb}

-- a part in thousandths of a whole, at most all of it
unfoldable pub permille_of : ℕ → ℕ → ℕ
permille_of part whole = cond (eqb whole 0) 0 (min 1000 (1000 * part / whole))
