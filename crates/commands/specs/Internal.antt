-- What only the private functions' contracts speak of.
-- Assumes nothing.
use Rattle.std.specs.Prelude.{List, ℕ, Option, find, option_map, bytes_eq}
use denote.Ref.{Bor}

-- what stands beside a name in a table
unfoldable pub beside : {A : Type 0} → List ℕ → List (Bor (List ℕ) × A) → Option A
beside n t = option_map (λ row. row.1) (find (λ row. bytes_eq n row.0.now) t)
