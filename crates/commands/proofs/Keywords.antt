-- A table of names in the code, and the list of keywords.
-- Assumes nothing.
use mathlib.Core.Path.{◌≡◌, refl}
use mathlib.Core.Bool.{Bool, true, false, cond}
use mathlib.Core.List.{List, [], ◌∷◌, map}
use Prim.Native.Nat.{ℕ}
use denote.Ref.{Bor}
use Rattle.std.specs.Prelude.{Some, find, option_map, bytes_eq}
use Rattle.commands.specs.Commands.{Keyword, asks_of}
use Rattle.commands.specs.Internal.{beside}
use Rattle.commands.specs.declared.Asks.{Asks}

abbrev pub keyword_in : Bor (List ℕ) × Asks → Keyword
keyword_in row = record { name = row.0.now; asks = row.1 }

pub beside-asks : (n : List ℕ) (t : List (Bor (List ℕ) × Asks)) → beside n t ≡ asks_of n (map keyword_in t)
unfolding beside asks_of
beside-asks n [] = refl
beside-asks n (r ∷ t) = go (bytes_eq n r.0.now) (beside-asks n t)
  where
    go : (b : Bool) → beside n t ≡ asks_of n (map keyword_in t)
        → option_map (λ row. row.1) (cond b (Some r) (find (λ row. bytes_eq n row.0.now) t)) ≡ cond b (Some r.1) (asks_of n (map keyword_in t))
    go true e = refl
    go false e = e
