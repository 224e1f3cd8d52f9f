-- A text from a place on, and one with the mark. Those above read their texts by these too.
-- Assumes nothing.
use mathlib.Core.Path.{◌≡◌}
use mathlib.Core.Bool.{true}
use mathlib.Core.List.{List, [], ◌∷◌}
use Prim.Native.Nat.{ℕ, ◌+◌, ◌-◌, ◌≤◌, ◌<◌}
use native.Mathlib.Numerals.{add-one}
use native.Mathlib.Omega.{arith}
use lib.ListN.{length, take, drop, get_or, length-drop}
use lib.Seq.{drop-cons, take_all}
use Rattle.digits.specs.Digits.{hex_mark}

pub from : (l : List ℕ) (i : ℕ) → take (length l - i) (drop i l) ≡ drop i l
from l i = take_all (length l - i) (drop i l) (omega (arith, length-drop i l))

pub head : (l : List ℕ) (i : ℕ) → i < length l → drop i l ≡ get_or l i 0 ∷ drop (i + 1) l
head l i g = rw (add-one, drop-cons l i 0)

pub mark-length : (t : List ℕ) → hex_mark t ≡ true → 2 ≤ length t
unfolding hex_mark
mark-length [] e = grind arith
mark-length (a ∷ []) e = grind arith
mark-length (a ∷ b ∷ l) e = omega arith
