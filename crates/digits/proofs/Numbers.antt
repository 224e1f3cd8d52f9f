-- Numbers digit by digit.
-- Assumes nothing.
use mathlib.Core.Path.{◌≡◌, refl}
use mathlib.Core.Bool.{true, false, cond, ◌&&◌}
use mathlib.Core.List.{List, [], ◌∷◌}
use Prim.Native.Nat.{ℕ, ◌+◌, ◌*◌, ◌<◌, ◌≤◌}
use native.Mathlib.Omega.{arith}
use lib.Dec.{leb, ltb, eqb}
use lib.ListN.{length, get_or, drop, drop_of_length-le}
use Rattle.std.specs.Prelude.{None, Some}
use Rattle.std.proofs.lemmas.Bool.Decides.{nat_tests}
use Rattle.digits.specs.Digits.{hex_value}
use Rattle.digits.specs.Numbers.{value_from, value_of}
use Rattle.digits.proofs.Texts.{head}
use Rattle.digits.proofs.Digits.{no-digit, is-digit}

-- ── at least one digit ──
module _ (base most : ℕ) where
  pub value-none : (l : List ℕ) → true ≡ eqb (length l) 0 → None ≡ value_of base most l
  unfolding value_of
  value-none [] e = refl
  value-none (b ∷ l) e = grind (arith, nat_tests)

  pub value-some : (l : List ℕ) → false ≡ eqb (length l) 0 → value_from base most 0 l ≡ value_of base most l
  unfolding value_of
  value-some [] e = grind (arith, nat_tests)
  value-some (b ∷ l) e = refl

  -- ── digit by digit ──
  pub value-end : (l : List ℕ) (i n : ℕ) → length l ≤ i → value_from base most n (drop i l) ≡ Some n
  unfolding value_from
  value-end l i n g = rw (drop_of_length-le l g)

  pub value-step : (l : List ℕ) (i n : ℕ) → i < length l → let digit = hex_value (get_or l i 0) in
      value_from base most n (drop i l)
      ≡ cond (ltb digit base && leb (base * n + digit) most) (value_from base most (base * n + digit) (drop (i + 1) l)) None
  unfolding value_from
  value-step l i n g = rw (head l i g)

-- all that the loop over the digits goes by
pub ruleset steps = (nat_tests, no-digit, is-digit, value-none, value-some, value-end, value-step)
