-- What std's tests say of a digit and of the mark.
-- Assumes nothing.
use mathlib.Core.Path.{◌≡◌, refl}
use mathlib.Core.List.{List, [], ◌∷◌}
use Prim.Native.Nat.{ℕ, ◌<◌}
use native.Mathlib.Omega.{arith}
use lib.Dec.{eqb}
use lib.ListN.{take}
use Rattle.std.specs.Cmp.Lexicographic.{pointwise}
use Rattle.std.specs.Prelude.{None, Some}
use Rattle.std.proofs.lemmas.Bool.Decides.{nat_tests}
use Rattle.digits.specs.Digits.{hex_value, digit_of, hex_mark}

-- ── a digit ──
module _ (b : ℕ) where
  pub no-digit : None ≡ digit_of b → 15 < hex_value b
  no-digit h = grind (arith, nat_tests)

  pub is-digit : {d : ℕ} → Some d ≡ digit_of b → d ≡ hex_value b
  is-digit h = grind (arith, nat_tests)

-- ── the mark ──
pub mark : (t : List ℕ) → pointwise eqb (take 2 t) (48 ∷ 120 ∷ []) ≡ hex_mark t
unfolding hex_mark
mark [] = refl
mark (a ∷ []) = grind (arith, nat_tests)
mark (a ∷ b ∷ l) = grind (arith, nat_tests)
