-- Four bits as a number, and bytes in pairs.
-- Assumes nothing.
use mathlib.Core.Path.{◌≡◌, refl, ap, ◌∙◌}
use mathlib.Core.Bool.{Bool, true, false}
use Prim.Native.Nat.{ℕ, zero, suc, ◌+◌, ◌*◌, ◌/◌, ◌%◌, ◌≤◌, ◌<◌}
use native.Mathlib.Omega.{arith}
use lib.Dec.{eqb}
use Rattle.file_form.specs.Bytes.{one, nibble, bit0, bit1, bit2, bit3}

pub one-le : (b : Bool) → one b ≤ 1
one-le true = omega arith
one-le false = omega arith

pub one-is : (b : Bool) → eqb (one b) 1 ≡ b
one-is true = refl
one-is false = refl

pub is_one : (x : ℕ) → x < 2 → one (eqb x 1) ≡ x
is_one zero h = refl
is_one (suc zero) h = refl
is_one (suc (suc x)) h = absurd (omega arith)

-- a number made of four bits is below 16 and has these bits
module _ (a b c d : Bool) where
  pub nibble-low : nibble a b c d < 16
  nibble-low = omega (arith, one-le a, one-le b, one-le c, one-le d)

  pub bit0-nibble : bit0 (nibble a b c d) ≡ a
  bit0-nibble =
      let e : nibble a b c d % 2 ≡ one a = omega (arith, one-le a) in
      ap (λ (x : ℕ). eqb x 1) e ∙ one-is a

  pub bit1-nibble : bit1 (nibble a b c d) ≡ b
  bit1-nibble =
      let e : nibble a b c d / 2 % 2 ≡ one b = omega (arith, one-le a, one-le b) in
      ap (λ (x : ℕ). eqb x 1) e ∙ one-is b

  pub bit2-nibble : bit2 (nibble a b c d) ≡ c
  bit2-nibble =
      let e : nibble a b c d / 4 % 2 ≡ one c = omega (arith, one-le a, one-le b, one-le c) in
      ap (λ (x : ℕ). eqb x 1) e ∙ one-is c

  pub bit3-nibble : bit3 (nibble a b c d) ≡ d
  bit3-nibble =
      let e : nibble a b c d / 8 % 2 ≡ one d = omega (arith, one-le a, one-le b, one-le c, one-le d) in
      ap (λ (x : ℕ). eqb x 1) e ∙ one-is d

-- a number below 16 is made of its bits
pub nibble-bits : (m : ℕ) → m < 16 → nibble (bit0 m) (bit1 m) (bit2 m) (bit3 m) ≡ m
nibble-bits m h =
    let two : m / 2 ≡ 2 * (m / 4) + m / 2 % 2 = omega arith in
    let four : m / 4 ≡ 2 * (m / 8) + m / 4 % 2 = omega arith in
    let eight : m / 8 % 2 ≡ m / 8 = omega arith in
    omega (
      arith,
      is_one (m % 2) (omega arith),
      is_one (m / 2 % 2) (omega arith),
      is_one (m / 4 % 2) (omega arith),
      is_one (m / 8 % 2) (omega arith),
    )
