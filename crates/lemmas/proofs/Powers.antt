-- Powers of two: a number is one exactly if it has no bit in common with the number below it, and 1 shifted is one.
-- Assumes nothing.
use mathlib.Core.Path.{◌≡◌, refl, ap, ap₂, ◌∙◌}
use mathlib.Core.Logic.{◌⊎◌, inl, inr}
use Prim.Native.Nat.{ℕ, zero, suc, ◌+◌, ◌*◌, ◌-◌, ◌/◌, ◌%◌, ◌^◌, ◌<◌, min}
use native.Mathlib.Nat.{min-zero, zero-min, one-mul}
use native.Mathlib.Omega.{arith}
use lib.Arith.{bin_ind}
use lib.Pow.{shl_exact}
use lib.Bits.{bit_and, and_step, and_self}

even-or-odd : (m : ℕ) → (m % 2 ≡ 0) ⊎ (m % 2 ≡ 1)
even-or-odd m = go (m % 2) refl
  where
    go : (r : ℕ) → m % 2 ≡ r → (m % 2 ≡ 0) ⊎ (m % 2 ≡ 1)
    go zero e = inl e
    go (suc zero) e = inr e
    go (suc (suc r)) e = absurd (omega arith)

-- an even number and the one below it: twice the same of the half
and-below-even : (m : ℕ) → 0 < m → m % 2 ≡ 0 → bit_and m (m - 1) ≡ bit_and (m / 2) (m / 2 - 1) * 2
and-below-even m h e =
    let half : (m - 1) / 2 ≡ m / 2 - 1 = omega arith in
    and_step m (m - 1) ∙ ap₂ (λ (x y : ℕ). bit_and (m / 2) x * 2 + y) half (ap (λ (x : ℕ). min x ((m - 1) % 2)) e ∙ zero-min ((m - 1) % 2)) ∙ omega arith

-- an odd number and the one below it share all but the lowest bit
and-below-odd : (m : ℕ) → m % 2 ≡ 1 → bit_and m (m - 1) ≡ m / 2 * 2
and-below-odd m e =
    let half : (m - 1) / 2 ≡ m / 2 = omega arith in
    let low : (m - 1) % 2 ≡ 0 = omega arith in
    and_step m (m - 1)
    ∙ ap₂ (λ (x y : ℕ). bit_and (m / 2) x * 2 + y) half (ap (min (m % 2)) low ∙ min-zero (m % 2))
    ∙ ap (λ (x : ℕ). x * 2 + 0) (and_self (m / 2)) ∙ omega arith

pub power-of-and : (m : ℕ) → 0 < m → bit_and m (m - 1) ≡ 0 → (k : ℕ) × (m ≡ 2 ^ k)
power-of-and = bin_ind (λ (m : ℕ). 0 < m → bit_and m (m - 1) ≡ 0 → (k : ℕ) × (m ≡ 2 ^ k)) (λ h. absurd (omega arith))
    (λ m ih h e. elim (even-or-odd m) [
      | inl p ↦
          let r : (k : ℕ) × (m / 2 ≡ 2 ^ k) = ih (omega arith) (omega (arith, and-below-even m h p)) in
          (suc r.0, omega (arith, r.1))
      | inr p ↦ (0, omega (arith, and-below-odd m p))
    ])

pub and-of-power : (k : ℕ) → bit_and (2 ^ k) (2 ^ k - 1) ≡ 0
and-of-power zero = refl
and-of-power (suc k) =
    let half : 2 ^ suc k / 2 ≡ 2 ^ k = omega arith in
    and-below-even (2 ^ suc k) (omega (arith, lib.Pow.pow_pos k)) (omega arith)
    ∙ rw half (ap (λ (x : ℕ). x * 2) (and-of-power k))

-- 1 shifted within n bits
pub one_shifted : (k n : ℕ) → k < n → 1 * 2 ^ k % 2 ^ n ≡ 2 ^ k
one_shifted k n h = shl_exact {a = 1} 1 k n (omega arith) (omega arith) ∙ one-mul (2 ^ k)
