-- Exclusive or as a group, and what a mask and its complement take of a number.
-- Assumes nothing.
use mathlib.Core.Path.{◌≡◌, refl, sym, ap, ap₂, ◌∙◌}
use Prim.Native.Nat.{ℕ, zero, suc, ◌+◌, ◌*◌, ◌-◌, ◌/◌, ◌%◌, ◌^◌, ◌<◌, min}
use native.Mathlib.Omega.{arith}
use lib.Arith.{bin_ind, digits_div, digits_mod}
use lib.Bits.{bit_and, bit_xor, differ, and_step, xor_step, xor_zero_l, xor_self}

-- ── associativity ──
differ-bit : (x y : ℕ) → x < 2 → y < 2 → differ x y < 2
differ-bit zero y h k = k
differ-bit (suc zero) zero h k = h
differ-bit (suc zero) (suc zero) h k = omega arith
differ-bit (suc zero) (suc (suc y)) h k = absurd (omega arith)
differ-bit (suc (suc x)) y h k = absurd (omega arith)

differ-assoc : (x y z : ℕ) → x < 2 → y < 2 → z < 2 → differ (differ x y) z ≡ differ x (differ y z)
differ-assoc zero y z h k l = refl
differ-assoc (suc zero) zero z h k l = refl
differ-assoc (suc zero) (suc zero) zero h k l = refl
differ-assoc (suc zero) (suc zero) (suc zero) h k l = refl
differ-assoc (suc zero) (suc zero) (suc (suc z)) h k l = absurd (omega arith)
differ-assoc (suc zero) (suc (suc y)) z h k l = absurd (omega arith)
differ-assoc (suc (suc x)) y z h k l = absurd (omega arith)

bit : (a : ℕ) → a % 2 < 2
bit a = omega arith

xor-half : (a b : ℕ) → bit_xor a b / 2 ≡ bit_xor (a / 2) (b / 2)
xor-half a b = ap (λ (x : ℕ). x / 2) (xor_step a b) ∙ digits_div (bit_xor (a / 2) (b / 2)) (differ-bit (a % 2) (b % 2) (bit a) (bit b))

xor-bit : (a b : ℕ) → bit_xor a b % 2 ≡ differ (a % 2) (b % 2)
xor-bit a b = ap (λ (x : ℕ). x % 2) (xor_step a b) ∙ digits_mod (bit_xor (a / 2) (b / 2)) (differ-bit (a % 2) (b % 2) (bit a) (bit b))

pub xor_assoc : (a b c : ℕ) → bit_xor (bit_xor a b) c ≡ bit_xor a (bit_xor b c)
xor_assoc a = bin_ind (λ (n : ℕ). (b c : ℕ) → bit_xor (bit_xor n b) c ≡ bit_xor n (bit_xor b c))
    (λ b c. ap (λ (x : ℕ). bit_xor x c) (xor_zero_l b) ∙ sym (xor_zero_l (bit_xor b c)))
    (λ n ih b c.
    xor_step (bit_xor n b) c
    ∙ ap₂ (λ (x y : ℕ). x * 2 + y)
    (ap (λ (x : ℕ). bit_xor x (c / 2)) (xor-half n b) ∙ ih (b / 2) (c / 2) ∙ ap (bit_xor (n / 2)) (sym (xor-half b c)))
    (ap (λ (x : ℕ). differ x (c % 2)) (xor-bit n b) ∙ differ-assoc (n % 2) (b % 2) (c % 2) (bit n) (bit b) (bit c) ∙ ap (differ (n % 2)) (sym (xor-bit b c)))
    ∙ sym (xor_step n (bit_xor b c)))
    a

-- the same twice is nothing
pub xor-back : (a b : ℕ) → bit_xor a (bit_xor a b) ≡ b
xor-back a b = sym (xor_assoc a a b) ∙ ap (λ (x : ℕ). bit_xor x b) (xor_self a) ∙ xor_zero_l b

-- ── a mask and its complement ──
min-bits : (d m : ℕ) → d < 2 → m < 2 → differ (min d m) (min d (1 - m)) ≡ d
min-bits zero zero h k = refl
min-bits zero (suc zero) h k = refl
min-bits (suc zero) zero h k = refl
min-bits (suc zero) (suc zero) h k = refl
min-bits zero (suc (suc m)) h k = absurd (omega arith)
min-bits (suc zero) (suc (suc m)) h k = absurd (omega arith)
min-bits (suc (suc d)) m h k = absurd (omega arith)

min-bit : (x y : ℕ) → x < 2 → min x y < 2
min-bit x y h = omega arith

and-half : (a b : ℕ) → bit_and a b / 2 ≡ bit_and (a / 2) (b / 2)
and-half a b = ap (λ (x : ℕ). x / 2) (and_step a b) ∙ digits_div (bit_and (a / 2) (b / 2)) (min-bit (a % 2) (b % 2) (bit a))

and-bit : (a b : ℕ) → bit_and a b % 2 ≡ min (a % 2) (b % 2)
and-bit a b = ap (λ (x : ℕ). x % 2) (and_step a b) ∙ digits_mod (bit_and (a / 2) (b / 2)) (min-bit (a % 2) (b % 2) (bit a))

-- what m takes of d and what the other k-bit mask takes of it make d
pub mask-parts : (k d m : ℕ) → d < 2 ^ k → m < 2 ^ k → bit_xor (bit_and d m) (bit_and d (2 ^ k - 1 - m)) ≡ d
mask-parts zero d m hd hm =
    let e : d ≡ 0 = omega arith in
    rw e refl
mask-parts (suc k) d m hd hm =
    let c : ℕ = 2 ^ suc k - 1 - m in
    let half-c : c / 2 ≡ 2 ^ k - 1 - m / 2 = omega arith in
    let bit-c : c % 2 ≡ 1 - m % 2 = omega arith in
    xor_step (bit_and d m) (bit_and d c)
    ∙ ap₂ (λ (x y : ℕ). x * 2 + y)
    (ap₂ bit_xor (and-half d m) (and-half d c ∙ ap (bit_and (d / 2)) half-c) ∙ mask-parts k (d / 2) (m / 2) (omega arith) (omega arith))
    (ap₂ differ (and-bit d m) (and-bit d c ∙ ap (min (d % 2)) bit-c) ∙ min-bits (d % 2) (m % 2) (bit d) (bit m))
    ∙ omega arith
