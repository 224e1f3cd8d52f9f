-- Remainders, and the larger of two numbers.
-- Assumes nothing.
use mathlib.Core.Path.{◌≡◌, sym, ap, ◌∙◌}
use mathlib.Core.Bool.{◌||◌}
use Prim.Native.Nat.{ℕ, ◌+◌, ◌*◌, ◌/◌, ◌%◌, max}
use native.Mathlib.Decide.{dec_le}
use native.Mathlib.Omega.{arith}
use borrow.Author.Tests.{le-leb, lt-leb}
use lib.Dec.{leb}
use native.Mathlib.Nat.{mod-add-div', add-mul, mul_right_comm, add-mul-mod_self_right}

-- a factor may be taken modulo m before it is multiplied
pub mod_times : (x k m : ℕ) → x % m * k % m ≡ x * k % m
mod_times x k m =
    sym (add-mul-mod_self_right (x % m * k) (x / m * k) m)
    ∙ ap (λ (y : ℕ). (x % m * k + y) % m) (sym (mul_right_comm (x / m) m k))
    ∙ ap (λ (y : ℕ). y % m) (sym (add-mul (x % m) (x / m * m) k) ∙ ap (λ (y : ℕ). y * k) (mod-add-div' x m))

-- the larger of two is as wide as either
pub max-wide : (n a b : ℕ) → leb n (max a b) ≡ (leb n a || leb n b)
max-wide n a b = elim (dec_le n a) [
  | yes h ↦ rw (le-leb n a h) (le-leb n (max a b) (omega arith))
  | no h ↦ rw (lt-leb n a (omega arith)) (elim (dec_le n b) [
    | yes k ↦ le-leb n (max a b) (omega arith) ∙ sym (le-leb n b k)
    | no k ↦ lt-leb n (max a b) (omega arith) ∙ sym (lt-leb n b (omega arith))
  ])
]
