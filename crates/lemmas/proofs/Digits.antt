-- A digit below N ahead of the rest of a number.
-- Assumes nothing.
use mathlib.Core.Path.{◌≡◌, ap, ◌∙◌}
use Prim.Native.Nat.{ℕ, ◌+◌, ◌*◌, ◌/◌, ◌%◌, ◌<◌}
use native.Mathlib.Nat.{mod-eq_of_lt, div-eq_of_lt, add-mul-div_left, add-mul-mod_self_left, mul-suc, mul_comm, mul-le-mul_left, div-lt_iff_lt-mul}
use native.Mathlib.Omega.{arith}

pub digit-below : (N T x t : ℕ) → x < N → t < T → x + N * t < N * T
digit-below N T x t h k = omega (arith, mul-suc N t, mul-le-mul_left N k)

pub digit-first : (N x t : ℕ) → x < N → (x + N * t) % N ≡ x
digit-first N x t h = add-mul-mod_self_left x N t ∙ mod-eq_of_lt h

pub digit-rest : (N x t : ℕ) → x < N → (x + N * t) / N ≡ t
digit-rest N x t h = add-mul-div_left x t (omega arith) ∙ ap (λ (z : ℕ). z + t) (div-eq_of_lt h) ∙ omega arith

-- a quotient is below what is left of the bound
pub quotient-below : (N T x : ℕ) → x < N * T → 0 < N → x / N < T
quotient-below N T x h p = (div-lt_iff_lt-mul p).1 (omega (arith, mul_comm N T))
