-- The bytes of a number as std has them, and as file_form does; a part of a list that is stored at once.
-- Assumes nothing.
use mathlib.Core.Path.{◌≡◌, refl, ap, ◌∙◌}
use mathlib.Core.List.{List, [], ◌∷◌, ◌++◌}
use Prim.Native.Nat.{ℕ, zero, suc, ◌+◌, ◌*◌, ◌-◌, ◌≤◌}
use native.Mathlib.Omega.{arith}
use lib.ListN.{length, drop, replicate, length-append, length-drop}
use Rattle.std.proofs.lemmas.List.{drop-replicate}
use Rattle.std.specs.Int.{w64, from_le_bytes}
use Rattle.lemmas.specs.Bytes.{number_from}

-- ── read ──
-- eight bytes as a number
pub eight-bytes : (l : List ℕ) → length l ≡ 8 → from_le_bytes w64 l ≡ number_from l
eight-bytes [] e = absurd (omega arith)
eight-bytes (a ∷ []) e = absurd (omega arith)
eight-bytes (a ∷ b ∷ []) e = absurd (omega arith)
eight-bytes (a ∷ b ∷ c ∷ []) e = absurd (omega arith)
eight-bytes (a ∷ b ∷ c ∷ d ∷ []) e = absurd (omega arith)
eight-bytes (a ∷ b ∷ c ∷ d ∷ f ∷ []) e = absurd (omega arith)
eight-bytes (a ∷ b ∷ c ∷ d ∷ f ∷ g ∷ []) e = absurd (omega arith)
eight-bytes (a ∷ b ∷ c ∷ d ∷ f ∷ g ∷ h ∷ []) e = absurd (omega arith)
eight-bytes (a ∷ b ∷ c ∷ d ∷ f ∷ g ∷ h ∷ i ∷ []) e = omega arith
eight-bytes (a ∷ b ∷ c ∷ d ∷ f ∷ g ∷ h ∷ i ∷ j ∷ l) e = absurd (omega arith)

number-none : (k : ℕ) → number_from (replicate k 0) ≡ 0
number-none zero = refl
number-none (suc k) = omega (arith, number-none k)

-- zeros above them say nothing
pub zeros-above : (l : List ℕ) (k : ℕ) → number_from (l ++ replicate k 0) ≡ number_from l
zeros-above [] k = number-none k
zeros-above (b ∷ l) k = ap (λ (z : ℕ). b + 256 * z) (zeros-above l k)

pub number-read : (n : ℕ) (part : List ℕ) → n ≤ 8 → length part ≡ n → from_le_bytes w64 (part ++ drop n (replicate 8 0)) ≡ number_from part
number-read n part h e =
    eight-bytes (part ++ drop n (replicate 8 0)) (omega (arith, length-append part (drop n (replicate {A = ℕ} 8 0)), length-drop n (replicate {A = ℕ} 8 0)))
    ∙ ap (λ (z : List ℕ). number_from (part ++ z)) (drop-replicate n 8 0)
    ∙ zeros-above part (8 - n)
