use Prim.Native.Nat.{ℕ, zero, suc, ◌+◌, ◌*◌, ◌/◌, ◌%◌, ◌^◌, ◌<◌}
use lib.Dec.{T, eqb, eqb→eq}
use mathlib.Core.Bool.{Bool, true, false, ◌&&◌}
use mathlib.Core.Path.{◌≡◌, refl, sym, ap, subst, ◌∙◌}
use native.Mathlib.Decide.{dec_le}
use native.Mathlib.Omega.{arith}
use Rattle.holdfile.specs.Internal.{bucket_size}
use Rattle.holdfile.proofs.bucket_size.Goals as goal

-- one computed test of all sixteen digits of the word
abbrev digit : ℕ → ℕ → ℕ
digit word k = word / 2 ^ (k * 4) % 16

abbrev test : ℕ → ℕ → Bool
test word k = eqb (digit word k) (bucket_size k)

abbrev below : ℕ → ℕ → Bool
below word zero = true
below word (suc n) = test word n && below word n

both : (a b : Bool) → T (a && b) → T a × T b
both true b t = (tt, t)
both false b t = absurd t

passes : (word n k : ℕ) → T (below word n) → k < n → T (test word k)
passes word zero k t h = absurd (omega arith)
passes word (suc n) k t h = elim (dec_le n k) [
  | yes e ↦ subst (λ (j : ℕ). T (test word j)) (let same : n ≡ k = omega arith in same) (both (test word n) (below word n) t).0
  | no e ↦ passes word n k (both (test word n) (below word n) t).1 (omega arith)
]

-- the bits from 4 on mark nothing
low_bits : (m : ℕ) → bucket_size (m % 16) ≡ bucket_size m
low_bits m =
    let h1 : m / 2 ≡ 2 * (4 * (m / 16)) + m % 16 / 2 = omega arith in
    let h2 : m / 4 ≡ 2 * (2 * (m / 16)) + m % 16 / 4 = omega arith in
    let h3 : m / 8 ≡ 2 * (m / 16) + m % 16 / 8 = omega arith in
    let e0 : m % 16 % 2 ≡ m % 2 = omega arith in
    let e1 : m % 16 / 2 % 2 ≡ m / 2 % 2 = sym (ap (λ (z : ℕ). z % 2) h1 ∙ even (4 * (m / 16)) (m % 16 / 2)) in
    let e2 : m % 16 / 4 % 2 ≡ m / 4 % 2 = sym (ap (λ (z : ℕ). z % 2) h2 ∙ even (2 * (m / 16)) (m % 16 / 4)) in
    let e3 : m % 16 / 8 % 2 ≡ m / 8 % 2 = sym (ap (λ (z : ℕ). z % 2) h3 ∙ even (m / 16) (m % 16 / 8)) in
    rw (e0, e1, e2, e3) refl
  where
    even : (q y : ℕ) → (2 * q + y) % 2 ≡ y % 2
    even q y = omega arith

pub returns : goal.returns
returns c =
    let m = c.args.marks in rw c.from-digit.ensures (eqb→eq (digit _ (m % 16)) (bucket_size (m % 16)) (passes _ 16 (m % 16) tt (omega arith)) ∙ low_bits m)
