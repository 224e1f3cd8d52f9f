-- The other end of a pair on the ring, by a test in the place of the remainder, since each sum is below twice l; and the way back.
-- Assumes nothing.
use Rattle.std.proofs.Common.{◌≡◌, ℕ, ◌+◌, ◌-◌, ◌*◌, ◌%◌, ◌<◌, ◌≤◌, ◌≢◌, ◌⊎◌, [], ◌∷◌, sym, ap, ◌∙◌, inl, inr, mod-eq_of_lt, arith, le-ltb, lt-ltb}
use native.Mathlib.Nat.{mul-add-mod_self_right}
use native.Mathlib.Decide.{ℕ_discrete, dec_lt}
use Rattle.lemmas.specs.Members.{Alike}
use Rattle.index.specs.Candidates.{across}

-- the remainder of x, by values: x is y, or one or two rounds of l above it
remainder_is : {x y l : ℕ} → y < l → (x ≢ y → x ≢ l + y → x ≢ 2 * l + y → ⊥) → x % l ≡ y
remainder_is {x} {y} {l} h one = elim (ℕ_discrete x y) [
  | yes e ↦ rounds 0 (omega arith)
  | no n ↦ elim (ℕ_discrete x (l + y)) [
    | yes e ↦ rounds 1 (omega arith)
    | no m ↦ elim (ℕ_discrete x (2 * l + y)) [ yes e ↦ rounds 2 e | no k ↦ absurd (one n m k) ]
  ]
]
  where
    rounds : (k : ℕ) → x ≡ k * l + y → x % l ≡ y
    rounds k e = rw (e, mul-add-mod_self_right k l y) (mod-eq_of_lt h)

module _ (l d b : ℕ) (hd : d < l) (hb : b < 2 * l) where
  pub across-ahead : b < l → b + d < l → l + (b + d) ≡ across l d b
  unfolding across
  across-ahead h k = rw (lt-ltb b l h) (ap (λ (x : ℕ). l + x) (sym (remainder_is k (λ n m o. omega arith))))

  pub across-around : b < l → l ≤ b + d → b + d ≡ across l d b
  unfolding across
  across-around h k =
      let small : b + d - l < l = omega arith in
      let back : l + (b + d - l) ≡ b + d = omega arith in
      rw (lt-ltb b l h) (sym back ∙ ap (λ (x : ℕ). l + x) (sym (remainder_is small (λ n m o. omega arith))))

  -- back to y, by sums alone
  back_to : (y : ℕ) → l ≤ b → y < l → b ≡ y + d → y ≡ across l d b
  unfolding across
  back_to y h k e = rw (le-ltb b l h) (sym (remainder_is k (λ n m o. omega arith)))

  turned-to : (y : ℕ) → l ≤ b → b ≡ l + y + d → y ≡ across l d b
  unfolding across
  turned-to y h e = rw (le-ltb b l h) (sym (remainder_is (omega arith) (λ n m o. omega arith)))

  pub across-behind : l ≤ b → b - d < l → b - d ≡ across l d b
  across-behind h k = back_to (b - d) h k (omega arith)

  pub across-turned : l ≤ b → l ≤ b - d → b - d - l ≡ across l d b
  across-turned h k = turned-to (b - d - l) h (omega arith)

-- one step ahead in the second block, or back in the first, in plain sums
ahead : (l d b : ℕ) → d < l → b < l → ((b + d < l) × (l + (b + d) ≡ across l d b)) ⊎ ((l ≤ b + d) × (b + d ≡ across l d b))
ahead l d b hd hb = elim (dec_lt (b + d) l) [
  | yes k ↦ inl (k, across-ahead l d b hd (omega arith) hb k)
  | no k ↦ let j : l ≤ b + d = omega arith in inr (j, across-around l d b hd (omega arith) hb j)
]

behind : (l d b : ℕ) → d < l → l ≤ b → b < 2 * l → ((b < l + d) × (b - d ≡ across l d b)) ⊎ ((l + d ≤ b) × (b - d - l ≡ across l d b))
behind l d b hd hl hb = elim (dec_lt b (l + d)) [
  | yes k ↦ inl (k, across-behind l d b hd hb hl (omega arith))
  | no k ↦ inr (omega arith, across-turned l d b hd hb hl (omega arith))
]

pub across-below : (l d b : ℕ) → d < l → b < 2 * l → across l d b < 2 * l
across-below l d b hd hb = elim (dec_lt b l) [
  | yes k ↦ elim (ahead l d b hd k) [ inl t ↦ omega (arith, t.0, t.1) | inr t ↦ omega (arith, t.1) ]
  | no k ↦ elim (behind l d b hd (omega arith) hb) [ inl t ↦ omega (arith, t.1) | inr t ↦ omega (arith, t.1) ]
]

-- there and back again, from either block
pub across-back : (l d b : ℕ) → d < l → b < 2 * l → across l d (across l d b) ≡ b
across-back l d b hd hb = elim (dec_lt b l) [ yes k ↦ there k (ahead l d b hd k) | no k ↦ here (omega arith) (behind l d b hd (omega arith) hb) ]
  where
    there : b < l → ((b + d < l) × (l + (b + d) ≡ across l d b)) ⊎ ((l ≤ b + d) × (b + d ≡ across l d b)) → across l d (across l d b) ≡ b
    there k (inl t) = elim (behind l d (across l d b) hd (omega (arith, t.1)) (across-below l d b hd hb)) [ inl u ↦ absurd (omega (arith, t.1, u.0)) | inr u ↦ omega (arith, t.1, u.1) ]
    there k (inr t) = elim (behind l d (across l d b) hd (omega (arith, t.0, t.1)) (across-below l d b hd hb)) [ inl u ↦ omega (arith, t.1, u.1) | inr u ↦ absurd (omega (arith, t.1, u.0)) ]

    here : l ≤ b → ((b < l + d) × (b - d ≡ across l d b)) ⊎ ((l + d ≤ b) × (b - d - l ≡ across l d b)) → across l d (across l d b) ≡ b
    here k (inl t) = elim (ahead l d (across l d b) hd (omega (arith, t.0, t.1))) [ inl u ↦ absurd (omega (arith, t.1, u.0)) | inr u ↦ omega (arith, t.1, u.1) ]
    here k (inr t) = elim (ahead l d (across l d b) hd (omega (arith, t.1))) [ inl u ↦ omega (arith, t.1, u.1) | inr u ↦ absurd (omega (arith, t.1, u.0)) ]

-- two that lead to each other have the same members
pub pair-alike : (a b : ℕ) → Alike (b ∷ a ∷ []) (a ∷ b ∷ [])
pair-alike a b x = (λ k. omega arith, λ k. omega arith)
