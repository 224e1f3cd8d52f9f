-- What passing the settings' checks tells.
-- Assumes nothing.
use Rattle.std.proofs.Common.{◌≡◌, ℕ, zero, suc, ◌-◌, ◌/◌, ◌%◌, ◌^◌, ◌<◌, ◌≤◌, Bool, true, false, not, ◌||◌, eqb, ltb, leb, ◌≢◌, sym, refl, ap, ◌∙◌, subst, mod-lt}
use Rattle.std.proofs.Common.{pos_of_ne-zero, arith, pow_mono, ltb-false, eqb-true, leb-false}
use mathlib.Core.Option.{none}
use native.Mathlib.Decide.{dec_le, ℕ_discrete}
use borrow.Author.Tests.{eqb-false, not-false}
use lib.Bits.{bit_and, and_mask}
use lib.Pow.{pow-lt}
use Rattle.lemmas.proofs.Bools.{or-false-left, or-false-right, cond-none}
use Rattle.lemmas.proofs.Powers.{power-of-and, and-of-power}
use Rattle.refusals.proofs.Cursor.{parts-passed}
use Rattle.index.specs.Settings.{by_rule, is_power_below, power_of_two, odd, form_checks, former_checks, former_refusal, settings_checks, settings_refusal, half, modulus}
use Rattle.index.specs.declared.Settings.{Settings}

-- ── powers of two ──
power_below : (n m : ℕ) → is_power_below n m ≡ true → (k : ℕ) × (m ≡ 2 ^ k)
power_below zero m e = absurd (let z : ◌≡◌ {A = ℕ} 0 1 = cc in omega arith)
power_below (suc n) m e = go (eqb m (2 ^ n)) refl e (power_below n m)
  where
    go : (b : Bool) → eqb m (2 ^ n) ≡ b → (b || is_power_below n m) ≡ true → (is_power_below n m ≡ true → (k : ℕ) × (m ≡ 2 ^ k)) → (k : ℕ) × (m ≡ 2 ^ k)
    go true t e r = (n, eqb-true m (2 ^ n) t)
    go false t e r = r e

below_power : (n k m : ℕ) → k < n → m ≡ 2 ^ k → is_power_below n m ≡ true
below_power zero k m h e = absurd (omega arith)
below_power (suc n) k m h e = go (eqb m (2 ^ n)) refl (below_power n k m)
  where
    go : (b : Bool) → eqb m (2 ^ n) ≡ b → (k < n → m ≡ 2 ^ k → is_power_below n m ≡ true) → (b || is_power_below n m) ≡ true
    go true t r = refl
    go false t r = elim (ℕ_discrete k n) [
      | yes q ↦ absurd (eqb-false m (2 ^ n) t (e ∙ ap (λ (x : ℕ). 2 ^ x) q))
      | no q ↦ r (omega arith) e
    ]

-- the test that the code makes
power-test : (m : ℕ) → 0 < m → m ≤ 65536 → eqb (bit_and m (m - 1)) 0 ≡ power_of_two m
unfolding power_of_two
power-test m h l = go (eqb (bit_and m (m - 1)) 0) refl (is_power_below 17 m) refl
  where
    small : (k : ℕ) → m ≡ 2 ^ k → k < 17
    small k e = elim (dec_le 17 k) [
      | yes g ↦ absurd (omega (arith, pow_mono g))
      | no g ↦ omega arith
    ]

    go : (b : Bool) → eqb (bit_and m (m - 1)) 0 ≡ b → (d : Bool) → is_power_below 17 m ≡ d → b ≡ d
    go true t true e = refl
    go false t false e = refl
    go true t false e =
        let r : (k : ℕ) × (m ≡ 2 ^ k) = power-of-and m h (eqb-true (bit_and m (m - 1)) 0 t) in
        sym (below_power 17 r.0 m (small r.0 r.1) r.1) ∙ e
    go false t true e =
        let r : (k : ℕ) × (m ≡ 2 ^ k) = power_below 17 m e in
        absurd (eqb-false (bit_and m (m - 1)) 0 t (subst (λ (x : ℕ). bit_and x (x - 1) ≡ 0) (sym r.1) (and-of-power r.0)))

-- ── good settings ──
pub record Good (s : Settings) : Type 0 where
  pub rule : s.rule ≤ 2
  pub width_low : 4 ≤ s.width
  pub width_high : s.width ≤ 16
  pub some_bucket : 0 < s.buckets
  pub few_buckets : s.buckets ≤ 65536
  -- by the rule
  pub power : s.rule ≢ 1 → (k : ℕ) × (s.buckets ≡ 2 ^ k)
  pub even : s.rule ≡ 1 → s.buckets % 2 ≡ 0
  pub mask : s.rule ≢ 0 → s.rule ≢ 1 → s.mask < s.buckets
  pub no_mask : s.rule ≢ 2 → s.mask ≡ 0

pub by-masked : {A : Type 0} (r : ℕ) (x y z : A) → r ≢ 0 → r ≢ 1 → by_rule r x y z ≡ z
by-masked zero x y z n m = absurd (n refl)
by-masked (suc zero) x y z n m = absurd (m refl)
by-masked (suc (suc r)) x y z n m = refl

pub by-xor : {A : Type 0} (r : ℕ) (x y : A) → r ≢ 1 → by_rule r x y x ≡ x
by-xor zero x y m = refl
by-xor (suc zero) x y m = absurd (m refl)
by-xor (suc (suc r)) x y m = refl

pub by-pair : {A : Type 0} (r : ℕ) (x z : A) → r ≤ 1 → by_rule r x x z ≡ x
by-pair zero x z h = refl
by-pair (suc zero) x z h = refl
by-pair (suc (suc r)) x z h = absurd (omega arith)

-- the test of the count's form: on the ring it looks at the lowest bit
low_bit : (m : ℕ) → not (eqb (bit_and m 1) 0) ≡ odd m
low_bit m = ap (λ (x : ℕ). not (eqb x 0)) (and_mask m 1) ∙ go (m % 2) (mod-lt m (omega arith))
  where
    go : (x : ℕ) → x < 2 → not (eqb x 0) ≡ eqb x 1
    go zero h = refl
    go (suc zero) h = refl
    go (suc (suc x)) h = absurd (omega arith)

pub form-test : (r m : ℕ) → 0 < m → m ≤ 65536 → not (eqb (bit_and m (by_rule r (m - 1) 1 (m - 1))) 0) ≡ by_rule r (not (power_of_two m)) (odd m) (not (power_of_two m))
form-test zero m h l = ap not (power-test m h l)
form-test (suc zero) m h l = low_bit m
form-test (suc (suc r)) m h l = ap not (power-test m h l)

power-of-good : (r m : ℕ) → by_rule r (not (power_of_two m)) (odd m) (not (power_of_two m)) ≡ false → r ≢ 1 → (k : ℕ) × (m ≡ 2 ^ k)
unfolding power_of_two
power-of-good r m e n = power_below 17 m (not-false (is_power_below 17 m) (sym (by-xor r (not (is_power_below 17 m)) (odd m) n) ∙ e))

even-of-good : (r m : ℕ) → by_rule r (not (power_of_two m)) (odd m) (not (power_of_two m)) ≡ false → r ≡ 1 → m % 2 ≡ 0
even-of-good r m e h =
    let f : odd m ≡ false = subst (λ (x : ℕ). by_rule x (not (power_of_two m)) (odd m) (not (power_of_two m)) ≡ false) h e in
    let n : m % 2 ≢ 1 = eqb-false (m % 2) 1 f in
    omega arith

mask-of-good : (r m k : ℕ) → by_rule r (not (eqb k 0)) (not (eqb k 0)) (leb m k) ≡ false → r ≢ 0 → r ≢ 1 → k < m
mask-of-good r m k e n o = leb-false m k (sym (by-masked r (not (eqb k 0)) (not (eqb k 0)) (leb m k) n o) ∙ e)

mask-of-none : (r m k : ℕ) → by_rule r (not (eqb k 0)) (not (eqb k 0)) (leb m k) ≡ false → r ≤ 2 → r ≢ 2 → k ≡ 0
mask-of-none r m k e l n = eqb-true k 0 (not-false (eqb k 0) (sym (by-pair r (not (eqb k 0)) (leb m k) (omega arith)) ∙ e))

-- the former checks are enough
pub former-good : (s : Settings) → former_refusal s ≡ none → Good s
unfolding form_checks former_checks
former-good s e =
    let m : ℕ = s.buckets in
    let c1 = cond-none (ltb 2 s.rule) 1 _ e in
    let c2 = cond-none (ltb s.width 4 || ltb 16 s.width) 2 _ c1.1 in
    let c3 = cond-none (eqb m 0 || ltb 65536 m || by_rule s.rule (not (power_of_two m)) (odd m) (not (power_of_two m))) 3 _ c2.1 in
    let c4 = cond-none (by_rule s.rule (not (eqb s.mask 0)) (not (eqb s.mask 0)) (leb m s.mask)) 4 none c3.1 in
    let counts = or-false-left (eqb m 0 || ltb 65536 m) (by_rule s.rule (not (power_of_two m)) (odd m) (not (power_of_two m))) c3.0 in
    let shape = or-false-right (eqb m 0 || ltb 65536 m) (by_rule s.rule (not (power_of_two m)) (odd m) (not (power_of_two m))) c3.0 in
    record {
      rule = ltb-false 2 s.rule c1.0;
      width_low = ltb-false s.width 4 (or-false-left (ltb s.width 4) (ltb 16 s.width) c2.0);
      width_high = ltb-false 16 s.width (or-false-right (ltb s.width 4) (ltb 16 s.width) c2.0);
      some_bucket = pos_of_ne-zero (eqb-false m 0 (or-false-left (eqb m 0) (ltb 65536 m) counts));
      few_buckets = ltb-false 65536 m (or-false-right (eqb m 0) (ltb 65536 m) counts);
      power = power-of-good s.rule m shape;
      even = even-of-good s.rule m shape;
      mask = mask-of-good s.rule m s.mask c4.0;
      no_mask = mask-of-none s.rule m s.mask c4.0 (ltb-false 2 s.rule c1.0);
    }

pub former : (s : Settings) → settings_refusal s ≡ none → former_refusal s ≡ none
unfolding settings_checks
former s e = (parts-passed (former_checks s) _ e).0

pub good : (s : Settings) → settings_refusal s ≡ none → Good s
good s e = former-good s (former s e)

-- ── what hashes are reduced by ──
pub modulus-ring : (s : Settings) → s.rule ≡ 1 → modulus s ≡ s.buckets / 2
unfolding modulus half
modulus-ring s e = rw e

pub modulus-xor : (s : Settings) → s.rule ≢ 1 → modulus s ≡ s.buckets
unfolding modulus
modulus-xor s n = by-xor s.rule s.buckets (half s) n

pub modulus-below : (s : Settings) → Good s → (0 < modulus s) × (modulus s ≤ s.buckets)
modulus-below s G = elim (ℕ_discrete s.rule 1) [
  | yes e ↦ omega (arith, modulus-ring s e, G.even e, G.some_bucket)
  | no n ↦ omega (arith, modulus-xor s n, G.some_bucket)
]

-- there is a fingerprint
pub some-prints : {s : Settings} → Good s → 0 < 2 ^ s.width - 1
some-prints {s} G = omega (arith, pow-lt {i = 0} {j = s.width} (omega (arith, G.width_low)))

-- of the rules that there are, neither of two is the third
pub zero_of : (r : ℕ) → r ≤ 2 → r ≢ 1 → r ≢ 2 → r ≡ 0
zero_of zero h n m = refl
zero_of (suc zero) h n m = absurd (n refl)
zero_of (suc (suc zero)) h n m = absurd (m refl)
zero_of (suc (suc (suc r))) h n m = absurd (omega arith)
