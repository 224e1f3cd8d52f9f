-- The settings' former checks, in the order in which the code makes them, and the one that came to them.
-- Assumes nothing.
use Rattle.std.proofs.Common.{◌≡◌, ℕ, zero, suc, ◌-◌, ◌<◌, ◌≤◌, Bool, true, false, not, ◌||◌, eqb, ltb, leb, ◌≢◌, List, [], ◌∷◌, sym, refl, ap, ◌∙◌, pos_of_ne-zero}
use Rattle.std.proofs.Common.{arith, ltb-false, le-ltb, lt-ltb, eq-eqb, ne_eqb, le-leb}
use mathlib.Core.Option.{none, some}
use native.Mathlib.Decide.{dec_le, ℕ_discrete}
use mir.Val.{bool_byte}
use borrow.Author.Tests.{eqb-false, lt-leb}
use Rattle.lemmas.proofs.Bools.{or-true-left, or_true_right, or-false, or-false-left, or-false-right}
use Rattle.refusals.specs.Checks.{Check, check, first_met, Numbered}
use Rattle.refusals.specs.Laws.{Reached}
use Rattle.refusals.proofs.Cursor.{start, met, passed, none_left, all-met, all-passed, not-met}
use Rattle.index.specs.Settings.{by_rule, misshapen, overlong, degenerate, form_checks, former_checks, former_refusal, settings_checks, settings_refusal}
use Rattle.index.specs.declared.Settings.{Settings}

or-none : (b : Bool) → (b || false) ≡ b
or-none true = refl
or-none false = refl

pub numbered-former : (s : Settings) → Numbered (former_checks s)
unfolding form_checks former_checks
numbered-former s = (omega arith, (omega arith, (omega arith, (omega arith, tt))))

module _ (s : Settings) where
  -- the checks from number 3 and 2 on, and the place where they are left
  abbrev pub from-three : List Check
  from-three = check 3 (eqb s.buckets 0 || ltb 65536 s.buckets || misshapen s) ∷ []

  abbrev pub from-two : List Check
  from-two = check 2 (ltb s.width 4 || ltb 16 s.width) ∷ from-three

  abbrev pub Before : List Check → Type 0
  Before = Reached (form_checks s)

  pub is_one : 2 < s.rule → some 1 ≡ first_met (form_checks s)
  unfolding form_checks
  is_one h = sym (met (start (form_checks s)) (lt-ltb _ _ h))

  pub past_one : s.rule ≤ 2 → Before from-two
  unfolding form_checks
  past_one h = passed (start (form_checks s)) (le-ltb _ _ h)

  module _ (at : Before from-two) where
    pub is-two-low : s.width < 4 → some 2 ≡ first_met (form_checks s)
    is-two-low h = sym (met at (or-true-left _ _ (lt-ltb _ _ h)))

    pub is-two-high : 16 < s.width → some 2 ≡ first_met (form_checks s)
    is-two-high h = sym (met at (or_true_right (ltb s.width 4) _ (lt-ltb _ _ h)))

    pub past_two : 4 ≤ s.width → s.width ≤ 16 → Before from-three
    past_two h k = passed at (or-false _ _ (le-ltb _ _ h) (le-ltb _ _ k))

  module _ (at : Before from-three) where
    pub is-three-none : s.buckets ≡ 0 → some 3 ≡ first_met (form_checks s)
    is-three-none h = sym (met at (or-true-left _ _ (or-true-left _ _ (eq-eqb _ _ h))))

    pub is-three-many : 65536 < s.buckets → some 3 ≡ first_met (form_checks s)
    is-three-many h = sym (met at (or-true-left _ _ (or_true_right (eqb s.buckets 0) _ (lt-ltb _ _ h))))

    pub is-three-form : misshapen s ≡ true → some 3 ≡ first_met (form_checks s)
    is-three-form e = sym (met at (or_true_right (eqb s.buckets 0 || ltb 65536 s.buckets) _ e))

    pub past_three : s.buckets ≢ 0 → s.buckets ≤ 65536 → misshapen s ≡ false → none ≡ first_met (form_checks s)
    past_three n h e = sym (none_left (passed at (or-false _ _ (or-false _ _ (ne_eqb _ _ n) (le-ltb _ _ h)) e)))

  -- ── the mask against its limit ──
  from_one : (k : ℕ) → leb 1 k ≡ not (eqb k 0)
  from_one zero = refl
  from_one (suc k) = le-leb 1 (suc k) (omega arith) ∙ sym (ap not (ne_eqb (suc k) 0 (omega arith)))

  limit-test : (r k m : ℕ) → leb (by_rule r 1 1 m) k ≡ by_rule r (not (eqb k 0)) (not (eqb k 0)) (leb m k)
  limit-test zero k m = from_one k
  limit-test (suc zero) k m = from_one k
  limit-test (suc (suc r)) k m = refl

  -- under the masked rule: from 1 to the count less 2, which shuts out what is too large and both degenerate masks
  mask-range : (k m : ℕ) → 0 < m → (ltb k 1 || leb (m - 1) k) ≡ (leb m k || (eqb k 0 || eqb k (m - 1)))
  mask-range k m h = elim (ℕ_discrete k 0) [
    | yes z ↦ or-true-left (ltb k 1) _ (lt-ltb k 1 (omega arith)) ∙ sym (or_true_right (leb m k) _ (or-true-left (eqb k 0) _ (eq-eqb k 0 z)))
    | no n ↦ rw (le-ltb k 1 (omega arith), ne_eqb k 0 n) (elim (dec_le (m - 1) k) [
      | yes l ↦ le-leb (m - 1) k l ∙ sym (elim (ℕ_discrete k (m - 1)) [
        | yes e ↦ or_true_right (leb m k) _ (eq-eqb k (m - 1) e)
        | no d ↦ or-true-left (leb m k) _ (le-leb m k (omega arith))
      ])
      | no l ↦ lt-leb (m - 1) k (omega arith) ∙ sym (or-false _ _ (lt-leb m k (omega arith)) (ne_eqb k (m - 1) (λ e. omega arith)))
    ])
  ]

  -- one range for all rules
  pub range-test : (n : ℕ) → n ≡ by_rule s.rule 1 1 s.buckets → s.rule ≤ 2 → 0 < s.buckets
      → (ltb s.mask (bool_byte (eqb s.rule 2)) || leb (n - bool_byte (eqb s.rule 2)) s.mask) ≡ (overlong s || degenerate s)
  unfolding degenerate
  range-test n e h l = go s.rule h e
    where
      none_below : (k : ℕ) → (ltb k 0 || leb (n - 0) k) ≡ (leb n k || false)
      none_below k =
          let z : n - 0 ≡ n = omega arith in
          rw (le-ltb k 0 (omega arith), z) (sym (or-none (leb n k)))

      go : (r : ℕ) → r ≤ 2 → n ≡ by_rule r 1 1 s.buckets
          → (ltb s.mask (bool_byte (eqb r 2)) || leb (n - bool_byte (eqb r 2)) s.mask)
          ≡ (by_rule r (not (eqb s.mask 0)) (not (eqb s.mask 0)) (leb s.buckets s.mask) || by_rule r false false (eqb s.mask 0 || eqb s.mask (s.buckets - 1)))
      go zero h e = none_below s.mask ∙ ap (λ (b : Bool). b || false) (ap (λ (x : ℕ). leb x s.mask) e ∙ from_one s.mask)
      go (suc zero) h e = none_below s.mask ∙ ap (λ (b : Bool). b || false) (ap (λ (x : ℕ). leb x s.mask) e ∙ from_one s.mask)
      go (suc (suc zero)) h e = ap (λ (x : ℕ). ltb s.mask 1 || leb (x - 1) s.mask) e ∙ mask-range s.mask s.buckets l
      go (suc (suc (suc r))) h e = absurd (omega arith)

  -- what is known of rule and count where the mask is looked at
  pub rule-low : first_met (form_checks s) ≡ none → (s.rule ≤ 2) × (0 < s.buckets)
  unfolding form_checks
  rule-low e =
      let one = not-met (check 1 (ltb 2 s.rule)) from-two e in
      let two = not-met (check 2 (ltb s.width 4 || ltb 16 s.width)) from-three one.1 in
      let three = not-met (check 3 (eqb s.buckets 0 || ltb 65536 s.buckets || misshapen s)) [] two.1 in
      let counts = or-false-left (eqb s.buckets 0 || ltb 65536 s.buckets) (misshapen s) three.0 in
      (ltb-false 2 s.rule one.0, pos_of_ne-zero (eqb-false s.buckets 0 (or-false-left (eqb s.buckets 0) (ltb 65536 s.buckets) counts)))

  -- ── the checks of the mask, once it is known what the others come to ──
  module _ {n : ℕ} (e : some n ≡ first_met (form_checks s)) where
    pub refused-before : some n ≡ former_refusal s
    unfolding former_checks
    refused-before = sym (all-met (form_checks s) _ (start (former_checks s)) (sym e))

    pub refused-still : some n ≡ settings_refusal s
    unfolding form_checks former_checks settings_checks
    refused-still = sym (all-met (form_checks s) (check 4 (overlong s) ∷ check 4 (degenerate s) ∷ []) (start (settings_checks s)) (sym e))

  module _ (e : none ≡ first_met (form_checks s)) where
    at-four : Reached (former_checks s) (check 4 (overlong s) ∷ [])
    unfolding former_checks
    at-four = all-passed (form_checks s) _ (start (former_checks s)) (sym e)

    module _ {k : ℕ} (q : k ≡ by_rule s.rule 1 1 s.buckets) where
      tested : leb k s.mask ≡ overlong s
      tested = ap (λ (x : ℕ). leb x s.mask) q ∙ limit-test s.rule s.mask s.buckets

      pub is-four : k ≤ s.mask → some 4 ≡ former_refusal s
      is-four l = sym (met at-four (sym tested ∙ le-leb _ _ l))

      pub is_none : s.mask < k → none ≡ former_refusal s
      is_none l = sym (none_left (passed at-four (sym tested ∙ lt-leb _ _ l)))

    at_both : Reached (settings_checks s) (check 4 (overlong s) ∷ check 4 (degenerate s) ∷ [])
    unfolding form_checks former_checks settings_checks
    at_both = all-passed (form_checks s) (check 4 (overlong s) ∷ check 4 (degenerate s) ∷ []) (start (settings_checks s)) (sym e)

    pub range-four : (overlong s || degenerate s) ≡ true → some 4 ≡ settings_refusal s
    range-four d = go (overlong s) refl d
      where
        go : (b : Bool) → overlong s ≡ b → (b || degenerate s) ≡ true → some 4 ≡ settings_refusal s
        go true q f = sym (met at_both q)
        go false q f = sym (met (passed at_both q) f)

    pub range_none : (overlong s || degenerate s) ≡ false → none ≡ settings_refusal s
    range_none d = sym (none_left (passed (passed at_both (or-false-left (overlong s) (degenerate s) d)) (or-false-right (overlong s) (degenerate s) d)))
