-- Degenerate masks: the test, what is refused, and that such settings place every entry as the plain rule does.
-- Assumes nothing.
use Rattle.std.proofs.Common.{◌≡◌, ℕ, zero, suc, ◌-◌, ◌/◌, ◌%◌, ◌^◌, ◌<◌, ◌≤◌, Bool, true, false, ◌&&◌, ◌||◌, eqb, ltb, ◌≢◌, ◌⊎◌, List, [], ◌∷◌, sym, refl, ap, ◌∙◌, ap₂}
use Rattle.std.proofs.Common.{inl, inr, mod-eq_of_lt, arith, eq-eqb, eqb-true}
use mathlib.Core.Option.{none, some}
use native.Mathlib.Decide.{ℕ_discrete}
use lib.Bits.{bit_and, bit_xor, xor_zero_r, and_zero_r, and_mask}
use Rattle.lemmas.specs.Members.{members_below, firsts}
use Rattle.lemmas.proofs.Bools.{or-true-left, or_true_right}
use Rattle.lemmas.proofs.Members.{members_alike, firsts-doubled, firsts-again, alike-doubled, alike-again}
use Rattle.refusals.specs.Checks.{Check, check}
use Rattle.refusals.specs.Laws.{Reached}
use Rattle.refusals.proofs.Cursor.{start, met, passed, none_left, all-met, all-passed, parts-passed, not-met}
use Rattle.index.specs.Settings.{by_rule, misshapen, overlong, degenerate, form_checks, former_checks, former_refusal, settings_checks, settings_refusal, unmasked, modulus}
use Rattle.index.specs.Hash.{fnv1a, tag_hash, fingerprint_of, home_of, fingerprint, home}
use Rattle.index.specs.Candidates.{offset, co_mask, candidates, candidate_set}
use Rattle.index.specs.DegenerateMasks.{SamePlaces, DegenerateLaws}
use Rattle.index.specs.declared.Settings.{Settings}
use Rattle.index.proofs.Good.{Good, former-good, modulus-xor}
use Rattle.index.proofs.Refusals.{numbered-former}
use Rattle.index.proofs.Laws.{laws-of, plain-list, masked-list, whole-mask, xor-offset}

-- ── the test ──
degenerate-test : (s : Settings) → s.rule ≤ 2 → (eqb s.rule 2 && (eqb s.mask 0 || eqb s.mask (s.buckets - 1))) ≡ degenerate s
unfolding degenerate
degenerate-test s h = go s.rule (eqb s.mask 0 || eqb s.mask (s.buckets - 1)) h
  where
    go : (r : ℕ) (x : Bool) → r ≤ 2 → (eqb r 2 && x) ≡ by_rule r false false x
    go zero x h = refl
    go (suc zero) x h = refl
    go (suc (suc zero)) x h = refl
    go (suc (suc (suc r))) x h = absurd (omega arith)

-- ── what is refused ──
module _ (s : Settings) where
  module _ (e : former_refusal s ≡ none) where
    G : Good s
    G = former-good s e

    idle : degenerate s ≡ true → (s.rule ≡ 2) × ((s.mask ≡ 0) ⊎ (s.mask ≡ s.buckets - 1))
    idle d = go (eqb s.rule 2) refl (eqb s.mask 0) refl (eqb s.mask (s.buckets - 1)) refl (degenerate-test s G.rule ∙ d)
      where
        go : (a : Bool) → eqb s.rule 2 ≡ a → (b : Bool) → eqb s.mask 0 ≡ b → (c : Bool) → eqb s.mask (s.buckets - 1) ≡ c → (a && (b || c)) ≡ true
            → (s.rule ≡ 2) × ((s.mask ≡ 0) ⊎ (s.mask ≡ s.buckets - 1))
        go true r true m c k f = (eqb-true s.rule 2 r, inl (eqb-true s.mask 0 m))
        go true r false m true k f = (eqb-true s.rule 2 r, inr (eqb-true s.mask (s.buckets - 1) k))
        go true r false m false k f = absurd (let z : ◌≡◌ {A = ℕ} 0 1 = cc in omega arith)
        go false r b m c k f = absurd (let z : ◌≡◌ {A = ℕ} 0 1 = cc in omega arith)

    idle-of : s.rule ≡ 2 → (s.mask ≡ 0) ⊎ (s.mask ≡ s.buckets - 1) → degenerate s ≡ true
    idle-of r (inl m) = sym (degenerate-test s G.rule) ∙ ap₂ ◌&&◌ (eq-eqb s.rule 2 r) (or-true-left (eqb s.mask 0) _ (eq-eqb s.mask 0 m))
    idle-of r (inr m) = sym (degenerate-test s G.rule) ∙ ap₂ ◌&&◌ (eq-eqb s.rule 2 r) (or_true_right (eqb s.mask 0) _ (eq-eqb s.mask (s.buckets - 1) m))

    -- the place behind the former checks
    reached : Reached (settings_checks s) (check 4 (degenerate s) ∷ [])
    unfolding settings_checks
    reached = all-passed (former_checks s) _ (start (settings_checks s)) e

    four : degenerate s ≡ true → settings_refusal s ≡ some 4
    four d = met reached d

    small : s.rule ≡ 2 → s.buckets ≤ 2 → settings_refusal s ≡ some 4
    small r h = four (idle-of r (elim (ℕ_discrete s.mask 0) [
      | yes z ↦ inl z
      | no n ↦ inr (omega (arith, G.mask (λ z. omega arith) (λ z. omega arith)))
    ]))

    -- ── under the plain rule ──
    module _ (d : degenerate s ≡ true) where
      not_plain : s.rule ≢ 0
      not_plain z = omega (arith, (idle d).0)

      not-ring : s.rule ≢ 1
      not-ring z = omega (arith, (idle d).0)

      plain : settings_refusal (unmasked s) ≡ none
      unfolding settings_checks form_checks former_checks degenerate
      plain =
          let shape : misshapen s ≡ misshapen (unmasked s) = rw (idle d).0 refl in
          let counted : Bool → Bool = λ b. eqb s.buckets 0 || ltb 65536 s.buckets || b in
          let fourth : List Check = check 4 (overlong s) ∷ [] in
          let third : List Check = check 3 (counted (misshapen s)) ∷ fourth in
          let second : List Check = check 2 (ltb s.width 4 || ltb 16 s.width) ∷ third in
          let one = not-met (check 1 (ltb 2 s.rule)) second e in
          let two = not-met (check 2 (ltb s.width 4 || ltb 16 s.width)) third one.1 in
          let three = not-met (check 3 (counted (misshapen s))) fourth two.1 in
          none_left (passed (passed (passed (passed (passed (start (settings_checks (unmasked s))) refl) two.0) (sym (ap counted shape) ∙ three.0)) refl) refl)

      same-modulus : modulus s ≡ modulus (unmasked s)
      same-modulus = modulus-xor s not-ring ∙ sym (modulus-xor (unmasked s) (λ z. omega arith))

      same-print : (tag : List ℕ) → fingerprint s tag ≡ fingerprint (unmasked s) tag
      unfolding fingerprint fingerprint_of
      same-print tag = refl

      same_home : (tag : List ℕ) → home s tag ≡ home (unmasked s) tag
      unfolding home home_of
      same_home tag = ap (λ (m : ℕ). tag_hash s.salt tag / 2 ^ 32 % m) same-modulus

      same-offset : (p : ℕ) → offset s p ≡ offset (unmasked s) p
      unfolding offset
      same-offset p = ap (λ (m : ℕ). fnv1a (p % 256 ∷ p / 256 ∷ []) % m) same-modulus

      -- a mask of no bit takes none of an offset, one of every bit the whole
      module _ (p : ℕ) where
        abbrev D : ℕ
        D = offset s p

        whole : (m : ℕ) → m ≡ s.buckets - 1 → bit_and D m ≡ D
        whole m q =
            let k = G.power not-ring in
            let low : D < 2 ^ k.0 = omega (arith, xor-offset s G p not-ring, k.1) in
            ap (bit_and D) (q ∙ ap (λ (n : ℕ). n - 1) k.1) ∙ and_mask D k.0 ∙ mod-eq_of_lt low

        nothing : (m : ℕ) → m ≡ 0 → bit_and D m ≡ 0
        nothing m q = ap (bit_and D) q ∙ and_zero_r D

        module _ (b : ℕ) where
          abbrev x : ℕ
          x = bit_xor b D

          abbrev masked : ℕ → ℕ → List ℕ
          masked i j = b ∷ bit_xor b i ∷ bit_xor b j ∷ x ∷ []

          plainly : candidates (unmasked s) p b ≡ b ∷ x ∷ []
          plainly = plain-list (unmasked s) p b refl ∙ ap (λ (i : ℕ). b ∷ bit_xor b i ∷ []) (sym (same-offset p))

          listed : candidates s p b ≡ masked (bit_and D s.mask) (bit_and D (co_mask s))
          listed = masked-list s p b not_plain not-ring

          -- the bucket and its other one, each twice
          of_none : s.mask ≡ 0 → candidates s p b ≡ b ∷ b ∷ x ∷ x ∷ []
          of_none m =
              let r : co_mask s ≡ s.buckets - 1 = omega (arith, whole-mask s (G.mask not_plain not-ring)) in
              listed ∙ ap₂ masked (nothing s.mask m) (whole (co_mask s) r) ∙ ap (λ (i : ℕ). b ∷ i ∷ x ∷ x ∷ []) (xor_zero_r b)

          of-all : s.mask ≡ s.buckets - 1 → candidates s p b ≡ b ∷ x ∷ b ∷ x ∷ []
          of-all m =
              let r : co_mask s ≡ 0 = omega (arith, whole-mask s (G.mask not_plain not-ring)) in
              listed ∙ ap₂ masked (whole s.mask m) (nothing (co_mask s) r) ∙ ap (λ (i : ℕ). b ∷ x ∷ i ∷ x ∷ []) (xor_zero_r b)

          same_once : firsts (candidates s p b) ≡ firsts (candidates (unmasked s) p b)
          same_once = elim (idle d).1 [
            | inl m ↦ ap firsts (of_none m) ∙ firsts-doubled b x ∙ sym (ap firsts plainly)
            | inr m ↦ ap firsts (of-all m) ∙ firsts-again b x ∙ sym (ap firsts plainly)
          ]

          same_set : candidate_set s p b ≡ candidate_set (unmasked s) p b
          unfolding candidate_set
          same_set = elim (idle d).1 [
            | inl m ↦ ap (members_below s.buckets) (of_none m) ∙ members_alike s.buckets _ _ (alike-doubled b x) ∙ sym (ap (members_below s.buckets) plainly)
            | inr m ↦ ap (members_below s.buckets) (of-all m) ∙ members_alike s.buckets _ _ (alike-again b x) ∙ sym (ap (members_below s.buckets) plainly)
          ]

      places : SamePlaces s (unmasked s)
      places = record { buckets = refl; print = same-print; home = same_home; once = same_once; set = same_set }

  passes-parts : settings_refusal s ≡ none → (former_refusal s ≡ none) × (degenerate s ≡ false)
  unfolding settings_checks
  passes-parts e = let r = parts-passed (former_checks s) _ e in (r.0, (not-met (check 4 (degenerate s)) [] r.1).0)

  before : (n : ℕ) → former_refusal s ≡ some n → settings_refusal s ≡ some n
  unfolding settings_checks
  before n e = all-met (former_checks s) _ (start (settings_checks s)) e

  pub degenerate-laws : DegenerateLaws s
  degenerate-laws = record {
    means = λ e. (idle e, λ h. idle-of e h.0 h.1);
    passes = (passes-parts, λ h. none_left (passed (reached h.0) h.1));
    four = four;
    small = small;
    before = before;
    numbered = numbered-former s;
    laws = λ e. laws-of s (G e);
    plain = plain;
    places = places;
  }
