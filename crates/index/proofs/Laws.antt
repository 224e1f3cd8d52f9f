-- The index layer keeps its laws, under every rule, at all settings that pass their checks.
-- Assumes nothing.
use Rattle.std.proofs.Common.{◌≡◌, ℕ, zero, suc, ◌+◌, ◌-◌, ◌*◌, ◌/◌, ◌%◌, ◌^◌, ◌<◌, ◌≢◌, ◌⊎◌, List, [], ◌∷◌, map, length, sym, refl, ap, ◌∙◌, inl, inr, lt_of_lt_of_le}
use Rattle.std.proofs.Common.{lt_of_le_of_lt, mod-lt, arith}
use mathlib.Core.Option.{none}
use native.Mathlib.Decide.{ℕ_discrete}
use lib.Bits.{bit_and, bit_xor, xor_zero_r, xor_comm, xor_lt, and_le_l}
use Rattle.lemmas.specs.Count.{◌among◌}
use Rattle.lemmas.specs.Members.{Alike}
use Rattle.lemmas.proofs.Count.{hit-cases, among-cons, among-nil}
use Rattle.lemmas.proofs.Members.{alike_refl, members_alike, into-members, from-members, members-ascend}
use Rattle.lemmas.proofs.Bits.{xor_assoc, xor-back, mask-parts}
use Rattle.index.specs.Settings.{by_rule, settings_refusal, half, modulus}
use Rattle.index.specs.Hash.{fnv1a, tag_hash, lower_half, fingerprint_of, home_of, fingerprint, home}
use Rattle.index.specs.Candidates.{offset, across, co_mask, xor_steps, others_by, others, candidates, candidate_set, class_at, class_of}
use Rattle.index.specs.Laws.{Laws}
use Rattle.index.specs.declared.Settings.{Settings}
use Rattle.index.proofs.Good.{Good, good, some-prints, by-masked, by-xor, modulus-below, modulus-ring, modulus-xor}
use Rattle.index.proofs.Cosets.{Closed, step_of, coset, plain_closed, masked-closed}
use Rattle.index.proofs.Ring.{across-below, across-back, pair-alike}

-- ── the candidates by rule, as the arguments on cosets and pairs take them ──
steps-plain : (s : Settings) (d : ℕ) → s.rule ≡ 0 → xor_steps s d ≡ d ∷ []
unfolding xor_steps
steps-plain s d e = rw e

steps-masked : (s : Settings) (d : ℕ) → s.rule ≢ 0 → s.rule ≢ 1 → xor_steps s d ≡ bit_and d s.mask ∷ bit_and d (co_mask s) ∷ d ∷ []
unfolding xor_steps
steps-masked s d n m = by-masked s.rule _ _ _ n m

xor-list : (s : Settings) (p b : ℕ) → s.rule ≢ 1 → candidates s p b ≡ map (bit_xor b) (0 ∷ xor_steps s (offset s p))
unfolding candidates others others_by
xor-list s p b n = rw (xor_zero_r b) (ap (λ (l : List ℕ). b ∷ l) (by-xor s.rule _ _ n))

-- the candidates of each rule, written out
pub plain-list : (s : Settings) (p b : ℕ) → s.rule ≡ 0 → candidates s p b ≡ b ∷ bit_xor b (offset s p) ∷ []
plain-list s p b e = rw (xor-list s p b (λ z. omega arith), steps-plain s (offset s p) e, xor_zero_r b)

pub masked-list : (s : Settings) (p b : ℕ) → s.rule ≢ 0 → s.rule ≢ 1
    → candidates s p b ≡ b ∷ bit_xor b (bit_and (offset s p) s.mask) ∷ bit_xor b (bit_and (offset s p) (co_mask s)) ∷ bit_xor b (offset s p) ∷ []
masked-list s p b n m = rw (xor-list s p b m, steps-masked s (offset s p) n m, xor_zero_r b)

pub ring-list : (s : Settings) (p b : ℕ) → s.rule ≡ 1 → candidates s p b ≡ b ∷ across (s.buckets / 2) (offset s p) b ∷ []
unfolding candidates others others_by half
ring-list s p b e = rw e

-- a mask and its complement have every bit of a bucket number, and none twice
pub whole-mask : (s : Settings) → s.mask < s.buckets → s.mask + co_mask s + 1 ≡ s.buckets
unfolding co_mask
whole-mask s h = omega arith

-- four candidates under the masked rule, two under the others
fan : ℕ → ℕ
fan r = by_rule r 2 2 4

two-or-four : (r : ℕ) → (fan r ≡ 2) ⊎ (fan r ≡ 4)
unfolding fan
two-or-four zero = inl refl
two-or-four (suc zero) = inl refl
two-or-four (suc (suc r)) = inr refl

module _ (s : Settings) (G : Good s) where
  offset-below : (p : ℕ) → offset s p < modulus s
  unfolding offset
  offset-below p = mod-lt (fnv1a (p % 256 ∷ p / 256 ∷ [])) (modulus-below s G).0

  -- ── the XOR rules ──
  module _ (n : s.rule ≢ 1) (d : ℕ) (hd : d < s.buckets) where
    parts : s.rule ≢ 0 → bit_xor (bit_and d s.mask) (bit_and d (co_mask s)) ≡ d
    parts m =
        let k = G.power n in
        let low = G.mask m n in
        let e : co_mask s ≡ 2 ^ k.0 - 1 - s.mask = omega (arith, whole-mask s low, k.1) in
        rw e (mask-parts k.0 d s.mask (rw k.1 at hd) (rw k.1 at low))

    steps-closed : Closed (0 ∷ xor_steps s d)
    steps-closed = elim (ℕ_discrete s.rule 0) [
      | yes e ↦ rw (steps-plain s d e) (plain_closed d)
      | no m ↦ rw (steps-masked s d m n) (masked-closed (bit_and d s.mask) (bit_and d (co_mask s)) d (parts m))
    ]

    steps-below : (e : ℕ) → e among 0 ∷ xor_steps s d → e < s.buckets
    steps-below = elim (ℕ_discrete s.rule 0) [
      | yes q ↦ rw (steps-plain s d q) (among-cons (λ x. x < s.buckets) 0 (d ∷ []) G.some_bucket (one d hd))
      | no m ↦ rw (steps-masked s d m n)
          (among-cons (λ x. x < s.buckets) 0 (bit_and d s.mask ∷ bit_and d (co_mask s) ∷ d ∷ []) G.some_bucket
          (among-cons (λ x. x < s.buckets) (bit_and d s.mask) (bit_and d (co_mask s) ∷ d ∷ []) (lt_of_le_of_lt (and_le_l d s.mask) hd)
          (among-cons (λ x. x < s.buckets) (bit_and d (co_mask s)) (d ∷ []) (lt_of_le_of_lt (and_le_l d (co_mask s)) hd) (one d hd))))
    ]
      where
        one : (d : ℕ) → d < s.buckets → (e : ℕ) → e among d ∷ [] → e < s.buckets
        one d hd = among-cons (λ x. x < s.buckets) d [] hd (among-nil (λ x. x < s.buckets))

  pub xor-offset : (p : ℕ) → s.rule ≢ 1 → offset s p < s.buckets
  xor-offset p n = rw (modulus-xor s n) at (offset-below p)

  -- what the mask's complement takes of an offset is the offset without what the mask takes
  pub third-step : (p b : ℕ) → s.rule ≢ 0 → s.rule ≢ 1
      → bit_xor (bit_xor b (offset s p)) (bit_and (offset s p) s.mask) ≡ bit_xor b (bit_and (offset s p) (co_mask s))
  third-step p b m n =
      let d = offset s p in
      let e = bit_and d s.mask in
      let f = bit_and d (co_mask s) in
      xor_assoc b d e ∙ ap (bit_xor b) (xor_comm d e ∙ ap (bit_xor e) (sym (parts n d (xor-offset p n) m)) ∙ xor-back e f)

  xor-inside : (b e : ℕ) → s.rule ≢ 1 → b < s.buckets → e < s.buckets → bit_xor b e < s.buckets
  xor-inside b e n hb he = let k = G.power n in rw k.1 (xor_lt k.0 b e (rw k.1 at hb) (rw k.1 at he))

  xor_below : (p b x : ℕ) → s.rule ≢ 1 → b < s.buckets → x among map (bit_xor b) (0 ∷ xor_steps s (offset s p)) → x < s.buckets
  xor_below p b x n hb h =
      let t = step_of b (0 ∷ xor_steps s (offset s p)) x h in
      rw t.2 (xor-inside b t.0 n hb (steps-below n (offset s p) (xor-offset p n) t.0 t.1))

  xor-alike : (p b x : ℕ) → s.rule ≢ 1 → x among candidates s p b → Alike (candidates s p x) (candidates s p b)
  xor-alike p b x n h =
      rw (xor-list s p x n, xor-list s p b n)
      (coset (0 ∷ xor_steps s (offset s p)) (steps-closed n (offset s p) (xor-offset p n)) b x (rw (xor-list s p b n) at h))

  -- ── the ring ──
  module _ (e : s.rule ≡ 1) (p : ℕ) where
    pub ring-offset : offset s p < s.buckets / 2
    ring-offset = rw (modulus-ring s e) at (offset-below p)

    whole : (b : ℕ) → b < s.buckets → b < 2 * (s.buckets / 2)
    whole b h = omega (arith, G.even e)

    ring-below : (b : ℕ) → b < s.buckets → across (s.buckets / 2) (offset s p) b < s.buckets
    ring-below b h = omega (arith, across-below (s.buckets / 2) (offset s p) b ring-offset (whole b h), G.even e)

    ring-pair : (b x : ℕ) → b < s.buckets → x among b ∷ across (s.buckets / 2) (offset s p) b ∷ [] → (x ≡ b) ⊎ (x ≡ across (s.buckets / 2) (offset s p) b)
    ring-pair b x hb h = elim (hit-cases x b) [
      | inl q ↦ inl q
      | inr z ↦ elim (hit-cases x (across (s.buckets / 2) (offset s p) b)) [ inl q ↦ inr q | inr w ↦ absurd (omega arith) ]
    ]

    ring-alike : (b x : ℕ) → b < s.buckets → x among candidates s p b → Alike (candidates s p x) (candidates s p b)
    ring-alike b x hb h = elim (ring-pair b x hb (rw (ring-list s p b e) at h)) [
      | inl q ↦ rw q (alike_refl (candidates s p b))
      | inr q ↦ rw (q, ring-list s p (across (s.buckets / 2) (offset s p) b) e, ring-list s p b e, across-back (s.buckets / 2) (offset s p) b ring-offset (whole b hb))
          (pair-alike b (across (s.buckets / 2) (offset s p) b))
    ]

  -- ── both ──
  below : (p b x : ℕ) → b < s.buckets → x among candidates s p b → x < s.buckets
  below p b x hb h = elim (ℕ_discrete s.rule 1) [
    | yes e ↦ elim (ring-pair e p b x hb (rw (ring-list s p b e) at h)) [ inl q ↦ rw q hb | inr q ↦ rw q (ring-below e p b hb) ]
    | no n ↦ xor_below p b x n hb (rw (xor-list s p b n) at h)
  ]

  alike : (p b x : ℕ) → b < s.buckets → x among candidates s p b → Alike (candidates s p x) (candidates s p b)
  alike p b x hb h = elim (ℕ_discrete s.rule 1) [ yes e ↦ ring-alike e p b x hb h | no n ↦ xor-alike p b x n h ]

  count-is : (p b : ℕ) → length (candidates s p b) ≡ fan s.rule
  unfolding fan
  count-is p b = elim (ℕ_discrete s.rule 1) [
    | yes e ↦ rw (ring-list s p b e, e) refl
    | no n ↦ elim (ℕ_discrete s.rule 0) [
      | yes e ↦ rw (xor-list s p b n, steps-plain s (offset s p) e, e) refl
      | no m ↦ rw (xor-list s p b n, steps-masked s (offset s p) m n, by-masked {A = ℕ} s.rule 2 2 4 m n) refl
    ]
  ]

  -- ── tags ──
  filled : (h : ℕ) → fingerprint_of s h ≢ 0
  unfolding fingerprint_of
  filled h e = omega arith

  fits : (h : ℕ) → fingerprint_of s h < 2 ^ s.width
  unfolding fingerprint_of
  fits h = omega (arith, mod-lt (lower_half h) (some-prints G))

  mask_low : s.mask < s.buckets
  mask_low = elim (ℕ_discrete s.rule 2) [
    | yes e ↦ G.mask (λ z. omega arith) (λ z. omega arith)
    | no n ↦ omega (arith, G.no_mask n, G.some_bucket)
  ]

  pub laws-of : Laws s
  unfolding candidates candidate_set fingerprint home home_of class_at class_of
  laws-of = record {
    rule_high = G.rule;
    no_mask = G.no_mask;
    mask_below = mask_low;
    some_bucket = G.some_bucket;
    few_buckets = G.few_buckets;
    width_low = G.width_low;
    width_high = G.width_high;
    first = λ p b. refl;
    count = λ p b. rw (count-is p b) (two-or-four s.rule);
    same_count = λ p b q a. count-is p b ∙ sym (count-is q a);
    below = below;
    same_set = λ p b x hb h. members_alike s.buckets (candidates s p x) (candidates s p b) (alike p b x hb h);
    members = λ p b x hb. (from-members s.buckets (candidates s p b) x, λ h. into-members s.buckets (candidates s p b) x (below p b x hb h) h);
    ascends = λ p b. members-ascend s.buckets (candidates s p b);
    print_filled = λ tag. filled (tag_hash s.salt tag);
    print_fits = λ tag. fits (tag_hash s.salt tag);
    home_below = λ tag. lt_of_lt_of_le (mod-lt (tag_hash s.salt tag / 2 ^ 32) (modulus-below s G).0) (modulus-below s G).1;
    class_print = λ p b. refl;
    class_set = λ p b. refl;
    class_tag = λ tag. refl;
  }

pub laws : (s : Settings) → settings_refusal s ≡ none → Laws s
laws s e = laws-of s (good s e)
