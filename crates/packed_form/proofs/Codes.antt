-- A bucket's number and its four fingerprints: each gives the other back.
-- Assumes nothing.
use mathlib.Core.Path.{◌≡◌, refl, sym, ap, ◌∙◌, subst}
use mathlib.Core.Bool.{false}
use mathlib.Core.List.{[], ◌∷◌}
use Prim.Native.Nat.{ℕ, suc, ◌+◌, ◌*◌, ◌-◌, ◌/◌, ◌%◌, ◌^◌, ◌≤◌, ◌<◌}
use native.Mathlib.Nat.{mod-lt, mod-eq_of_lt, div-one, mul-suc, div-add-mod', mod-add-div}
use native.Mathlib.Omega.{arith}
use borrow.Author.Tests.{le-ltb, ltb-false}
use lib.Arith.{digits_div, digits_mod, digits_lt}
use lib.Dec.{ltb}
use lib.Pow.{pow_pos, pow-add, shr-shr, shr_mono}
use Rattle.lemmas.proofs.Bools.{or-false-left, or-false-right}
use Rattle.lemmas.proofs.Digits.{digit-below, digit-first, digit-rest, quotient-below}
use Rattle.rows.specs.Rows.{quadruple, nibble0, nibble1, nibble2, nibble3, row_of, quadruple_at, Ascends}
use Rattle.rows.proofs.Rows.{rows_right, nibbles, rejoin, below}
use Rattle.packed_form.specs.Writer.{high, low, code_of, bucket_bits}
use Rattle.packed_form.specs.Reader.{low_part, joined, bucket_from, descends}

-- one of the four fingerprints of a bucket's number
abbrev pub value : ℕ → ℕ → (ℕ → ℕ) → ℕ → ℕ
value w code nibble i = joined w (nibble (quadruple_at (code % 4096))) (low_part w code i)

-- ── width w: the low part has w − 4 bits ──
module _ (w : ℕ) (wide : 4 ≤ w) where
  abbrev N : ℕ
  N = 2 ^ (w - 4)

  some : 0 < N
  some = pow_pos (w - 4)

  width_power : 2 ^ w ≡ 16 * N
  width_power =
      let e : w ≡ 4 + (w - 4) = omega arith in
      ap (λ (k : ℕ). 2 ^ k) e ∙ pow-add 2 4 (w - 4)

  bits-power : 2 ^ bucket_bits w ≡ 4096 * (N * (N * (N * N)))
  unfolding bucket_bits
  bits-power =
      let n : ℕ = w - 4 in
      let e : 4 * (w - 1) ≡ 12 + (n + (n + (n + n))) = omega arith in
      ap (λ (k : ℕ). 2 ^ k) e ∙ pow-add 2 12 (n + (n + (n + n)))
      ∙ ap (λ (z : ℕ). 4096 * z) (pow-add 2 n (n + (n + n)) ∙ ap (λ (z : ℕ). N * z) (pow-add 2 n (n + n) ∙ ap (λ (z : ℕ). N * z) (pow-add 2 n n)))

  -- ── the four low parts of a number, one after the other ──
  -- what is left of it past i parts
  abbrev past : ℕ → ℕ → ℕ
  past code i = code / 4096 / 2 ^ ((w - 4) * i)

  past-none : (code : ℕ) → past code 0 ≡ code / 4096
  past-none code =
      let e : (w - 4) * 0 ≡ 0 = omega arith in
      rw (e, div-one (code / 4096)) refl

  past_next : (code i : ℕ) → past code i / N ≡ past code (suc i)
  past_next code i = shr-shr (code / 4096) ((w - 4) * i) (w - 4) ∙ ap (λ (k : ℕ). code / 4096 / 2 ^ k) (sym (mul-suc (w - 4) i))

  part-below : (code i : ℕ) → low_part w code i < N
  part-below code i = mod-lt (past code i) some

  -- a part ahead of what is left after it
  taken : (code i x t : ℕ) → past code i ≡ x + N * t → x < N → (low_part w code i ≡ x) × (past code (suc i) ≡ t)
  taken code i x t e h = (ap (λ (k : ℕ). k % N) e ∙ digit-first N x t h, sym (past_next code i) ∙ ap (λ (k : ℕ). k / N) e ∙ digit-rest N x t h)

  put_back : (code i : ℕ) → low_part w code i + N * past code (suc i) ≡ past code i
  put_back code i = ap (λ (k : ℕ). low_part w code i + N * k) (sym (past_next code i)) ∙ mod-add-div (past code i) N

  abbrev lows : ℕ → ℕ → ℕ → ℕ → ℕ
  lows x y z u = x + N * (y + N * (z + N * u))

  -- a number from a row and four low parts
  record Made (code r x y z u : ℕ) : Type 0 where
    below : code < 2 ^ bucket_bits w
    row : code % 4096 ≡ r
    parts : (low_part w code 0 ≡ x) × (low_part w code 1 ≡ y) × (low_part w code 2 ≡ z) × (low_part w code 3 ≡ u)

  made : (r x y z u : ℕ) → r < 4096 → x < N → y < N → z < N → u < N → Made (r + 4096 * lows x y z u) r x y z u
  made r x y z u hr hx hy hz hu =
      let code : ℕ = r + 4096 * lows x y z u in
      let none_after : u ≡ u + N * 0 = omega arith in
      let p0 = taken code 0 x (y + N * (z + N * u)) (past-none code ∙ digit-rest 4096 r (lows x y z u) hr) hx in
      let p1 = taken code 1 y (z + N * u) p0.1 hy in
      let p2 = taken code 2 z u p1.1 hz in
      let p3 = taken code 3 u 0 (p2.1 ∙ none_after) hu in
      record {
        below =
            subst (λ (k : ℕ). code < k) (sym bits-power)
            (digit-below 4096 (N * (N * (N * N))) r (lows x y z u) hr
            (digit-below N (N * (N * N)) x (y + N * (z + N * u)) hx (digit-below N (N * N) y (z + N * u) hy (digit-below N N z u hz hu))));
        row = digit-first 4096 r (lows x y z u) hr;
        parts = (p0.0, p1.0, p2.0, p3.0);
      }

  -- a number's row and low parts make it again
  remade : (code : ℕ) → code < 2 ^ bucket_bits w → code % 4096 + 4096 * lows (low_part w code 0) (low_part w code 1) (low_part w code 2) (low_part w code 3) ≡ code
  remade code h =
      let next : (i T : ℕ) → past code i < N * T → past code (suc i) < T = λ i T k. subst (λ (z : ℕ). z < T) (past_next code i) (quotient-below N T (past code i) k some) in
      let k0 : past code 0 < N * (N * (N * N)) =
      subst (λ (z : ℕ). z < N * (N * (N * N))) (sym (past-none code)) (quotient-below 4096 (N * (N * (N * N))) code (subst (λ (z : ℕ). code < z) bits-power h) (omega arith)) in
      let k3 : past code 3 < N = next 2 N (next 1 (N * N) (next 0 (N * (N * N)) k0)) in
      rw (mod-eq_of_lt k3, put_back code 2, put_back code 1, put_back code 0, past-none code) (mod-add-div code 4096)

  -- ── the bucket of a code that was made of a sorted bucket ──
  module _ (a b c d : ℕ) (asc : Ascends a b c d) (fits : d < 2 ^ w) where
    abbrev quad : ℕ
    quad = quadruple (high w a) (high w b) (high w c) (high w d)

    pub highs : Ascends (high w a) (high w b) (high w c) (high w d) × (high w d < 16)
    highs = ((shr_mono (w - 4) asc.0, shr_mono (w - 4) asc.1, shr_mono (w - 4) asc.2), quotient-below N 16 d (omega (arith, width_power)) some)

    row-known : (row_of quad < 3876) × (quadruple_at (row_of quad) ≡ quad)
    row-known = rows_right.whole (high w a) (high w b) (high w c) (high w d) highs.0 highs.1

    code-made : Made (code_of w a b c d) (row_of quad) (low w a) (low w b) (low w c) (low w d)
    unfolding code_of
    code-made = made (row_of quad) _ _ _ _ (omega (arith, row-known.0)) (mod-lt a some) (mod-lt b some) (mod-lt c some) (mod-lt d some)

    pub code_below : code_of w a b c d < 2 ^ bucket_bits w
    code_below = code-made.below

    pub code-row-below : code_of w a b c d % 4096 < 3876
    code-row-below = rw code-made.row row-known.0

    pub bucket-of-code : bucket_from w (code_of w a b c d) ≡ a ∷ b ∷ c ∷ d ∷ []
    unfolding bucket_from
    bucket-of-code =
        let row_back : quadruple_at (code_of w a b c d % 4096) ≡ quad = ap quadruple_at code-made.row ∙ row-known.1 in
        let p = code-made.parts in
        let n = nibbles (high w a) (high w b) (high w c) (high w d) (omega (arith, highs)) (omega (arith, highs)) highs.1 in
        rw (row_back, p.0, p.1, p.2, p.3, n.0, n.1, n.2, n.3, div-add-mod' a N, div-add-mod' b N, div-add-mod' c N, div-add-mod' d N) refl

  -- ── the code of a bucket that was read ──
  module _ (code : ℕ) (fits : code < 2 ^ bucket_bits w) (row : code % 4096 < 3876) where
    abbrev q : ℕ
    q = quadruple_at (code % 4096)

    value-high : (nibble : ℕ → ℕ) (i : ℕ) → high w (value w code nibble i) ≡ nibble q
    value-high nibble i = digits_div (nibble q) (part-below code i)

    value_low : (nibble : ℕ → ℕ) (i : ℕ) → low w (value w code nibble i) ≡ low_part w code i
    value_low nibble i = digits_mod (nibble q) (part-below code i)

    value-fits : (nibble : ℕ → ℕ) (i : ℕ) → nibble q < 16 → value w code nibble i < 2 ^ w
    value-fits nibble i h = subst (λ (z : ℕ). value w code nibble i < z) (sym width_power) (digits_lt h (part-below code i))

    pub code-of-bucket : code_of w (value w code nibble0 0) (value w code nibble1 1) (value w code nibble2 2) (value w code nibble3 3) ≡ code
    unfolding code_of
    code-of-bucket =
        rw (
          value-high nibble0 0,
          value-high nibble1 1,
          value-high nibble2 2,
          value-high nibble3 3,
          value_low nibble0 0,
          value_low nibble1 1,
          value_low nibble2 2,
          value_low nibble3 3,
          ← rejoin q,
          rows_right.back (code % 4096) row,
        ) (remade code fits)

    pub values-fit : (value w code nibble0 0 < 2 ^ w) × (value w code nibble1 1 < 2 ^ w) × (value w code nibble2 2 < 2 ^ w) × (value w code nibble3 3 < 2 ^ w)
    values-fit =
        let b = below q in
        (value-fits nibble0 0 (omega (arith, rows_right.small (code % 4096) row)), value-fits nibble1 1 b.0, value-fits nibble2 2 b.1, value-fits nibble3 3 b.2)

-- ── the order of a bucket ──
pub ascends-test : (a b c d : ℕ) → Ascends a b c d → descends (a ∷ b ∷ c ∷ d ∷ []) ≡ false
ascends-test a b c d h = rw (le-ltb b a h.0, le-ltb c b h.1, le-ltb d c h.2) refl

pub test-ascends : (a b c d : ℕ) → descends (a ∷ b ∷ c ∷ d ∷ []) ≡ false → Ascends a b c d
test-ascends a b c d e =
    let f = or-false-right (ltb b a) (descends (b ∷ c ∷ d ∷ [])) e in
    let g = or-false-right (ltb c b) (descends (c ∷ d ∷ [])) f in (
      ltb-false b a (or-false-left (ltb b a) (descends (b ∷ c ∷ d ∷ [])) e),
      ltb-false c b (or-false-left (ltb c b) (descends (c ∷ d ∷ [])) f),
      ltb-false d c (or-false-left (ltb d c) false g),
    )
