-- Words: what the code's shifts, masks and parts of 16 bits come to in quotients, remainders and sums.
-- Assumes nothing.
use mathlib.Core.Path.{◌≡◌, refl, sym, ap, ap₂, ◌∙◌, subst}
use mathlib.Core.List.{List, [], ◌∷◌}
use Prim.Native.Nat.{ℕ, ◌+◌, ◌*◌, ◌-◌, ◌/◌, ◌%◌, ◌^◌, ◌≤◌, ◌<◌}
use native.Mathlib.Nat.{mod-lt, mod-eq_of_lt, div-one, mul_comm, mul_assoc, mul-add, add-mul, mul_right_comm, mul-le-mul_right, lt_of_lt_of_le, div-add-mod', div-eq_of_eq-mul_right}
use native.Mathlib.Omega.{arith}
use lib.Bits.{bit_and, and_mask, and_block, and_high, and_le_l}
use lib.ListN.{get_or}
use lib.Pow.{pow_pos, pow_mono, pow-add, shl_exact, shr-shr, field, mod-mod-pow}
use Rattle.lemmas.proofs.Digits.{digit-first, digit-rest}
use Rattle.lemmas.proofs.Powers.{one_shifted}
use Rattle.rows.specs.Rows.{rows, quadruple_at, Ascends, rank_of}
use Rattle.rows.proofs.Rank.{rank-is-row}
use Rattle.rows.proofs.Rows.{rows_right}
use Rattle.packed_form.specs.Writer.{high, low, code_of}
use Rattle.packed_form.specs.Reader.{bucket_from}
use Rattle.packed_form.proofs.Laws.{packed-laws}
use Rattle.packed.specs.Internal.{Allowed}

-- ── shifts and masks ──
pub masked : (x k : ℕ) → k < 64 → bit_and x (1 * 2 ^ k % 2 ^ 64 - 1) ≡ x % 2 ^ k
masked x k h = ap (λ (z : ℕ). bit_and x (z - 1)) (one_shifted k 64 h) ∙ and_mask x k

few_bits : (n : ℕ) → n ≤ 12 → 2 ^ n ≤ 4096
few_bits n h = pow_mono {j = 12} h

-- x with n bits below it
module _ (x n v : ℕ) (hx : x < 2 ^ 36) (hn : n ≤ 12) where
  pub above-is : x * 2 ^ n % 2 ^ 64 + v % 2 ^ n ≡ v % 2 ^ n + 2 ^ n * x
  above-is = omega (arith, shl_exact {a = x} 36 n 64 hx (omega arith), mul_comm x (2 ^ n))

  pub above-fits : x * 2 ^ n % 2 ^ 64 + v % 2 ^ n < 2 ^ 64
  above-fits = omega (arith, above-is, few_bits n hn, mul-le-mul_right x (few_bits n hn), mod-lt v (pow_pos n))

-- ── the code of a sorted bucket ──
module _ {w : ℕ} (W : Allowed w) where
  abbrev N : ℕ
  N = 2 ^ (w - 4)

  abbrev part : ℕ → ℕ
  part v = low w v

  part-few : N ≤ 4096
  part-few = few_bits (w - 4) (omega (arith, W.high))

  pub part-below : (v : ℕ) → part v < N
  part-below v = mod-lt v (pow_pos (w - 4))

  -- what stands above a low part, however many there are of them
  grown : (v t K : ℕ) → t < K → part v + N * t < 4096 * K
  grown v t K k = omega (arith, part-below v, part-few, mul-le-mul_right t part-few)

  module _ (a b c d : ℕ) {one : ℕ} (e1 : one ≡ part d + N * 0) where
    one-is : one ≡ part d
    one-is = omega arith

    few-one : one < 4096
    few-one = omega (arith, one-is, part-below d, part-few)

    module _ {two : ℕ} (e2 : two ≡ part c + N * one) where
      module _ {three : ℕ} (e3 : three ≡ part b + N * two) where
        pub three-below : three < 2 ^ 36
        three-below = rw e3 (grown b two (2 ^ 24) (rw e2 (grown c one 4096 few-one)))

        module _ {four : ℕ} (e4 : four ≡ part a + N * three) where
          pub four_below : four < 2 ^ 48
          four_below = rw e4 (grown a three (2 ^ 36) three-below)

          pub code_is : Ascends a b c d → d < 2 ^ w → {row : ℕ} → row ≡ rank_of (high w a) (high w b) (high w c) (high w d) → four * 4096 + row ≡ code_of w a b c d
          unfolding code_of
          code_is h k e =
              let q = packed-laws.highs w W.low a b c d h k in
              rw (e4, e3, e2, one-is, e, rank-is-row _ _ _ _ q.0 q.1) (omega arith)

-- ── four parts of 16 bits ──
abbrev lanes : ℕ → ℕ → ℕ → ℕ → ℕ
lanes a b c d = a + 65536 * (b + 65536 * (c + 65536 * d))

-- four fields of n bits, moved apart in two steps
module _ (n x : ℕ) (few : n ≤ 12) where
  abbrev size : ℕ
  size = 2 ^ n

  abbrev x0 : ℕ
  x0 = x % 2 ^ (n * 2)

  abbrev x1 : ℕ
  x1 = x / 2 ^ (n * 2) % 2 ^ (n * 2)

  abbrev pairs : ℕ
  pairs = x0 + x1 * 4294967296

  abbrev lower : ℕ
  lower = bit_and pairs ((1 * 2 ^ n % 2 ^ 64 - 1) * 4294967297)

  small : (y : ℕ) → y % 2 ^ (n * 2) < 16777216
  small y = lt_of_lt_of_le (mod-lt y (pow_pos (n * 2))) (pow_mono {j = 24} (omega arith))

  pairs-are : pairs ≡ x1 * 4294967296 + x0
  pairs-are = omega arith

  lower-is : lower ≡ x1 % size * 4294967296 + x0 % size
  lower-is =
      let m : ℕ = size - 1 in
      let e : (1 * 2 ^ n % 2 ^ 64 - 1) * 4294967297 ≡ m * 4294967296 + m = omega (arith, one_shifted n 64 (omega arith)) in
      ap₂ bit_and pairs-are e
      ∙ and_block 32 x1 m x0 m (omega (arith, small x)) (omega (arith, few_bits n few))
      ∙ ap₂ (λ (a b : ℕ). a * 4294967296 + b) (and_mask x1 n) (and_mask x0 n)

  pub lower-within : lower ≤ pairs
  lower-within = and_le_l pairs ((1 * 2 ^ n % 2 ^ 64 - 1) * 4294967297)

  abbrev upper : ℕ
  upper = x1 / size * 4294967296 + x0 / size

  upper_is : pairs - lower ≡ upper * size
  upper_is =
      let a : ℕ = x1 / size in
      let b : ℕ = x0 / size in
      let f : upper * size ≡ a * size * 4294967296 + b * size = add-mul (a * 4294967296) b size ∙ ap (λ (z : ℕ). z + b * size) (mul_right_comm a 4294967296 size) in
      omega (arith, pairs-are, lower-is, div-add-mod' x1 size, div-add-mod' x0 size)

  twice : n * 2 ≡ n + n
  twice = omega arith

  low_of : (y : ℕ) → y % 2 ^ (n * 2) % size ≡ y % size
  low_of y = ap (λ (k : ℕ). y % 2 ^ k % size) twice ∙ mod-mod-pow y n n

  high-of : (y : ℕ) → y % 2 ^ (n * 2) / size ≡ y / size % size
  high-of y = ap (λ (k : ℕ). y % 2 ^ k / size) twice ∙ field y n n

  high_small : (y : ℕ) → y % 2 ^ (n * 2) / size < 4096
  high_small y = lt_of_lt_of_le (subst (λ (z : ℕ). z < size) (sym (high-of y)) (mod-lt (y / size) (pow_pos n))) (few_bits n few)

  moved : (pairs - lower) * 2 ^ (16 - n) % 2 ^ 64 ≡ upper * 65536
  moved =
      let e : n + (16 - n) ≡ 16 = omega arith in
      let f : size * 2 ^ (16 - n) ≡ 65536 = sym (pow-add 2 n (16 - n)) ∙ ap (λ (k : ℕ). 2 ^ k) e in
      let g : (pairs - lower) * 2 ^ (16 - n) ≡ upper * 65536 = ap (λ (z : ℕ). z * 2 ^ (16 - n)) upper_is ∙ mul_assoc upper size (2 ^ (16 - n)) ∙ ap (λ (z : ℕ). upper * z) f in
      ap (λ (z : ℕ). z % 2 ^ 64) g ∙ mod-eq_of_lt (omega (arith, high_small x, high_small (x / 2 ^ (n * 2))))

  pub sum_fits : lower + (pairs - lower) * 2 ^ (16 - n) % 2 ^ 64 < 2 ^ 64
  sum_fits = omega (arith, moved, lower-within, pairs-are, small x, small (x / 2 ^ (n * 2)), high_small x, high_small (x / 2 ^ (n * 2)))

  pub fields-are : lower + (pairs - lower) * 2 ^ (16 - n) % 2 ^ 64 ≡ lanes (x % size) (x / size % size) (x / 2 ^ (n * 2) % size) (x / 2 ^ (n * 3) % size)
  fields-are =
      let e : n * 2 + n ≡ n * 3 = omega arith in
      let h3 : x1 / size ≡ x / 2 ^ (n * 3) % size = high-of (x / 2 ^ (n * 2)) ∙ ap (λ (z : ℕ). z % size) (shr-shr x (n * 2) n ∙ ap (λ (k : ℕ). x / 2 ^ k) e) in
      omega (arith, moved, lower-is, low_of x, high-of x, low_of (x / 2 ^ (n * 2)), h3)

-- ── the nibbles of a quadruple ──
four-masked : (a b c d : ℕ) → a < 65536 → b < 65536 → c < 65536
    → bit_and (((d * 65536 + c) * 65536 + b) * 65536 + a) 17294086455919964160 ≡ ((bit_and d 61440 * 65536 + bit_and c 61440) * 65536 + bit_and b 61440) * 65536 + bit_and a 61440
four-masked a b c d ha hb hc =
    and_block 16 ((d * 65536 + c) * 65536 + b) 263886817259520 a 61440 ha (omega arith)
    ∙ ap (λ (z : ℕ). z * 65536 + bit_and a 61440)
    (and_block 16 (d * 65536 + c) 4026593280 b 61440 hb (omega arith)
    ∙ ap (λ (z : ℕ). z * 65536 + bit_and b 61440) (and_block 16 d 61440 c 61440 hc (omega arith)))

-- the nibble on top of each of the four parts
top-first : (q : ℕ) → q < 65536 → q / 4096 % 16 ≡ q / 4096
top-first q h = omega arith

top-second : (q : ℕ) → q * 16 % 65536 / 4096 % 16 ≡ q / 256 % 16
top-second q = omega arith

top-third : (q : ℕ) → q < 65536 → (q / 4096 + q % 256 * 256) / 4096 % 16 ≡ q / 16 % 16
top-third q h =
    let e : q % 256 ≡ q / 16 % 16 * 16 + q % 16 = omega arith in
    ap (λ (r : ℕ). (q / 4096 + r * 256) / 4096 % 16) e ∙ over (q / 4096) (q / 16 % 16) (q % 16) (omega arith) (omega arith) (omega arith)
  where
    over : (a u v : ℕ) → a < 16 → u < 16 → v < 16 → (a + (u * 16 + v) * 256) / 4096 % 16 ≡ u
    over a u v ha hu hv = omega arith

top-last : (q : ℕ) → q < 65536 → (q / 256 + q % 16 * 4096) / 4096 % 16 ≡ q % 16
top-last q h = over (q / 256) (q % 16) (omega arith) (omega arith)
  where
    over : (a d : ℕ) → a < 4096 → d < 16 → (a + d * 4096) / 4096 % 16 ≡ d
    over a d ha hd = omega arith

side_by_side : (a b c d : ℕ) → ((d * 4096 * 65536 + c * 4096) * 65536 + b * 4096) * 65536 + a * 4096 ≡ 4096 * lanes a b c d
side_by_side a b c d = omega arith

pub nibbles-are : (q : ℕ) → q < 65536 → bit_and (q * 1099512676353 + q * 2 ^ 60 % 2 ^ 64) 17294086455919964160 ≡ 4096 * lanes (q / 4096) (q / 256 % 16) (q / 16 % 16) (q % 16)
nibbles-are q h =
    let b : ℕ = q * 16 % 65536 in
    let c : ℕ = q / 4096 + q % 256 * 256 in
    let d : ℕ = q / 256 + q % 16 * 4096 in
    let top : q * 2 ^ 60 % 2 ^ 64 ≡ q % 16 * 1152921504606846976 = omega arith in
    let e : q * 1099512676353 + q * 2 ^ 60 % 2 ^ 64 ≡ ((d * 65536 + c) * 65536 + b) * 65536 + q = omega (arith, top) in
    ap (λ (z : ℕ). bit_and z 17294086455919964160) e ∙ four-masked q b c d h (omega arith) (omega arith)
    ∙ rw (and_high q 4 12, and_high b 4 12, and_high c 4 12, and_high d 4 12, top-first q h, top-second q, top-third q h, top-last q h)
    (side_by_side (q / 4096) (q / 256 % 16) (q / 16 % 16) (q % 16))

-- ── a bucket from its number ──
-- what the word of the nibbles comes to once it is moved to its place
lane_times : (p a k : ℕ) → p * (a + 65536 * k) ≡ a * p + 65536 * (p * k)
lane_times p a k = mul-add p a (65536 * k) ∙ ap₂ ◌+◌ (mul_comm p a) (sym (mul_assoc p 65536 k) ∙ ap (λ (z : ℕ). z * k) (mul_comm p 65536) ∙ mul_assoc 65536 p k)

lanes-times : (p a b c d : ℕ) → p * lanes a b c d ≡ lanes (a * p) (b * p) (c * p) (d * p)
lanes-times p a b c d = omega (arith, lane_times p a (b + 65536 * (c + 65536 * d)), lane_times p b (c + 65536 * d), lane_times p c d, mul_comm p d)

-- a word that has four cells side by side
pub record FourIn (word : ℕ) (four : List ℕ) : Type 0 where
  pub fits : word < 2 ^ 64
  pub top : word / 281474976710656 < 65536
  pub apart : word % 65536 ∷ word / 65536 % 65536 ∷ word / 4294967296 % 65536 ∷ word / 281474976710656 ∷ [] ≡ four

lanes-have : (a b c d : ℕ) → a < 65536 → b < 65536 → c < 65536 → d < 65536 → FourIn (lanes a b c d) (a ∷ b ∷ c ∷ d ∷ [])
lanes-have a b c d ha hb hc hd =
    let all : ℕ = lanes a b c d in
    let fits : all < 2 ^ 64 = omega arith in
    let k : ℕ = c + 65536 * d in
    let j : ℕ = b + 65536 * k in
    let e2 : all / 4294967296 ≡ all / 65536 / 65536 = omega arith in
    let e3 : all / 281474976710656 ≡ all / 65536 / 65536 / 65536 = omega arith in
    record {
      fits = fits;
      top = omega arith;
      apart = rw (e2, e3, digit-rest 65536 a j ha, digit-rest 65536 b k hb, digit-rest 65536 c d hc, digit-first 65536 a j ha, digit-first 65536 b k hb, digit-first 65536 c d hc) refl;
    }

module _ (w code : ℕ) (l : List ℕ) (table : l ≡ rows) (W : Allowed w) (row : code % 4096 < 3876) where
  abbrev q : ℕ
  q = get_or l (code % 4096) 0

  abbrev p : ℕ
  p = 2 ^ (w - 4)

  abbrev x : ℕ
  x = code / 4096

  row_read : q ≡ quadruple_at (code % 4096)
  unfolding quadruple_at
  row_read = ap (λ (k : List ℕ). get_or k (code % 4096) 0) table

  module _ {up low : ℕ} (ups : up ≡ 4096 * lanes (q / 4096) (q / 256 % 16) (q / 16 % 16) (q % 16))
      (lows : low ≡ lanes (x % p) (x / p % p) (x / 2 ^ ((w - 4) * 2) % p) (x / 2 ^ ((w - 4) * 3) % p)) where
    cell : ℕ → ℕ → ℕ
    cell n y = n * p + y % p

    cell-fits : (n y : ℕ) → n < 16 → cell n y < 65536
    unfolding cell
    cell-fits n y h =
        let e : n * p ≤ 15 * p = mul-le-mul_right p (omega arith) in
        omega (arith, mod-lt y (pow_pos (w - 4)), few_bits (w - 4) (omega (arith, W.high)))

    ups-moved : up / 2 ^ (16 - w) ≡ p * lanes (q / 4096) (q / 256 % 16) (q / 16 % 16) (q % 16)
    ups-moved =
        let n : ℕ = lanes (q / 4096) (q / 256 % 16) (q / 16 % 16) (q % 16) in
        let k : ℕ = 2 ^ (16 - w) in
        let e : 16 - w + (w - 4) ≡ 12 = omega (arith, W.low, W.high) in
        let f : k * p ≡ 4096 = sym (pow-add 2 (16 - w) (w - 4)) ∙ ap (λ (i : ℕ). 2 ^ i) e in
        div-eq_of_eq-mul_right (pow_pos (16 - w)) (ups ∙ ap (λ (z : ℕ). z * n) (sym f) ∙ mul_assoc k p n)

    all-is : up / 2 ^ (16 - w) + low ≡ lanes (cell (q / 4096) x) (cell (q / 256 % 16) (x / p)) (cell (q / 16 % 16) (x / 2 ^ ((w - 4) * 2))) (cell (q % 16) (x / 2 ^ ((w - 4) * 3)))
    unfolding cell
    all-is = omega (arith, ups-moved, lanes-times p (q / 4096) (q / 256 % 16) (q / 16 % 16) (q % 16), lows)

    four_are : cell (q / 4096) x ∷ cell (q / 256 % 16) (x / p) ∷ cell (q / 16 % 16) (x / 2 ^ ((w - 4) * 2)) ∷ cell (q % 16) (x / 2 ^ ((w - 4) * 3)) ∷ [] ≡ bucket_from w code
    unfolding cell bucket_from
    four_are =
        let z0 : (w - 4) * 0 ≡ 0 = omega arith in
        let z1 : (w - 4) * 1 ≡ w - 4 = omega arith in
        rw (row_read, z0, z1, div-one x) refl

    pub bucket-word : FourIn (up / 2 ^ (16 - w) + low) (bucket_from w code)
    bucket-word =
        rw (all-is, ← four_are)
        (lanes-have _ _ _ _
        (cell-fits (q / 4096) x (omega (arith, row_read, rows_right.small (code % 4096) row)))
        (cell-fits (q / 256 % 16) (x / p) (omega arith))
        (cell-fits (q / 16 % 16) (x / 2 ^ ((w - 4) * 2)) (omega arith))
        (cell-fits (q % 16) (x / 2 ^ ((w - 4) * 3)) (omega arith)))
