-- Numbers as bytes: digits in base 256, and what a part of the bytes says of the number.
-- Assumes nothing.
use mathlib.Core.Path.{◌≡◌, refl, sym, ap, ap₂, ◌∙◌}
use mathlib.Core.List.{List, [], ◌∷◌, ◌++◌}
use Prim.Native.Nat.{ℕ, zero, suc, ◌+◌, ◌*◌, ◌/◌, ◌%◌, ◌^◌, ◌<◌}
use native.Mathlib.Nat.{mod-eq_of_lt, add-mul-div_left, add-mul-mod_self_left, mul_assoc, mod-one, div-one}
use native.Mathlib.Omega.{arith}
use lib.Arith.{mod-mul}
use lib.ListN.{length, get_or, take, drop}
use lib.Pow.{pow_pos, pow-add, shr-shr}
use Rattle.lemmas.specs.Bytes.{AllBytes, bytes_of, number_from}

-- ── 2 to the 8 n ──
pub byte_more : (n : ℕ) → 2 ^ (8 * suc n) ≡ 256 * 2 ^ (8 * n)
byte_more n = ap (λ (k : ℕ). 2 ^ k) (eight n) ∙ pow-add 2 8 (8 * n)
  where
    eight : (n : ℕ) → 8 * suc n ≡ 8 + 8 * n
    eight n = omega arith

past-byte : (x n : ℕ) → x / 2 ^ (8 * suc n) ≡ x / 256 / 2 ^ (8 * n)
past-byte x n = ap (λ (k : ℕ). x / 2 ^ k) (eight n) ∙ sym (shr-shr x 8 (8 * n))
  where
    eight : (n : ℕ) → 8 * suc n ≡ 8 + 8 * n
    eight n = omega arith

-- ── bytes of a number ──
pub bytes-length : (n x : ℕ) → length (bytes_of n x) ≡ n
bytes-length zero x = refl
bytes-length (suc n) x = ap suc (bytes-length n (x / 256))

pub bytes-all : (n x : ℕ) → AllBytes (bytes_of n x)
bytes-all zero x = tt
bytes-all (suc n) x = (omega arith, bytes-all n (x / 256))

-- the first bytes, and those of what is left
pub bytes-split : (j n x : ℕ) → bytes_of (j + n) x ≡ bytes_of j x ++ bytes_of n (x / 2 ^ (8 * j))
bytes-split zero n x =
    let e : 0 + n ≡ n = omega arith in
    rw (e, div-one x) refl
bytes-split (suc j) n x =
    let e : suc j + n ≡ suc (j + n) = omega arith in
    rw (e, past-byte x j) (ap (λ (l : List ℕ). (x % 256) ∷ l) (bytes-split j n (x / 256)))

-- a byte more, and what is left past it
pub byte-past : (i x : ℕ) → x / 2 ^ (8 * i) / 256 ≡ x / 2 ^ (8 * (i + 1))
byte-past i x =
    let e : 8 * (i + 1) ≡ 8 * i + 8 = omega arith in
    shr-shr x (8 * i) 8 ∙ ap (λ (k : ℕ). x / 2 ^ k) (sym e)

pub bytes-next : (i x : ℕ) → bytes_of (i + 1) x ≡ bytes_of i x ++ (x / 2 ^ (8 * i) % 256 ∷ [])
bytes-next i x = bytes-split i 1 x

-- the first bytes do not see what stands above them
pub bytes_low : (j x y : ℕ) → bytes_of j (x + 2 ^ (8 * j) * y) ≡ bytes_of j x
bytes_low zero x y = refl
bytes_low (suc j) x y =
    let e : x + 2 ^ (8 * suc j) * y ≡ x + 256 * (2 ^ (8 * j) * y) = ap (λ (z : ℕ). x + z) (ap (λ (z : ℕ). z * y) (byte_more j) ∙ mul_assoc 256 (2 ^ (8 * j)) y) in
    rw e (ap₂ (λ (a : ℕ) (l : List ℕ). a ∷ l) (add-mul-mod_self_left x 256 (2 ^ (8 * j) * y))
    (ap (bytes_of j) (add-mul-div_left x (2 ^ (8 * j) * y) (omega arith)) ∙ bytes_low j (x / 256) y))

pub number-bytes : (n x : ℕ) → number_from (bytes_of n x) ≡ x % 2 ^ (8 * n)
number-bytes zero x = sym (mod-one x)
number-bytes (suc n) x =
    let e : x % 2 ^ (8 * suc n) ≡ x / 256 % 2 ^ (8 * n) * 256 + x % 256 =
    ap (λ (z : ℕ). x % z) (byte_more n ∙ swap (2 ^ (8 * n))) ∙ mod-mul x {m = 2 ^ (8 * n)} {c = 256} (pow_pos (8 * n)) (omega arith) in
    omega (arith, number-bytes n (x / 256), e)
  where
    swap : (z : ℕ) → 256 * z ≡ z * 256
    swap z = omega arith

-- ── the number of bytes ──
pub number-below : (l : List ℕ) → AllBytes l → number_from l < 2 ^ (8 * length l)
number-below [] a = omega arith
number-below (b ∷ l) a = omega (arith, byte_more (length l), number-below l a.1, a.0)

pub bytes-number : (l : List ℕ) → AllBytes l → bytes_of (length l) (number_from l) ≡ l
bytes-number [] a = refl
bytes-number (b ∷ l) a =
    let h : b < 256 = a.0 in
    let e : (b + 256 * number_from l) % 256 ≡ b = omega arith in
    let f : (b + 256 * number_from l) / 256 ≡ number_from l = omega arith in
    rw (e, f) (ap (λ (m : List ℕ). b ∷ m) (bytes-number l a.1))

-- past the first k bytes
pub number-drop : (k : ℕ) (l : List ℕ) → AllBytes l → number_from l / 2 ^ (8 * k) ≡ number_from (drop k l)
number-drop zero l a = div-one (number_from l)
number-drop (suc k) [] a = past-byte 0 k ∙ number-drop k [] tt ∙ ap number_from (drop-nil k)
  where
    drop-nil : (k : ℕ) → ◌≡◌ {A = List ℕ} (drop k []) []
    drop-nil zero = refl
    drop-nil (suc k) = refl
number-drop (suc k) (b ∷ l) a =
    let h : b < 256 = a.0 in
    let f : (b + 256 * number_from l) / 256 ≡ number_from l = omega arith in
    past-byte (b + 256 * number_from l) k ∙ rw f (number-drop k l a.1)

pub number-take : (k : ℕ) (l : List ℕ) → AllBytes l → number_from (take k l) ≡ number_from l % 2 ^ (8 * k)
number-take zero l a = sym (mod-one (number_from l))
number-take (suc k) [] a = sym (mod-eq_of_lt (pow_pos (8 * suc k)))
number-take (suc k) (b ∷ l) a =
    let h : b < 256 = a.0 in
    let x : ℕ = b + 256 * number_from l in
    let e : x % 256 ≡ b = omega arith in
    let f : x / 256 ≡ number_from l = omega arith in
    let g : x % 2 ^ (8 * suc k) ≡ x / 256 % 2 ^ (8 * k) * 256 + x % 256 =
    ap (λ (z : ℕ). x % z) (byte_more k ∙ swap (2 ^ (8 * k))) ∙ mod-mul x {m = 2 ^ (8 * k)} {c = 256} (pow_pos (8 * k)) (omega arith) in
    omega (arith, number-take k l a.1, g, e, ap (λ (z : ℕ). z % 2 ^ (8 * k)) f)
  where
    swap : (z : ℕ) → 256 * z ≡ z * 256
    swap z = omega arith

-- a list whose every place has a byte
pub all-bytes : (l : List ℕ) → ((i : ℕ) → get_or l i 0 < 256) → AllBytes l
all-bytes [] h = tt
all-bytes (b ∷ l) h = (h 0, all-bytes l (λ i. h (suc i)))

pub drop-bytes : (k : ℕ) (l : List ℕ) → AllBytes l → AllBytes (drop k l)
drop-bytes zero l a = a
drop-bytes (suc k) [] a = tt
drop-bytes (suc k) (b ∷ l) a = drop-bytes k l a.1

pub take-bytes : (k : ℕ) (l : List ℕ) → AllBytes l → AllBytes (take k l)
take-bytes zero l a = tt
take-bytes (suc k) [] a = tt
take-bytes (suc k) (b ∷ l) a = (a.0, take-bytes k l a.1)
