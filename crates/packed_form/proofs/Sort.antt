-- Sorting a bucket: the result ascends, and every weight has the same total on it.
-- Assumes nothing.
use mathlib.Core.Path.{◌≡◌, refl, ap}
use mathlib.Core.Bool.{false}
use mathlib.Core.List.{List, [], ◌∷◌}
use Prim.Native.Nat.{ℕ, zero, suc, ◌+◌, ◌*◌, ◌≤◌, ◌<◌, min, max}
use native.Mathlib.Decide.{dec_le}
use native.Mathlib.Nat.{le_trans, min-eq_left, min-eq_right, max-eq_left, max-eq_right}
use native.Mathlib.Omega.{arith}
use borrow.Author.Tests.{leb-false, lt-leb}
use lib.Dec.{leb}
use lib.ListN.{length}
use Rattle.lemmas.specs.Sums.{total}
use Rattle.lemmas.proofs.Bools.{or-false-left, or-false-right}
use Rattle.rows.specs.Rows.{Ascends}
use Rattle.calls.specs.WrittenForms.{any_from}
use Rattle.packed_form.specs.Writer.{sort4, sort_buckets}

-- ── lists by fours ──
pub fours : (P : ℕ → List ℕ → Type 0) → P 0 [] → ((m a b c d : ℕ) (l : List ℕ) → length l ≡ 4 * m → P m l → P (suc m) (a ∷ b ∷ c ∷ d ∷ l))
    → (m : ℕ) (l : List ℕ) → length l ≡ 4 * m → P m l
fours P base step zero [] e = base
fours P base step zero (a ∷ l) e = absurd (omega arith)
fours P base step (suc m) [] e = absurd (omega arith)
fours P base step (suc m) (a ∷ []) e = absurd (omega arith)
fours P base step (suc m) (a ∷ b ∷ []) e = absurd (omega arith)
fours P base step (suc m) (a ∷ b ∷ c ∷ []) e = absurd (omega arith)
fours P base step (suc m) (a ∷ b ∷ c ∷ d ∷ l) e = step m a b c d l (omega arith) (fours P base step m l (omega arith))

-- ── one bucket ──
pair-total : (g : ℕ → ℕ) (a b : ℕ) → g (min a b) + g (max a b) ≡ g a + g b
pair-total g a b = elim (dec_le a b) [
  | yes h ↦ rw (min-eq_left h, max-eq_right h) refl
  | no h ↦ let k : b ≤ a = omega arith in rw (min-eq_right k, max-eq_left k) (omega arith)
]

module _ (a b c d : ℕ) where
  pub sort-total : (g : ℕ → ℕ) → total g (sort4 a b c d) ≡ g a + g b + g c + g d
  sort-total g = omega (
    arith,
    pair-total g a b,
    pair-total g c d,
    pair-total g (min a b) (min c d),
    pair-total g (max a b) (max c d),
    pair-total g (max (min a b) (min c d)) (min (max a b) (max c d)),
  )

  pub sort_ascends : Ascends
      (min (min a b) (min c d))
      (min (max (min a b) (min c d)) (min (max a b) (max c d)))
      (max (max (min a b) (min c d)) (min (max a b) (max c d)))
      (max (max a b) (max c d))
  sort_ascends = merged (min a b) (max a b) (min c d) (max c d) (omega arith) (omega arith)
    where
      merged : (p q r s : ℕ) → p ≤ q → r ≤ s → Ascends (min p r) (min (max p r) (min q s)) (max (max p r) (min q s)) (max q s)
      merged p q r s h k = (omega arith, omega arith, omega arith)

  pub sort_below : (n : ℕ) → a < n → b < n → c < n → d < n → max (max a b) (max c d) < n
  sort_below n ha hb hc hd = omega arith

  -- what ascends stays as it is
  pub sort-kept : Ascends a b c d → sort4 a b c d ≡ a ∷ b ∷ c ∷ d ∷ []
  sort-kept h =
      let ac = le_trans h.0 h.1 in
      let bd = le_trans h.1 h.2 in
      rw (
        min-eq_left h.0,
        max-eq_right h.0,
        min-eq_left h.2,
        max-eq_right h.2,
        min-eq_left ac,
        max-eq_right ac,
        min-eq_left bd,
        max-eq_right bd,
        min-eq_right h.1,
        max-eq_left h.1,
      ) refl

-- ── every bucket ──
pub sorted-length : (m : ℕ) (l : List ℕ) → length l ≡ 4 * m → length (sort_buckets l) ≡ length l
unfolding sort_buckets
sorted-length = fours (λ m l. length (sort_buckets l) ≡ length l) refl (λ m a b c d l e ih. ap (λ (n : ℕ). suc (suc (suc (suc n)))) ih)

pub sorted-total : (g : ℕ → ℕ) (m : ℕ) (l : List ℕ) → length l ≡ 4 * m → total g (sort_buckets l) ≡ total g l
unfolding sort_buckets
sorted-total g = fours (λ m l. total g (sort_buckets l) ≡ total g l) refl (λ m a b c d l e ih. omega (arith, ih, sort-total a b c d g))

-- ── cells below a bound ──
below-cons : (n v : ℕ) (l : List ℕ) → any_from n (v ∷ l) ≡ false → (v < n) × (any_from n l ≡ false)
below-cons n v l e = (leb-false n v (or-false-left (leb n v) (any_from n l) e), or-false-right (leb n v) (any_from n l) e)

pub record Below4 (n a b c d : ℕ) (l : List ℕ) : Type 0 where
  pub first : a < n
  pub second : b < n
  pub third : c < n
  pub fourth : d < n
  pub others : any_from n l ≡ false

pub below-four : (n a b c d : ℕ) (l : List ℕ) → any_from n (a ∷ b ∷ c ∷ d ∷ l) ≡ false → Below4 n a b c d l
below-four n a b c d l e =
    let p = below-cons n a (b ∷ c ∷ d ∷ l) e in
    let q = below-cons n b (c ∷ d ∷ l) p.1 in
    let r = below-cons n c (d ∷ l) q.1 in
    let s = below-cons n d l r.1 in
    record { first = p.0; second = q.0; third = r.0; fourth = s.0; others = s.1 }

pub four_below : (n a b c d : ℕ) (l : List ℕ) → a < n → b < n → c < n → d < n → any_from n l ≡ false → any_from n (a ∷ b ∷ c ∷ d ∷ l) ≡ false
four_below n a b c d l ha hb hc hd e = rw (lt-leb n a ha, lt-leb n b hb, lt-leb n c hc, lt-leb n d hd, e) refl
