-- The table's buckets as the writer takes them: four cells, sorted, and whether a cell does not fit the width.
-- Assumes nothing.
use mathlib.Core.Path.{◌≡◌, refl}
use mathlib.Core.Bool.{false, ◌||◌, or-false, or_assoc}
use mathlib.Core.List.{List, [], ◌∷◌}
use Prim.Native.Nat.{ℕ, zero, suc, ◌+◌, ◌^◌, ◌≤◌, ◌<◌, max}
use native.Mathlib.Numerals.{add-one}
use native.Mathlib.Omega.{arith}
use borrow.Author.Tests.{leb-false}
use lib.Dec.{leb}
use lib.ListN.{length, get_or, drop, drop_of_length-le}
use lib.Seq.{drop-cons}
use Rattle.lemmas.proofs.Bools.{or-false-left, or-false-right}
use Rattle.lemmas.proofs.Numbers.{max-wide}
use Rattle.lemmas.proofs.Stores.{drop-four}
use Rattle.rows.specs.Rows.{Ascends}
use Rattle.calls.specs.WrittenForms.{any_from}
use Rattle.packed_form.specs.Writer.{sort4, sort_buckets, code_of, stream_of}
use Rattle.packed_form.proofs.Laws.{packed-laws}
use Rattle.packed.specs.Internal.{Allowed, BucketAsked, BucketAt}

-- ── four cells ──
any_at : (n : ℕ) (l : List ℕ) (i : ℕ) → any_from n l ≡ false → i < length l → get_or l i 0 < n
any_at n [] i e h = absurd (omega arith)
any_at n (v ∷ l) zero e h = leb-false n v (or-false-left (leb n v) (any_from n l) e)
any_at n (v ∷ l) (suc i) e h = any_at n l i (or-false-right (leb n v) (any_from n l) e) (omega arith)

-- the bucket that starts at cell i, as f once it is sorted
module _ {w : ℕ} (W : Allowed w) {t : List ℕ} {i : ℕ} (A : BucketAsked w t i) {f : List ℕ}
    (is : f ≡ sort4 (get_or t i 0) (get_or t (i + 1) 0) (get_or t (i + 2) 0) (get_or t (i + 3) 0)) where
  cell-fits : (j : ℕ) → j < i + 4 → get_or t j 0 < 2 ^ w
  cell-fits j h = any_at (2 ^ w) t j A.fits (omega (arith, A.inside))

  pub sorted-asked : Ascends (get_or f 0 0) (get_or f 1 0) (get_or f 2 0) (get_or f 3 0) × (get_or f 3 0 < 2 ^ w)
  sorted-asked = rw is (
    packed-laws.sort_ascends (get_or t i 0) (get_or t (i + 1) 0) (get_or t (i + 2) 0) (get_or t (i + 3) 0),
    packed-laws.sort_below (get_or t i 0) (get_or t (i + 1) 0) (get_or t (i + 2) 0) (get_or t (i + 3) 0) (2 ^ w)
        (cell-fits i (omega arith)) (cell-fits (i + 1) (omega arith)) (cell-fits (i + 2) (omega arith)) (cell-fits (i + 3) (omega arith)),
  )

  pub bucket-made : {code : ℕ} → code ≡ code_of w (get_or f 0 0) (get_or f 1 0) (get_or f 2 0) (get_or f 3 0) → BucketAt w t i code
  unfolding stream_of sort_buckets
  bucket-made z = record {
    below = rw z (packed-laws.code_below w W.low (get_or f 0 0) (get_or f 1 0) (get_or f 2 0) (get_or f 3 0) sorted-asked.0 sorted-asked.1);
    first = rw (drop-four t i A.inside, z, is) refl;
  }

-- ── a cell that does not fit: the highest tells ──
module _ (n : ℕ) (l : List ℕ) (i : ℕ) where
  pub any-turn : (top : ℕ) {more : ℕ} → more ≡ max top (get_or l i 0) → i < length l → (leb n more || any_from n (drop (i + 1) l)) ≡ (leb n top || any_from n (drop i l))
  any-turn top e h = rw (e, add-one, drop-cons l i 0 h, max-wide n top (get_or l i 0), or_assoc) refl

  pub any-end : (top : ℕ) → length l ≤ i → (leb n top || any_from n (drop i l)) ≡ leb n top
  any-end top h = rw (drop_of_length-le l h) (or-false (leb n top))
