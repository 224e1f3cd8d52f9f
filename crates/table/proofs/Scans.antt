-- The scan as the code makes it: four tests in a row, and one bucket of a list after the other.
-- Assumes nothing.
use mathlib.Core.Path.{◌≡◌, refl, sym, ap, ◌∙◌}
use mathlib.Core.Logic.{inl, inr, ◌⊎◌}
use mathlib.Core.Bool.{true, false, cond}
use mathlib.Core.Option.{Option}
use mathlib.Core.List.{List, [], ◌∷◌, ◌++◌}
use Prim.Native.Nat.{ℕ, ◌+◌, ◌*◌, ◌/◌, ◌≤◌, ◌<◌}
use native.Mathlib.Numerals.{add-one}
use native.Mathlib.Omega.{arith}
use borrow.Author.Tests.{eq-eqb, ne_eqb}
use lib.Dec.{eqb}
use Rattle.std.specs.List.{list_any}
use lib.ListN.{length, get_or, take, drop, take-append-drop}
use lib.Seq.{take-suc, drop-cons}
use Rattle.lemmas.specs.Count.{hit, occ, ◌among◌}
use Rattle.lemmas.specs.Sums.{total_once}
use Rattle.lemmas.proofs.Count.{occ-append, hit-cases, hit-refl, hit-of, hit-ne}
use Rattle.lemmas.proofs.Sums.{once-nil, once-new, once-again}
use Rattle.calls.specs.Cells.{cell, scan, copies_at, lowest_at, in_first}
use Rattle.calls.proofs.Laws.{scan-laws}

-- ── the four tests of a bucket's cells, counted and in order ──
pub scanned : (c : List ℕ) (p b : ℕ) {n : ℕ} {o : Option ℕ}
    → n ≡ cond (eqb (cell c (4 * b)) p) 1 0 + cond (eqb (cell c (4 * b + 1)) p) 1 0 + cond (eqb (cell c (4 * b + 2)) p) 1 0 + cond (eqb (cell c (4 * b + 3)) p) 1 0
    → o ≡ lowest_at c p b → record { copies = n; lowest = o } ≡ scan c p b
unfolding scan hit
scanned c p b e f =
    let k : _ ≡ copies_at c p b = e ∙ omega arith in
    λ i. record { copies = k i; lowest = f i }

-- ── a list, one after the other ──
pub next_of : (xs : List ℕ) (k : ℕ) → k < length xs → drop k xs ≡ get_or xs k 0 ∷ drop (k + 1) xs
next_of xs k h = rw add-one (drop-cons xs k 0 h)

pub next-among : (xs : List ℕ) (j x : ℕ) → drop j xs ≡ x ∷ drop (j + 1) xs → x among xs
next-among xs j x e = omega (arith, ap (occ x) (sym (take-append-drop j xs)) ∙ occ-append x (take j xs) (drop j xs), ap (occ x) e, hit-refl x)

pub at_among : (xs : List ℕ) (k : ℕ) → k < length xs → get_or xs k 0 among xs
at_among xs k h = next-among xs k _ (next_of xs k h)

-- what stands in a part of a list, as the code lends it, stands in the list
pub part_among : (xs : List ℕ) (n j x : ℕ) → x among take n (drop j xs) → x among xs
part_among xs n j x k =
    omega (
      arith,
      k,
      occ-append x (take n (drop j xs)) (drop n (drop j xs)),
      ap (occ x) (take-append-drop n (drop j xs)),
      occ-append x (take j xs) (drop j xs),
      ap (occ x) (take-append-drop j xs),
    )

-- ── the buckets in turn: bucket k, and none before it gave anything ──
pub record Turn (f : ℕ → Option ℕ) (bs : List ℕ) (k : ℕ) : Type 0 where
  pub same : in_first f (drop k bs) ≡ in_first f bs

-- ── the copies in the buckets before place k, each bucket counted once ──
-- whether x is listed
module _ (x : ℕ) where
  pub listed-before : (xs : List ℕ) → list_any (λ y. eqb y x) xs ≡ true → x among xs
  listed-before [] e = cc
  listed-before (y ∷ xs) e = go (hit-cases x y) (listed-before xs)
    where
      go : (x ≡ y) ⊎ (hit x y ≡ 0) → (list_any (λ y. eqb y x) xs ≡ true → x among xs) → x among (y ∷ xs)
      go (inl f) rec = omega (arith, hit-of x y f)
      go (inr z) rec = omega (arith, rec (rw (ne_eqb y x (λ f. hit-ne x y z (sym f))) at e))

  pub not-listed : (xs : List ℕ) → list_any (λ y. eqb y x) xs ≡ false → occ x xs ≡ 0
  not-listed [] e = refl
  not-listed (y ∷ xs) e = go (hit-cases x y) (not-listed xs)
    where
      go : (x ≡ y) ⊎ (hit x y ≡ 0) → (list_any (λ y. eqb y x) xs ≡ false → occ x xs ≡ 0) → occ x (y ∷ xs) ≡ 0
      go (inl f) rec = absurd (let g = rw (eq-eqb y x (sym f)) at e in let z : ◌≡◌ {A = ℕ} 0 1 = cc in omega arith)
      go (inr z) rec = omega (arith, z, rec (rw (ne_eqb y x (λ f. hit-ne x y z (sym f))) at e))

pub record Counted (c : List ℕ) (p : ℕ) (bs : List ℕ) (copies k : ℕ) : Type 0 where
  pub within : k ≤ length bs
  pub small : copies ≤ 4 * k
  pub so_far : copies ≡ total_once (length c / 4) (copies_at c p) (take k bs)

pub counted_start : (c : List ℕ) (p : ℕ) (bs : List ℕ) → Counted c p bs 0 0
counted_start c p bs = record { within = omega arith; small = omega arith; so_far = sym (once-nil _ _) }

module _ {c : List ℕ} {p : ℕ} {bs : List ℕ} {t k : ℕ} (K : Counted c p bs t k) where
  abbrev sum : List ℕ → ℕ
  sum l = total_once (length c / 4) (copies_at c p) l

  module _ (h : k < length bs) (m : 4 * get_or bs k 0 + 4 ≤ length c) where
    more : take (k + 1) bs ≡ take k bs ++ (get_or bs k 0 ∷ [])
    more = rw add-one (take-suc bs k 0 h)

    -- a bucket that was listed before, and one that was not
    pub counted-again : get_or bs k 0 among take k bs → Counted c p bs t (k + 1)
    counted-again e = record {
      within = omega arith;
      small = omega (arith, K.small);
      so_far = omega (arith, K.so_far, ap sum more, once-again (length c / 4) (copies_at c p) (take k bs) (get_or bs k 0) (omega arith) e);
    }

    pub counted-new : occ (get_or bs k 0) (take k bs) ≡ 0 → {v : ℕ} → v ≡ copies_at c p (get_or bs k 0) → Counted c p bs (t + v) (k + 1)
    counted-new e f = record {
      within = omega arith;
      small = omega (arith, K.small, f, scan-laws.most c p (get_or bs k 0));
      so_far = omega (arith, K.so_far, f, ap sum more, once-new (length c / 4) (copies_at c p) (take k bs) (get_or bs k 0) (omega arith) e);
    }
