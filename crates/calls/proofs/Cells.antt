-- What the scans find: a cell of the buckets that were looked at, or that none of their cells holds the value; and how many are filled.
-- Assumes nothing.
use mathlib.Core.Path.{◌≡◌, refl}
use mathlib.Core.Logic.{◌⊎◌, inl, inr, ◌≢◌}
use mathlib.Core.Bool.{Bool, true, false, cond}
use mathlib.Core.Option.{Option, none, some}
use mathlib.Core.List.{List, [], ◌∷◌, ◌++◌}
use Prim.Native.Nat.{ℕ, ◌+◌, ◌*◌, ◌/◌, ◌≤◌}
use native.Mathlib.Omega.{arith}
use lib.Dec.{eqb, eqb→eq}
use lib.ListN.{length}
use Rattle.lemmas.specs.Count.{hit, ◌among◌}
use Rattle.lemmas.proofs.Count.{T_of, eqb-ne, hit-cases, hit-refl, hit-of, hit-ne, hit-eq}
use Rattle.calls.specs.Laws.{Finds}
use Rattle.calls.specs.Cells.{cell, cells_of, first_holding, scan, copies_at, lowest_at, lowest_empty, or_else, in_first, filled_count}

-- ── the cells of a bucket are those whose number over 4 is the bucket's ──
pub cells-of : (b i : ℕ) → i among cells_of b → i / 4 ≡ b
cells-of b i h = go (hit-cases i (4 * b)) (hit-cases i (4 * b + 1)) (hit-cases i (4 * b + 2)) (hit-cases i (4 * b + 3))
  where
    go : (i ≡ 4 * b) ⊎ (hit i (4 * b) ≡ 0) → (i ≡ 4 * b + 1) ⊎ (hit i (4 * b + 1) ≡ 0) → (i ≡ 4 * b + 2) ⊎ (hit i (4 * b + 2) ≡ 0)
        → (i ≡ 4 * b + 3) ⊎ (hit i (4 * b + 3) ≡ 0) → i / 4 ≡ b
    go (inl e) y z w = omega arith
    go (inr x) (inl e) z w = omega arith
    go (inr x) (inr y) (inl e) w = omega arith
    go (inr x) (inr y) (inr z) (inl e) = omega arith
    go (inr x) (inr y) (inr z) (inr w) = absurd (omega arith)

pub in_cells : (b i : ℕ) → i / 4 ≡ b → i among cells_of b
in_cells b i e = go (hit-cases i (4 * b)) (hit-cases i (4 * b + 1)) (hit-cases i (4 * b + 2))
  where
    go : (i ≡ 4 * b) ⊎ (hit i (4 * b) ≡ 0) → (i ≡ 4 * b + 1) ⊎ (hit i (4 * b + 1) ≡ 0) → (i ≡ 4 * b + 2) ⊎ (hit i (4 * b + 2) ≡ 0) → i among cells_of b
    go (inl k) y z = omega (arith, hit-of i (4 * b) k)
    go (inr x) (inl k) z = omega (arith, hit-of i (4 * b + 1) k)
    go (inr x) (inr y) (inl k) = omega (arith, hit-of i (4 * b + 2) k)
    go (inr x) (inr y) (inr z) = omega (arith, hit-of i (4 * b + 3) (omega (arith, hit-ne i (4 * b) x, hit-ne i (4 * b + 1) y, hit-ne i (4 * b + 2) z)))

-- ── what a scan of cells, and one of buckets, finds ──
abbrev FindsAt : List ℕ → ℕ → List ℕ → Option ℕ → Type 0
FindsAt c v is none = (i : ℕ) → i among is → cell c i ≢ v
FindsAt c v is (some i) = (cell c i ≡ v) × (i among is)

finds-at : (c : List ℕ) (v : ℕ) (is : List ℕ) → FindsAt c v is (first_holding c v is)
finds-at c v [] = λ i h. absurd (omega arith)
finds-at c v (i ∷ is) = go (eqb (cell c i) v) refl (first_holding c v is) (finds-at c v is)
  where
    go : (b : Bool) → eqb (cell c i) v ≡ b → (o : Option ℕ) → FindsAt c v is o → FindsAt c v (i ∷ is) (cond b (some i) o)
    go true e o f = (eqb→eq _ _ (T_of e), omega (arith, hit-refl i))
    go false e none f = λ j h. elim (hit-cases j i) [ inl k ↦ rw k (eqb-ne _ _ e) | inr z ↦ f j (omega arith) ]
    go false e (some j) f = (f.0, omega (arith, f.1))

of-bucket : (c : List ℕ) (v b : ℕ) → Finds c v (b ∷ []) (first_holding c v (cells_of b))
of-bucket c v b = go (first_holding c v (cells_of b)) (finds-at c v (cells_of b))
  where
    go : (o : Option ℕ) → FindsAt c v (cells_of b) o → Finds c v (b ∷ []) o
    go none f = λ i h. f i (in_cells b i (hit-eq (i / 4) b (omega arith)))
    go (some i) f = (f.0, omega (arith, hit-of (i / 4) b (cells-of b i f.1)))

pub scan-finds : (c : List ℕ) (p b : ℕ) → Finds c p (b ∷ []) (lowest_at c p b)
unfolding scan
scan-finds c p b = of-bucket c p b

pub empty-finds : (c : List ℕ) (b : ℕ) → Finds c 0 (b ∷ []) (lowest_empty c b)
unfolding lowest_empty
empty-finds c b = of-bucket c 0 b

pub scan-most : (c : List ℕ) (p b : ℕ) → copies_at c p b ≤ 4
unfolding scan
scan-most c p b = omega (arith, hit-most (cell c (4 * b)) p, hit-most (cell c (4 * b + 1)) p, hit-most (cell c (4 * b + 2)) p, hit-most (cell c (4 * b + 3)) p)
  where
    hit-most : (x y : ℕ) → hit x y ≤ 1
    hit-most x y = elim (hit-cases x y) [ inl e ↦ omega (arith, hit-of x y e) | inr z ↦ omega arith ]

-- the first bucket that has something
pub first_finds : (c : List ℕ) (v : ℕ) (f : ℕ → Option ℕ) → ((b : ℕ) → Finds c v (b ∷ []) (f b)) → (bs : List ℕ) → Finds c v bs (in_first f bs)
first_finds c v f h [] = λ i k. absurd (omega arith)
first_finds c v f h (b ∷ bs) = go (f b) (h b) (in_first f bs) (first_finds c v f h bs)
  where
    go : (o : Option ℕ) → Finds c v (b ∷ []) o → (r : Option ℕ) → Finds c v bs r → Finds c v (b ∷ bs) (or_else o r)
    go (some i) g r k = (g.0, omega (arith, g.1))
    go none g (some i) k = (k.0, omega (arith, k.1))
    go none g none k = λ i m. elim (hit-cases (i / 4) b) [ inl e ↦ g i (omega (arith, hit-of (i / 4) b e)) | inr z ↦ k i (omega arith) ]

-- ── how many cells are filled ──
pub filled-most : (l : List ℕ) → filled_count l ≤ length l
filled-most [] = omega arith
filled-most (v ∷ l) = omega (arith, one (eqb v 0), filled-most l)
  where
    one : (t : Bool) → cond {A = ℕ} t 0 1 ≤ 1
    one true = omega arith
    one false = omega arith

pub filled-append : (l k : List ℕ) → filled_count (l ++ k) ≡ filled_count l + filled_count k
filled-append [] k = omega arith
filled-append (v ∷ l) k = omega (arith, filled-append l k)
