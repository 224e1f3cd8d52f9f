-- The weight of a table's entries, cell by cell: what an overwritten cell changes of it, and that a table is itself an assignment.
-- Assumes nothing.
use mathlib.Core.Path.{◌≡◌, refl, sym, ap, ◌∙◌}
use mathlib.Core.Logic.{inl, inr, ◌≢◌}
use mathlib.Core.Bool.{Bool, true, false, cond}
use mathlib.Core.List.{List, [], ◌∷◌}
use Prim.Native.Nat.{ℕ, zero, suc, ◌+◌, ◌*◌, ◌/◌, ◌≤◌, ◌<◌}
use native.Mathlib.Omega.{arith}
use native.Mathlib.Decide.{dec_lt}
use lib.Dec.{eqb, eqb→eq}
use lib.ListN.{length, set, take}
use lib.Seq.{take_all, take-suc, get_or-set_same, get_or-set_other}
use Rattle.lemmas.specs.Count.{hit, occ, ◌among◌}
use Rattle.lemmas.specs.Sums.{sum_to, total}
use Rattle.lemmas.proofs.Count.{T_of, zero-cases}
use Rattle.lemmas.proofs.Sums.{sum-change, sum-fours, sum-hit, sum-hit-none}
use Rattle.index.specs.Candidates.{candidates, Class, class_at}
use Rattle.index.specs.Laws.{Laws}
use Rattle.index.specs.declared.Settings.{Settings}
use Rattle.calls.specs.Cells.{cell, filled_count}
use Rattle.calls.specs.Assignment.{Fits, Assignable}
use Rattle.calls.specs.Demand.{filled_below, entries}
use Rattle.calls.proofs.Cells.{filled-append}
use Rattle.calls.proofs.Classes.{class_same, own-class}

-- the weight of a cell with value v
unfoldable pub weight_at : Settings → (Class → ℕ) → ℕ → ℕ → ℕ
weight_at s w i v = cond (eqb v 0) 0 (w (class_at s v (i / 4)))

module _ (s : Settings) (w : Class → ℕ) where
  pub weight-empty : (i v : ℕ) → v ≡ 0 → weight_at s w i v ≡ 0
  unfolding weight_at
  weight-empty i v e = rw e refl

  pub weight-filled : (i v : ℕ) → v ≢ 0 → weight_at s w i v ≡ w (class_at s v (i / 4))
  unfolding weight_at
  weight-filled i v n = go (eqb v 0) refl
    where
      go : (b : Bool) → eqb v 0 ≡ b → cond b 0 (w (class_at s v (i / 4))) ≡ w (class_at s v (i / 4))
      go true e = absurd (n (eqb→eq v 0 (T_of e)))
      go false e = refl

  total-below : (c : List ℕ) (n : ℕ) → total w (filled_below s c n) ≡ sum_to n (λ i. weight_at s w i (cell c i))
  unfolding weight_at
  total-below c zero = refl
  total-below c (suc n) = go (eqb (cell c n) 0) (total-below c n)
    where
      go : (b : Bool) → total w (filled_below s c n) ≡ sum_to n (λ i. weight_at s w i (cell c i))
          → total w (cond b (filled_below s c n) (class_at s (cell c n) (n / 4) ∷ filled_below s c n)) ≡ sum_to n (λ i. weight_at s w i (cell c i)) + cond b 0 (w (class_at s (cell c n) (n / 4)))
      go true r = omega arith
      go false r = omega arith

  pub total-entries : (c : List ℕ) → total w (entries s c) ≡ sum_to (4 * s.buckets) (λ i. weight_at s w i (cell c i))
  unfolding entries
  total-entries c = total-below c (4 * s.buckets)

  -- a cell is overwritten
  pub total-set : (c : List ℕ) (i v : ℕ) → i < 4 * s.buckets → i < length c
      → total w (entries s (set c i v)) + weight_at s w i (cell c i) ≡ total w (entries s c) + weight_at s w i v
  total-set c i v l m = omega (
    arith,
    total-entries c,
    total-entries (set c i v),
    sum-change (4 * s.buckets) i (λ j. weight_at s w j (cell (set c i v) j)) (λ j. weight_at s w j (cell c j)) (λ j n. rw (get_or-set_other c i j v 0 n)) l,
    ap (weight_at s w i) (get_or-set_same c i v 0 m),
  )

  -- an entry weighs the same in each of its candidates
  pub weight-same : Laws s → (i j v : ℕ) → j < 4 * s.buckets → (i / 4) among candidates s v (j / 4) → weight_at s w i v ≡ weight_at s w j v
  weight-same L i j v m h = elim (zero-cases v) [
    | inl e ↦ weight-empty i v e ∙ sym (weight-empty j v e)
    | inr g ↦ let n : v ≢ 0 = omega arith in weight-filled i v n ∙ ap w (class_same s L v (j / 4) (i / 4) (omega arith) h) ∙ sym (weight-filled j v n)
  ]

-- ── how many entries there are ──
module _ (s : Settings) (c : List ℕ) where
  count-below : (n : ℕ) → n ≤ length c → length (filled_below s c n) ≡ filled_count (take n c)
  count-below zero h = refl
  count-below (suc n) h =
      rw (take-suc c n 0)
      (omega (arith, one (eqb (cell c n) 0) (class_at s (cell c n) (n / 4)) (filled_below s c n), count-below n (omega arith), filled-append (take n c) (cell c n ∷ [])))
    where
      one : (b : Bool) (k : Class) (l : List Class) → length (cond b l (k ∷ l)) ≡ length l + cond b 0 1
      one true k l = omega arith
      one false k l = omega arith

  pub filled-entries : length c ≡ 4 * s.buckets → length (entries s c) ≡ filled_count c
  unfolding entries
  filled-entries e = count-below (4 * s.buckets) (omega arith) ∙ ap filled_count (take_all (4 * s.buckets) c (omega arith))

-- ── a table is an assignment of its entries ──
-- the buckets of the filled cells among the first n
buckets_below : List ℕ → ℕ → List ℕ
buckets_below c zero = []
buckets_below c (suc n) = let rest = buckets_below c n in cond (eqb (cell c n) 0) rest ((n / 4) ∷ rest)

module _ (s : Settings) (L : Laws s) (c : List ℕ) where
  fits_below : (n : ℕ) → n ≤ 4 * s.buckets → Fits (filled_below s c n) (buckets_below c n)
  unfolding buckets_below
  fits_below zero m = tt
  fits_below (suc n) m = go (eqb (cell c n) 0) (fits_below n (omega arith))
    where
      go : (b : Bool) → Fits (filled_below s c n) (buckets_below c n)
          → Fits (cond b (filled_below s c n) (class_at s (cell c n) (n / 4) ∷ filled_below s c n)) (cond b (buckets_below c n) ((n / 4) ∷ buckets_below c n))
      go true r = r
      go false r = (own-class s L (cell c n) (n / 4) (omega arith), r)

  few-below : (n x : ℕ) → occ x (buckets_below c n) ≤ sum_to n (λ i. hit x (i / 4))
  unfolding buckets_below
  few-below zero x = omega arith
  few-below (suc n) x = go (eqb (cell c n) 0) (few-below n x)
    where
      go : (b : Bool) → occ x (buckets_below c n) ≤ sum_to n (λ i. hit x (i / 4))
          → occ x (cond b (buckets_below c n) ((n / 4) ∷ buckets_below c n)) ≤ sum_to n (λ i. hit x (i / 4)) + hit x (n / 4)
      go true r = omega arith
      go false r = omega arith

  four-cells : (x : ℕ) → sum_to (4 * s.buckets) (λ i. hit x (i / 4)) ≤ 4
  four-cells x = elim (dec_lt x s.buckets) [
    | yes l ↦ omega (arith, sum-fours s.buckets (hit x), sum-hit s.buckets x l)
    | no n ↦ omega (arith, sum-fours s.buckets (hit x), sum-hit-none s.buckets x (omega arith))
  ]

  pub table-assigned : Assignable (entries s c)
  unfolding entries
  table-assigned = (buckets_below c (4 * s.buckets), fits_below (4 * s.buckets) (omega arith), λ x. omega (arith, few-below (4 * s.buckets) x, four-cells x))
