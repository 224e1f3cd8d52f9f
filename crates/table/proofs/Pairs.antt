-- The lowest empty cell as the code looks for it: cells 0 and 1 of a bucket, then 2 and 3.
-- Assumes nothing.
use mathlib.Core.Path.{◌≡◌, refl, sym, ap, ◌∙◌}
use mathlib.Core.Bool.{Bool, true, false, cond}
use mathlib.Core.Option.{Option, none, some}
use mathlib.Core.List.{List, [], ◌∷◌}
use Prim.Native.Nat.{ℕ, zero, suc, ◌+◌, ◌*◌, ◌-◌, ◌<◌}
use native.Mathlib.Omega.{arith}
use lib.Dec.{eqb}
use lib.ListN.{take, drop}
use lib.Seq.{get_or-take, get_or-drop}
use Rattle.calls.specs.Cells.{cell, cells_of, first_holding, lowest_empty}

-- ── one pair, as a list of its own ──
-- the lower of two cells that is empty, by whether each is
abbrev lower : Bool → Bool → Option ℕ
lower x y = cond x (some 0) (cond y (some 1) none)

abbrev empty_of : List ℕ → Option ℕ
empty_of v = first_holding v 0 (0 ∷ 1 ∷ [])

-- ── a pair of the table ──
-- the pair at a, as the code lends it
abbrev pair_at : List ℕ → ℕ → List ℕ
pair_at c a = take (a + 2 - a) (drop a c)

-- what is found in the pair at a, else what is found after it
abbrev found_at : ℕ → Option ℕ → Option ℕ → Option ℕ
found_at a o (some i) = some (a + i)
found_at a o none = o

of-lower : (x y : Bool) (a : ℕ) (o : Option ℕ) → found_at a o (lower x y) ≡ cond x (some a) (cond y (some (a + 1)) o)
of-lower true y a o = ap some (omega arith)
of-lower false true a o = refl
of-lower false false a o = refl

of_pair : (c : List ℕ) (a : ℕ) (is : List ℕ) → found_at a (first_holding c 0 is) (empty_of (pair_at c a)) ≡ first_holding c 0 (a ∷ (a + 1) ∷ is)
of_pair c a is = rw (as_lent 0 a (omega arith) (omega arith), as_lent 1 (a + 1) (omega arith) refl) (of-lower (eqb (cell c a) 0) (eqb (cell c (a + 1)) 0) a (first_holding c 0 is))
  where
    as_lent : (i k : ℕ) → i < 2 → a + i ≡ k → cell (pair_at c a) i ≡ cell c k
    as_lent i k h e = get_or-take (a + 2 - a) (drop a c) i 0 (omega (arith, h)) ∙ get_or-drop a c i 0 ∙ ap (cell c) e

-- ── the two pairs of a bucket in turn ──
pair_of : (b j : ℕ) → j < 2 → drop (2 * j) (cells_of b) ≡ (4 * b + 2 * j) ∷ (4 * b + 2 * j + 1) ∷ drop (2 * (j + 1)) (cells_of b)
pair_of b zero h = ap (λ (x : ℕ). x ∷ (x + 1) ∷ (4 * b + 2) ∷ (4 * b + 3) ∷ []) (omega arith)
pair_of b (suc zero) h = ap (λ (x : ℕ). (4 * b + 2) ∷ x ∷ []) (omega arith)
pair_of b (suc (suc j)) h = absurd (omega (arith, h))

-- pair j comes next, and no cell before it is empty
pub record Pairs (c : List ℕ) (b j : ℕ) : Type 0 where
  pub same : first_holding c 0 (drop (2 * j) (cells_of b)) ≡ lowest_empty c b

pub pairs_start : (c : List ℕ) (b : ℕ) → Pairs c b 0
unfolding lowest_empty
pairs_start c b = record { same = refl }

module _ {c : List ℕ} {b j : ℕ} (K : Pairs c b j) where
  abbrev here : Option ℕ
  here = empty_of (pair_at c (4 * b + 2 * j))

  module _ (h : j < 2) where
    from-here : {o : Option ℕ} → here ≡ o → found_at (4 * b + 2 * j) (first_holding c 0 (drop (2 * (j + 1)) (cells_of b))) o ≡ lowest_empty c b
    from-here e = rw (sym e) (of_pair c (4 * b + 2 * j) (drop (2 * (j + 1)) (cells_of b)) ∙ sym (ap (first_holding c 0) (pair_of b j h)) ∙ K.same)

    pub pair_found : {i : ℕ} → here ≡ some i → some (4 * b + 2 * j + i) ≡ lowest_empty c b
    pair_found e = from-here e

    pub pair-none : here ≡ none → Pairs c b (j + 1)
    pair-none e = record { same = from-here e }
