-- The rule of the rows: one computed test, that each row is the dictionary successor of the one before, and what follows from it at
-- every row.
-- Assumes nothing.
use mathlib.Core.Path.{◌≡◌, refl, sym, ap, ◌∙◌, subst}
use mathlib.Core.Logic.{◌≢◌}
use mathlib.Core.Bool.{Bool, true, false, cond}
use mathlib.Core.List.{List, [], ◌∷◌}
use Prim.Native.Nat.{ℕ, zero, suc, ◌+◌, ◌≤◌, ◌<◌}
use native.Mathlib.Numerals.{add-one}
use native.Mathlib.Omega.{arith}
use native.Mathlib.Decide.{dec_le}
use borrow.Author.Tests.{ltb-true, ltb-false, eqb-true, eqb-false, eq-eqb, ne_eqb}
use lib.Dec.{eqb, ltb}
use lib.ListN.{length, get_or}
use Rattle.rows.specs.Rows.{quadruple, nibble0, nibble1, nibble2, nibble3, rows, place_in, row_of, quadruple_at, Ascends, RowsRight}

-- ── a quadruple and its nibbles ──
pub nibbles : (a b c d : ℕ) → b < 16 → c < 16 → d < 16
    → (nibble0 (quadruple a b c d) ≡ a) × (nibble1 (quadruple a b c d) ≡ b) × (nibble2 (quadruple a b c d) ≡ c) × (nibble3 (quadruple a b c d) ≡ d)
nibbles a b c d h k l = (omega arith, omega arith, omega arith, omega arith)

pub rejoin : (q : ℕ) → q ≡ quadruple (nibble0 q) (nibble1 q) (nibble2 q) (nibble3 q)
rejoin q = omega arith

pub below : (q : ℕ) → (nibble1 q < 16) × (nibble2 q < 16) × (nibble3 q < 16)
below q = (omega arith, omega arith, omega arith)

abbrev Ascending : ℕ → Type 0
Ascending q = Ascends (nibble0 q) (nibble1 q) (nibble2 q) (nibble3 q)

ascending : (a b c d : ℕ) → Ascends a b c d → d < 16 → Ascending (quadruple a b c d)
ascending a b c d h l = let n = nibbles a b c d (omega arith) (omega arith) (omega arith) in omega arith

-- ── the dictionary successor ──
-- the last nibble that is below 15 goes up by one, and those after it start from there
abbrev next_of : ℕ → ℕ → ℕ → ℕ → ℕ
next_of a b c d =
    cond (ltb d 15) (quadruple a b c (d + 1))
    (cond (ltb c 15) (quadruple a b (c + 1) (c + 1))
    (cond (ltb b 15) (quadruple a (b + 1) (b + 1) (b + 1))
    (quadruple (a + 1) (a + 1) (a + 1) (a + 1))))

abbrev next : ℕ → ℕ
next q = next_of (nibble0 q) (nibble1 q) (nibble2 q) (nibble3 q)

-- what is shown of it
record Follows (q n : ℕ) : Type 0 where
  later : q < n
  ascends : Ascending q → q < 65535 → Ascending n
  nothing-between : Ascending q → (x : ℕ) → Ascending x → q ≤ x → x < n → x ≡ q

-- the same by nibbles
record Steps (a b c d n : ℕ) : Type 0 where
  later : quadruple a b c d < n
  ascends : Ascends a b c d → quadruple a b c d < 65535 → Ascending n
  nothing-between : Ascends a b c d → (x y z w : ℕ) → Ascends x y z w → w < 16 → quadruple a b c d ≤ quadruple x y z w → quadruple x y z w < n
      → quadruple x y z w ≡ quadruple a b c d

steps : (a b c d : ℕ) → b < 16 → c < 16 → d < 16 → Steps a b c d (next_of a b c d)
steps a b c d hb hc hd = go (ltb d 15) refl (ltb c 15) refl (ltb b 15) refl
  where
    second : (x y z w : ℕ)
        → x ≤ a → b < y → c < 15 → y ≤ z → z ≤ w → w < 16 → quadruple a b c 15 ≤ quadruple x y z w → quadruple x y z w < quadruple a b (c + 1) (c + 1) → ⊥
    second x y z w p q r i j k g l =
        let ex : x ≡ a = omega arith in
        omega arith

    third : (x y z w : ℕ) → x ≤ a → y ≤ b → c < z → z ≤ w → w < 16 → quadruple a b c 15 ≤ quadruple x y z w → quadruple x y z w < quadruple a b (c + 1) (c + 1) → ⊥
    third x y z w p q i j k g l =
        let ex : x ≡ a = omega arith in
        let ey : y ≡ b = omega arith in
        omega arith

    go : (i : Bool) → ltb d 15 ≡ i → (j : Bool) → ltb c 15 ≡ j → (k : Bool) → ltb b 15 ≡ k
        → Steps a b c d
        (cond i (quadruple a b c (d + 1))
        (cond j (quadruple a b (c + 1) (c + 1))
        (cond k (quadruple a (b + 1) (b + 1) (b + 1))
        (quadruple (a + 1) (a + 1) (a + 1) (a + 1)))))
    go true ei j ej k ek =
        let h : d < 15 = ltb-true d 15 ei in
        record {
          later = omega arith;
          ascends = λ u l. ascending a b c (d + 1) (omega arith) (omega arith);
          nothing-between = λ u x y z w v m g l. omega arith;
        }
    go false ei true ej k ek =
        let h : 15 ≤ d = ltb-false d 15 ei in
        let i : c < 15 = ltb-true c 15 ej in
        record {
          later = omega arith;
          ascends = λ u l. ascending a b (c + 1) (c + 1) (omega arith) (omega arith);
          nothing-between = λ u x y z w v m g l. elim (dec_le x a) [
            | yes p ↦ elim (dec_le y b) [
              | yes q ↦ elim (dec_le z c) [ yes r ↦ omega arith | no r ↦ absurd (third x y z w p q (omega arith) (omega arith) m (omega arith) l) ]
              | no q ↦ absurd (second x y z w p (omega arith) i (omega arith) (omega arith) m (omega arith) l)
            ]
            | no p ↦ absurd (omega arith)
          ];
        }
    go false ei false ej true ek =
        let h : 15 ≤ d = ltb-false d 15 ei in
        let i : 15 ≤ c = ltb-false c 15 ej in
        let j : b < 15 = ltb-true b 15 ek in
        record {
          later = omega arith;
          ascends = λ u l. ascending a (b + 1) (b + 1) (b + 1) (omega arith) (omega arith);
          nothing-between = λ u x y z w v m g l. elim (dec_le x a) [
            | yes p ↦ elim (dec_le y b) [ yes q ↦ omega arith | no q ↦ absurd (omega arith) ]
            | no p ↦ absurd (omega arith)
          ];
        }
    go false ei false ej false ek =
        let h : 15 ≤ d = ltb-false d 15 ei in
        let i : 15 ≤ c = ltb-false c 15 ej in
        let j : 15 ≤ b = ltb-false b 15 ek in
        record {
          later = omega arith;
          ascends = λ u l. ascending (a + 1) (a + 1) (a + 1) (a + 1) (omega arith) (omega arith);
          nothing-between = λ u x y z w v m g l. elim (dec_le x a) [ yes p ↦ omega arith | no p ↦ absurd (omega arith) ];
        }

follows : (q : ℕ) → Follows q (next q)
follows q =
    let t = below q in
    let s = steps (nibble0 q) (nibble1 q) (nibble2 q) (nibble3 q) t.0 t.1 t.2 in
    let e = rejoin q in
    record {
      later = subst (λ (z : ℕ). z < next q) (sym e) s.later;
      ascends = λ a l. s.ascends a (subst (λ (z : ℕ). z < 65535) e l);
      nothing-between = λ a x b l m.
          let f = rejoin x in
          f ∙ s.nothing-between a (nibble0 x) (nibble1 x) (nibble2 x) (nibble3 x) b (below x).2
          (subst (λ (z : ℕ). z ≤ quadruple (nibble0 x) (nibble1 x) (nibble2 x) (nibble3 x)) e (subst (λ (z : ℕ). q ≤ z) f l))
          (subst (λ (z : ℕ). z < next q) f m) ∙ sym e;
    }

-- ── the test, computed over the whole table ──
-- each row is the successor of the one before, and the last is 15, 15, 15, 15
abbrev chained : ℕ → List ℕ → Bool
chained q [] = eqb q 65535
chained q (x ∷ l) = cond (eqb x (next q)) (chained x l) false

abbrev rest : List ℕ → List ℕ
rest [] = []
rest (x ∷ l) = l

from_zero : rows ≡ 0 ∷ rest rows
unfolding rows
from_zero = refl

in_order : chained 0 (rest rows) ≡ true
unfolding rows
in_order = refl

how-many : length rows ≡ 3876
unfolding rows
how-many = refl

-- ── what it says at every row ──
abbrev Chain : ℕ → List ℕ → Type 0
Chain q [] = q ≡ 65535
Chain q (x ∷ l) = (x ≡ next q) × Chain x l

chain : (l : List ℕ) (q : ℕ) → chained q l ≡ true → Chain q l
chain [] q e = eqb-true q 65535 e
chain (x ∷ l) q e = go (eqb x (next q)) refl e (chain l x)
  where
    go : (b : Bool) → eqb x (next q) ≡ b → cond b (chained x l) false ≡ true → (chained x l ≡ true → Chain x l) → (x ≡ next q) × Chain x l
    go true f e r = (eqb-true x (next q) f, r e)
    go false f e r = absurd (let z : ◌≡◌ {A = ℕ} 0 1 = cc in omega arith)

-- no row is past the last
small : (l : List ℕ) (q : ℕ) → Chain q l → q ≤ 65535
small [] q c = omega arith
small (x ∷ l) q c = omega (arith, small l x c.1, (follows q).later, c.0)

-- the row after one that is not the last
module _ (q x : ℕ) (l : List ℕ) (c : Chain q (x ∷ l)) where
  ahead : q < x
  ahead = rw c.0 (follows q).later

  onward : Ascending q → Ascending x
  onward a = rw c.0 ((follows q).ascends a (omega (arith, ahead, small l x c.1)))

  between : Ascending q → (y : ℕ) → Ascending y → q ≤ y → y ≢ q → x ≤ y
  between a y b h n = elim (dec_le x y) [
    | yes k ↦ k
    | no k ↦ absurd (n ((follows q).nothing-between a y b h (omega (arith, c.0))))
  ]

all-ascend : (l : List ℕ) (q : ℕ) → Chain q l → Ascending q → (r : ℕ) → r < length (q ∷ l) → Ascending (get_or (q ∷ l) r 0) × (get_or (q ∷ l) r 0 ≤ 65535)
all-ascend l q c a zero h = (a, small l q c)
all-ascend [] q c a (suc r) h = absurd (omega arith)
all-ascend (x ∷ l) q c a (suc r) h = all-ascend l x c.1 (onward q x l c a) r (omega arith)

all_after : (l : List ℕ) (q : ℕ) → Chain q l → Ascending q → (r : ℕ) → r < length l → q < get_or l r 0
all_after [] q c a r h = absurd (omega arith)
all_after (x ∷ l) q c a zero h = ahead q x l c
all_after (x ∷ l) q c a (suc r) h = omega (arith, ahead q x l c, all_after l x c.1 (onward q x l c a) r (omega arith))

all-ordered : (l : List ℕ) (q : ℕ) → Chain q l → Ascending q → (r : ℕ) → suc r < length (q ∷ l) → get_or (q ∷ l) r 0 < get_or (q ∷ l) (suc r) 0
all-ordered l q c a zero h = all_after l q c a 0 (omega arith)
all-ordered [] q c a (suc r) h = absurd (omega arith)
all-ordered (x ∷ l) q c a (suc r) h = all-ordered l x c.1 (onward q x l c a) r (omega arith)

-- every ascending quadruple from q on stands in the list from q on
abbrev Found : List ℕ → ℕ → Type 0
Found l y = (place_in l y < length l) × (get_or l (place_in l y) 0 ≡ y)

complete : (l : List ℕ) (q : ℕ) → Chain q l → Ascending q → (y : ℕ) → Ascending y → y ≤ 65535 → q ≤ y → Found (q ∷ l) y
complete [] q c a y b k h =
    let e : q ≡ y = omega arith in
    rw (eq-eqb q y e) (omega arith, e)
complete (x ∷ l) q c a y b k h = go (eqb q y) refl (complete l x c.1 (onward q x l c a) y b k)
  where
    go : (t : Bool) → eqb q y ≡ t → (x ≤ y → Found (x ∷ l) y)
        → (cond t 0 (suc (place_in (x ∷ l) y)) < length (q ∷ x ∷ l)) × (get_or (q ∷ x ∷ l) (cond t 0 (suc (place_in (x ∷ l) y))) 0 ≡ y)
    go true e r = (omega arith, eqb-true q y e)
    go false e r = let f = r (between q x l c a y b h (λ z. eqb-false q y e (sym z))) in (omega arith, f.1)

placed : (l : List ℕ) (q : ℕ) → Chain q l → Ascending q → (r : ℕ) → r < length (q ∷ l) → place_in (q ∷ l) (get_or (q ∷ l) r 0) ≡ r
placed l q c a zero h = rw (eq-eqb q q refl) refl
placed [] q c a (suc r) h = absurd (omega arith)
placed (x ∷ l) q c a (suc r) h =
    rw (ne_eqb q (get_or (x ∷ l) r 0) (λ z. omega (arith, all_after (x ∷ l) q c a r (omega arith)))) (ap suc (placed l x c.1 (onward q x l c a) r (omega arith)))

-- ── the rule ──
the-chain : Chain 0 (rest rows)
the-chain = chain (rest rows) 0 in_order

zero-ascends : Ascending 0
zero-ascends = omega arith

pub rows_right : RowsRight
unfolding row_of quadruple_at
rows_right = record {
  count = how-many;
  ascend = λ r h. (at r h).0;
  small = λ r h. omega (arith, (at r h).1);
  order = λ r h. rw (add-one, from_zero) (all-ordered (rest rows) 0 the-chain zero-ascends r (omega (arith, how-many, ap length from_zero)));
  whole = λ a b c d h l. there a b c d h l;
  back = λ r h. subst (λ (l : List ℕ). place_in l (get_or l r 0) ≡ r) (sym from_zero) (placed (rest rows) 0 the-chain zero-ascends r (omega (arith, how-many, ap length from_zero)));
}
  where
    there : (a b c d : ℕ) → Ascends a b c d → d < 16 → (place_in rows (quadruple a b c d) < 3876) × (get_or rows (place_in rows (quadruple a b c d)) 0 ≡ quadruple a b c d)
    there a b c d h l =
        let n = nibbles a b c d (omega arith) (omega arith) (omega arith) in
        let f : Found (0 ∷ rest rows) (quadruple a b c d) = complete (rest rows) 0 the-chain zero-ascends (quadruple a b c d) (omega arith) (omega arith) (omega arith) in
        let g : Found rows (quadruple a b c d) = subst (λ (l : List ℕ). Found l (quadruple a b c d)) (sym from_zero) f in
        (omega (arith, g.0, how-many), g.1)

    at : (r : ℕ) → r < 3876 → Ascending (get_or rows r 0) × (get_or rows r 0 ≤ 65535)
    at r h =
        subst (λ (l : List ℕ). Ascending (get_or l r 0) × (get_or l r 0 ≤ 65535)) (sym from_zero)
        (all-ascend (rest rows) 0 the-chain zero-ascends r (omega (arith, how-many, ap length from_zero)))
