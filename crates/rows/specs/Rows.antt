-- The rows: every ascending quadruple of high nibbles (document 01: leads) in dictionary order. A quadruple is one number, a nibble
-- each, the first highest, so that dictionary order is the order of numbers.
-- Assumes nothing.
use Rattle.std.specs.Prelude.{◌≡◌, cond, List, [], ◌∷◌, ◌++◌, map, ℕ, zero, suc, ◌+◌, ◌*◌, ◌/◌, ◌%◌, ◌-◌, ◌≤◌, ◌<◌, eqb, length, get_or}

abbrev pub quadruple : ℕ → ℕ → ℕ → ℕ → ℕ
quadruple a b c d = 4096 * a + 256 * b + 16 * c + d

-- the nibbles of a quadruple
abbrev pub nibble0 : ℕ → ℕ
nibble0 q = q / 4096

abbrev pub nibble1 : ℕ → ℕ
nibble1 q = q / 256 % 16

abbrev pub nibble2 : ℕ → ℕ
nibble2 q = q / 16 % 16

abbrev pub nibble3 : ℕ → ℕ
nibble3 q = q % 16

-- n numbers from a on
abbrev pub count_up : ℕ → ℕ → List ℕ
count_up zero a = []
count_up (suc n) a = a ∷ count_up n (suc a)

-- the nibbles from a on
abbrev pub nibbles_from : ℕ → List ℕ
nibbles_from a = count_up (16 - a) a

abbrev pub for_each : List ℕ → (ℕ → List ℕ) → List ℕ
for_each [] f = []
for_each (x ∷ l) f = f x ++ for_each l f

unfoldable pub rows : List ℕ
rows = for_each (nibbles_from 0) (λ a. for_each (nibbles_from a) (λ b. for_each (nibbles_from b) (λ c. map (quadruple a b c) (nibbles_from c))))

-- the row of a quadruple: its place in the list
abbrev pub place_in : List ℕ → ℕ → ℕ
place_in [] q = 0
place_in (x ∷ l) q = cond (eqb x q) 0 (suc (place_in l q))

unfoldable pub row_of : ℕ → ℕ
row_of q = place_in rows q

-- the quadruple of a row
unfoldable pub quadruple_at : ℕ → ℕ
quadruple_at r = get_or rows r 0

-- four values that ascend, repeats allowed
abbrev pub Ascends : ℕ → ℕ → ℕ → ℕ → Type 0
Ascends a b c d = (a ≤ b) × (b ≤ c) × (c ≤ d)

-- the rule of the rows: there are 3,876, each ascends in its nibbles, they are in strict dictionary order, and every ascending
-- quadruple of nibbles is among them; so row and quadruple are inverse
pub record RowsRight : Type 0 where
  pub count : length rows ≡ 3876
  pub ascend : (r : ℕ) → r < 3876 → Ascends (nibble0 (quadruple_at r)) (nibble1 (quadruple_at r)) (nibble2 (quadruple_at r)) (nibble3 (quadruple_at r))
  pub small : (r : ℕ) → r < 3876 → quadruple_at r < 65536
  pub order : (r : ℕ) → r + 1 < 3876 → quadruple_at r < quadruple_at (r + 1)
  pub whole : (a b c d : ℕ) → Ascends a b c d → d < 16 → (row_of (quadruple a b c d) < 3876) × (quadruple_at (row_of (quadruple a b c d)) ≡ quadruple a b c d)
  pub back : (r : ℕ) → r < 3876 → row_of (quadruple_at r) ≡ r

-- ── the row by counting ──
-- how many rows have a larger first nibble, a larger second after the same first, and a larger third after the same two
abbrev pub larger_first : List ℕ
larger_first = 3060 ∷ 2380 ∷ 1820 ∷ 1365 ∷ 1001 ∷ 715 ∷ 495 ∷ 330 ∷ 210 ∷ 126 ∷ 70 ∷ 35 ∷ 15 ∷ 5 ∷ 1 ∷ 0 ∷ []

abbrev pub larger_second : List ℕ
larger_second = 680 ∷ 560 ∷ 455 ∷ 364 ∷ 286 ∷ 220 ∷ 165 ∷ 120 ∷ 84 ∷ 56 ∷ 35 ∷ 20 ∷ 10 ∷ 4 ∷ 1 ∷ 0 ∷ []

abbrev pub larger_third : List ℕ
larger_third = 120 ∷ 105 ∷ 91 ∷ 78 ∷ 66 ∷ 55 ∷ 45 ∷ 36 ∷ 28 ∷ 21 ∷ 15 ∷ 10 ∷ 6 ∷ 3 ∷ 1 ∷ 0 ∷ []

-- the three one after the other
abbrev pub larger : List ℕ
larger = larger_first ++ (larger_second ++ larger_third)

-- how many rows come after four nibbles
abbrev pub after : ℕ → ℕ → ℕ → ℕ → ℕ
after a b c d = get_or larger_first a 0 + get_or larger_second b 0 + get_or larger_third c 0 + (15 - d)

-- the row of an ascending quadruple (`rank-is-row`), and a number for any other four
unfoldable pub rank_of : ℕ → ℕ → ℕ → ℕ → ℕ
rank_of a b c d = 3875 - after (a % 16) (b % 16) (c % 16) (d % 16)
