-- The row of a quadruple by counting the rows after it: one computed test over the whole table, that at row k the four counts and k
-- make 3,875.
-- Assumes nothing.
use mathlib.Core.Path.{◌≡◌, refl, ap, subst, ◌∙◌}
use mathlib.Core.Bool.{Bool}
use mathlib.Core.List.{List}
use Prim.Native.Nat.{ℕ, ◌+◌, ◌-◌, ◌%◌, ◌≤◌, ◌<◌}
use native.Mathlib.Omega.{arith}
use lib.Dec.{T, eqb, leb, eqb→eq, leb→le}
use lib.ListN.{length, get_or}
use Rattle.rows.specs.Rows.{quadruple, nibble0, nibble1, nibble2, nibble3, rows, row_of, quadruple_at, Ascends, larger_first, larger_second, larger_third, larger, after, rank_of}
use Rattle.rows.proofs.Tests.{every, at}
use Rattle.rows.proofs.Rows.{nibbles, rows_right}

abbrev counts : ℕ → ℕ → Bool
counts k q = eqb (after (nibble0 q) (nibble1 q) (nibble2 q) (nibble3 q) + k) 3875

all-count : T (every counts 0 rows)
unfolding rows
all-count = tt

counted : (a b c d : ℕ) → Ascends a b c d → d < 16 → after a b c d + row_of (quadruple a b c d) ≡ 3875
unfolding quadruple_at
counted a b c d h l =
    let q : ℕ = quadruple a b c d in
    let w = rows_right.whole a b c d h l in
    let n = nibbles a b c d (omega arith) (omega arith) (omega arith) in
    let t : T (counts (row_of q) q) = subst (λ (x : ℕ). T (counts (row_of q) x)) w.1 (at counts rows all-count (row_of q) (omega (arith, w.0, rows_right.count))) in
    subst (λ (x : ℕ). after x b c d + row_of q ≡ 3875) n.0
    (subst (λ (x : ℕ). after (nibble0 q) x c d + row_of q ≡ 3875) n.1
    (subst (λ (x : ℕ). after (nibble0 q) (nibble1 q) x d + row_of q ≡ 3875) n.2
    (subst (λ (x : ℕ). after (nibble0 q) (nibble1 q) (nibble2 q) x + row_of q ≡ 3875) n.3
    (eqb→eq _ 3875 t))))

pub rank-is-row : (a b c d : ℕ) → Ascends a b c d → d < 16 → rank_of a b c d ≡ row_of (quadruple a b c d)
unfolding rank_of
rank-is-row a b c d h l =
    let ea : a % 16 ≡ a = omega arith in
    let eb : b % 16 ≡ b = omega arith in
    let ec : c % 16 ≡ c = omega arith in
    let ed : d % 16 ≡ d = omega arith in
    rw (ea, eb, ec, ed) (omega (arith, counted a b c d h l))

-- a rank is a row's, whatever the four numbers are
pub rank-small : (a b c d : ℕ) → rank_of a b c d ≤ 3875
unfolding rank_of
rank-small a b c d = omega arith

-- ── the counts in one list ──
-- a part of the list from place o on, and a bound of it, by computed tests
part_at : (l part : List ℕ) (o k : ℕ)
    → l ≡ larger → T (every (λ i x. eqb (get_or larger (i + o) 0) x) 0 part) → length part ≡ 16 → k < 16 → get_or l (k + o) 0 ≡ get_or part (k % 16) 0
part_at l part o k e t n h =
    let m : k % 16 ≡ k = omega arith in
    rw m (ap (λ (x : List ℕ). get_or x (k + o) 0) e ∙ eqb→eq _ _ (at (λ i x. eqb (get_or larger (i + o) 0) x) part t k (omega arith)))

part-few : (part : List ℕ) (m k : ℕ) → T (every (λ i x. leb x m) 0 part) → length part ≡ 16 → get_or part (k % 16) 0 ≤ m
part-few part m k t n = leb→le _ m (at (λ i x. leb x m) part t (k % 16) (omega arith))

-- the counts at three nibbles' places: how large they get, and that they and the fourth nibble give the rank
pub record Counts (x y z a b c d : ℕ) : Type 0 where
  pub few : (x < 3061) × (y < 681) × (z < 121)
  pub rank : 3860 + d - x - y - z ≡ rank_of a b c d

pub counts-at : (l : List ℕ) (a b c d : ℕ) → l ≡ larger → a < 16 → b < 16 → c < 16 → d < 16 → Counts (get_or l a 0) (get_or l (b + 16) 0) (get_or l (c + 32) 0) a b c d
unfolding rank_of
counts-at l a b c d e ha hb hc hd =
    let none : a + 0 ≡ a = omega arith in
    made (get_or l a 0) (get_or l (b + 16) 0) (get_or l (c + 32) 0)
    (rw none at (part_at l larger_first 0 a e tt refl ha)) (part_at l larger_second 16 b e tt refl hb) (part_at l larger_third 32 c e tt refl hc)
    (part-few larger_first 3060 a tt refl) (part-few larger_second 680 b tt refl) (part-few larger_third 120 c tt refl)
  where
    made : (x y z : ℕ) → x ≡ get_or larger_first (a % 16) 0 → y ≡ get_or larger_second (b % 16) 0 → z ≡ get_or larger_third (c % 16) 0
        → get_or larger_first (a % 16) 0 ≤ 3060 → get_or larger_second (b % 16) 0 ≤ 680 → get_or larger_third (c % 16) 0 ≤ 120 → Counts x y z a b c d
    made x y z ex ey ez fx fy fz = record { few = (omega arith, omega arith, omega arith); rank = omega arith }
