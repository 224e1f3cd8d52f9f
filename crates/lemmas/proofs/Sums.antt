-- Sums: compared, changed at one place, counted by fours, over each number of a list once, and what follows for lists of small numbers;
-- how often a remainder comes up.
-- Assumes nothing.
use mathlib.Core.Path.{◌≡◌, refl, sym, ap, ◌∙◌}
use mathlib.Core.Logic.{◌⊎◌, inl, inr, ◌≢◌}
use mathlib.Core.Bool.{Bool, cond}
use mathlib.Core.List.{List, [], ◌∷◌, ◌++◌}
use Prim.Native.Nat.{ℕ, zero, suc, ◌+◌, ◌*◌, ◌/◌, ◌%◌, ◌≤◌, ◌<◌}
use native.Mathlib.Nat.{zero-div, zero-mod, mod-lt, mod_self, mod-eq_of_lt, div_self, div-eq_of_lt, div-add-mod', mul-add-div_right, mul-add-mod_self_right}
use native.Mathlib.Decide.{dec_le}
use native.Mathlib.Omega.{arith}
use borrow.Author.Tests.{eq-eqb, ne_eqb, le-leb, lt-leb}
use lib.Dec.{eqb, leb}
use lib.ListN.{length}
use Rattle.lemmas.specs.Count.{hit, occ, ◌among◌}
use Rattle.lemmas.specs.Members.{AllAbove, Ascending, Alike}
use Rattle.lemmas.specs.Sums.{sum_to, times_below, total, total_once}
use Rattle.lemmas.proofs.Count.{hit-cases, hit-refl, hit-of, hit-ne, hit-sym, occ-append, zero-cases}

pub sum-le : (n : ℕ) (f g : ℕ → ℕ) → ((i : ℕ) → i < n → f i ≤ g i) → sum_to n f ≤ sum_to n g
sum-le zero f g h = omega arith
sum-le (suc n) f g h = omega (arith, sum-le n f g (λ i k. h i (omega arith)), h n (omega arith))

pub sum-eq : (n : ℕ) (f g : ℕ → ℕ) → ((i : ℕ) → i < n → f i ≡ g i) → sum_to n f ≡ sum_to n g
sum-eq zero f g h = refl
sum-eq (suc n) f g h = omega (arith, sum-eq n f g (λ i k. h i (omega arith)), h n (omega arith))

pub sum-zero : (n : ℕ) (f : ℕ → ℕ) → ((i : ℕ) → i < n → f i ≡ 0) → sum_to n f ≡ 0
sum-zero zero f h = refl
sum-zero (suc n) f h = omega (arith, sum-zero n f (λ i k. h i (omega arith)), h n (omega arith))

sum_one : (n : ℕ) → sum_to n (λ i. 1) ≡ n
sum_one zero = refl
sum_one (suc n) = omega (arith, sum_one n)

sum-add : (n : ℕ) (f g : ℕ → ℕ) → sum_to n (λ i. f i + g i) ≡ sum_to n f + sum_to n g
sum-add zero f g = refl
sum-add (suc n) f g = omega (arith, sum-add n f g)

-- two sums whose terms differ at i alone
pub sum-change : (n i : ℕ) (f g : ℕ → ℕ) → ((j : ℕ) → j ≢ i → f j ≡ g j) → i < n → sum_to n f + g i ≡ sum_to n g + f i
sum-change zero i f g h l = absurd (omega arith)
sum-change (suc n) i f g h l = elim (hit-cases n i) [
  | inl e ↦ omega (arith, sum-eq n f g (λ j k. h j (omega arith)), ap f e, ap g e)
  | inr z ↦ let ne : n ≢ i = hit-ne n i z in omega (arith, sum-change n i f g h (omega arith), h n ne)
]

-- four at a time
pub sum-by-fours : (n : ℕ) (g : ℕ → ℕ) → sum_to (4 * n) g ≡ sum_to n (λ x. g (4 * x) + g (4 * x + 1) + g (4 * x + 2) + g (4 * x + 3))
sum-by-fours zero g = refl
sum-by-fours (suc n) g =
    let e : 4 * suc n ≡ suc (suc (suc (suc (4 * n)))) = omega arith in
    rw e (omega (arith, sum-by-fours n g, at (suc (4 * n)) (4 * n + 1) (omega arith), at (suc (suc (4 * n))) (4 * n + 2) (omega arith), at (suc (suc (suc (4 * n)))) (4 * n + 3) (omega arith)))
  where
    at : (i j : ℕ) → i ≡ j → g i ≡ g j
    at i j e = ap g e

-- each number counted four times
pub sum-fours : (n : ℕ) (f : ℕ → ℕ) → sum_to (4 * n) (λ i. f (i / 4)) ≡ 4 * sum_to n f
sum-fours zero f = refl
sum-fours (suc n) f =
    let e : 4 * suc n ≡ suc (suc (suc (suc (4 * n)))) = omega arith in
    rw e (omega (arith, sum-fours n f, at (4 * n) (omega arith), at (suc (4 * n)) (omega arith), at (suc (suc (4 * n))) (omega arith), at (suc (suc (suc (4 * n)))) (omega arith)))
  where
    at : (i : ℕ) → i / 4 ≡ n → f (i / 4) ≡ f n
    at i e = ap f e

-- ── occurrences, summed ──
pub sum-hit-none : (n x : ℕ) → n ≤ x → sum_to n (hit x) ≡ 0
sum-hit-none n x h = sum-zero n (hit x) (λ i k. elim (hit-cases x i) [ inl e ↦ absurd (omega arith) | inr z ↦ z ])

pub sum-hit : (n x : ℕ) → x < n → sum_to n (hit x) ≡ 1
sum-hit zero x h = absurd (omega arith)
sum-hit (suc n) x h = elim (hit-cases x n) [
  | inl e ↦ omega (arith, sum-hit-none n x (omega arith), hit-of x n e)
  | inr z ↦ let ne : x ≢ n = hit-ne x n z in omega (arith, sum-hit n x (omega arith))
]

total-add : (f g : ℕ → ℕ) (l : List ℕ) → total (λ x. f x + g x) l ≡ total f l + total g l
total-add f g [] = refl
total-add f g (x ∷ l) = omega (arith, total-add f g l)

total-none : (l : List ℕ) → total (λ x. 0) l ≡ 0
total-none [] = refl
total-none (x ∷ l) = omega (arith, total-none l)

total-hit : (x : ℕ) (l : List ℕ) → total (λ y. hit y x) l ≡ occ x l
total-hit x [] = refl
total-hit x (y ∷ l) = omega (arith, total-hit x l, hit-sym x y)

pub total-one : {A : Type 0} (l : List A) → total (λ x. 1) l ≡ length l
total-one [] = refl
total-one (x ∷ l) = omega (arith, total-one l)

-- no number stands in l more than k times: l has at most k for each member of W
pub total-occ : (k : ℕ) (l W : List ℕ) → ((x : ℕ) → occ x l ≤ k) → total (λ x. occ x W) l ≤ k * length W
total-occ k l [] h = omega (arith, total-none l)
total-occ k l (x ∷ W) h =
    let e : k * suc (length W) ≡ k + k * length W = omega arith in
    omega (arith, total-add (λ y. hit y x) (λ y. occ y W) l, total-hit x l, h x, total-occ k l W h)

-- the members of W, all below n, are met on the way to n
pub sum-occ : (n : ℕ) (W : List ℕ) → ((x : ℕ) → x among W → x < n) → sum_to n (λ i. occ i W) ≡ length W
sum-occ n [] h = sum-zero n (λ i. 0) (λ i k. refl)
sum-occ n (x ∷ W) h = omega (
  arith,
  sum-add n (λ i. hit i x) (λ i. occ i W),
  sum-eq n (λ i. hit i x) (hit x) (λ i k. hit-sym i x),
  sum-hit n x (h x (omega (arith, hit-refl x))),
  sum-occ n W (λ y k. h y (omega arith)),
)

-- a list of numbers below n without repeats
pub few : (n : ℕ) (W : List ℕ) → ((x : ℕ) → x among W → x < n) → ((x : ℕ) → occ x W ≤ 1) → length W ≤ n
few n W h o = omega (arith, sum-occ n W h, sum-le n (λ i. occ i W) (λ i. 1) (λ i k. o i), sum_one n)

-- ── each number of a list once ──
-- a number's term, by how often it stands there
pub once-in : (o v : ℕ) → 1 ≤ o → cond (eqb o 0) 0 v ≡ v
once-in o v h = rw (ne_eqb o 0 (λ e. omega arith)) refl

pub once-out : (o v : ℕ) → o ≡ 0 → cond (eqb o 0) 0 v ≡ 0
once-out o v e = rw (eq-eqb o 0 e) refl

above-none : (x : ℕ) (l : List ℕ) → AllAbove x l → occ x l ≡ 0
above-none x [] a = refl
above-none x (y ∷ l) a = elim (hit-cases x y) [ inl e ↦ absurd (omega (arith, a.0)) | inr z ↦ omega (arith, above-none x l a.1) ]

module _ (n : ℕ) (w : ℕ → ℕ) where
  -- m has x, and every other number as often as l
  once_more : (l m : List ℕ) (x : ℕ) → x < n → x among m → ((j : ℕ) → j ≢ x → occ j m ≡ occ j l)
      → total_once n w m + cond (eqb (occ x l) 0) 0 (w x) ≡ total_once n w l + w x
  unfolding total_once
  once_more l m x h g e = omega (
    arith,
    sum-change n x (λ y. cond (eqb (occ y m) 0) 0 (w y)) (λ y. cond (eqb (occ y l) 0) 0 (w y)) (λ j k. ap (λ (o : ℕ). cond (eqb o 0) 0 (w j)) (e j k)) h,
    once-in (occ x m) (w x) g,
  )

  module _ (l : List ℕ) (x : ℕ) (h : x < n) where
    behind : (j : ℕ) → j ≢ x → occ j (l ++ (x ∷ [])) ≡ occ j l
    behind j k = elim (hit-cases j x) [ inl e ↦ absurd (k e) | inr z ↦ omega (arith, occ-append j l (x ∷ [])) ]

    at-end : x among l ++ (x ∷ [])
    at-end = omega (arith, occ-append x l (x ∷ []), hit-refl x)

    -- a number put behind the list: one that was not there, and one that was
    pub once-new : occ x l ≡ 0 → total_once n w (l ++ (x ∷ [])) ≡ total_once n w l + w x
    once-new e = omega (arith, once_more l (l ++ (x ∷ [])) x h at-end behind, once-out (occ x l) (w x) e)

    pub once-again : x among l → total_once n w (l ++ (x ∷ [])) ≡ total_once n w l
    once-again g = omega (arith, once_more l (l ++ (x ∷ [])) x h at-end behind, once-in (occ x l) (w x) g)

  pub once-nil : total_once n w [] ≡ 0
  unfolding total_once
  once-nil = sum-zero n (λ y. 0) (λ y k. refl)

  -- lists with the same members have the same sum
  pub once-alike : (l m : List ℕ) → Alike l m → total_once n w l ≡ total_once n w m
  unfolding total_once
  once-alike l m a = sum-eq n (λ y. cond (eqb (occ y l) 0) 0 (w y)) (λ y. cond (eqb (occ y m) 0) 0 (w y)) (λ y k. go y (zero-cases (occ y l)) (zero-cases (occ y m)))
    where
      go : (y : ℕ) → (occ y l ≡ 0) ⊎ (1 ≤ occ y l) → (occ y m ≡ 0) ⊎ (1 ≤ occ y m) → cond (eqb (occ y l) 0) 0 (w y) ≡ cond (eqb (occ y m) 0) 0 (w y)
      go y (inl e) (inl f) = omega (arith, once-out (occ y l) (w y) e, once-out (occ y m) (w y) f)
      go y (inl e) (inr g) = absurd (omega (arith, (a y).1 g))
      go y (inr g) (inl f) = absurd (omega (arith, (a y).0 g))
      go y (inr g) (inr k) = omega (arith, once-in (occ y l) (w y) g, once-in (occ y m) (w y) k)

  -- and a list without repeats has its plain sum
  pub once-total : (l : List ℕ) → Ascending l → ((x : ℕ) → x among l → x < n) → total_once n w l ≡ total w l
  once-total [] a h = once-nil
  once-total (x ∷ l) a h = omega (
    arith,
    once_more l (x ∷ l) x (h x (omega (arith, hit-refl x))) (omega (arith, hit-refl x))
        (λ j k. elim (hit-cases j x) [ inl e ↦ absurd (k e) | inr z ↦ omega arith ]),
    once-out (occ x l) (w x) (above-none x l a.0),
    once-total l a.1 (λ y k. h y (omega arith)),
  )

-- ── how often ──
-- functions that agree below n have each value equally often
pub times-eq : (n : ℕ) (f g : ℕ → ℕ) (p : ℕ) → ((i : ℕ) → i < n → f i ≡ g i) → times_below n f p ≡ times_below n g p
unfolding times_below
times-eq n f g p h = sum-eq n (λ x. hit (f x) p) (λ x. hit (g x) p) (λ i l. ap (λ (y : ℕ). hit y p) (h i l))

-- values that are all one higher
pub times-suc : (n : ℕ) (f : ℕ → ℕ) (p : ℕ) → times_below n (λ x. 1 + f x) (suc p) ≡ times_below n f p
unfolding times_below
times-suc n f p = sum-eq n (λ x. hit (1 + f x) (suc p)) (λ x. hit (f x) p) (λ i l. same (f i))
  where
    same : (y : ℕ) → hit (1 + y) (suc p) ≡ hit y p
    same y = elim (hit-cases y p) [
      | inl e ↦ omega (arith, hit-of y p e, hit-of (1 + y) (suc p) (omega arith))
      | inr z ↦ elim (hit-cases (1 + y) (suc p)) [ inl e ↦ absurd (hit-ne y p z (omega arith)) | inr w ↦ omega arith ]
    ]

-- the remainder r comes up once in each full round of d, and once more where the last round gets as far
module _ (d r : ℕ) (below : r < d) where
  reached : ℕ → ℕ
  reached m = cond (leb (suc r) m) 1 0

  passed : (m : ℕ) → r < m → reached m ≡ 1
  unfolding reached
  passed m l = ap (λ (b : Bool). cond b 1 0) (le-leb (suc r) m l)

  ahead : (m : ℕ) → m ≤ r → reached m ≡ 0
  unfolding reached
  ahead m l = ap (λ (b : Bool). cond b 1 0) (lt-leb (suc r) m (omega arith))

  -- one number further in a round
  further : (m : ℕ) → reached m + hit m r ≡ reached (m + 1)
  further m = elim (hit-cases m r) [
    | inl e ↦ omega (arith, hit-of m r e, ahead m (omega arith), passed (m + 1) (omega arith))
    | inr z ↦ elim (dec_le (m + 1) r) [
      | yes l ↦ omega (arith, ahead m (omega arith), ahead (m + 1) l)
      | no n ↦ let ne = hit-ne m r z in omega (arith, passed m (omega arith), passed (m + 1) (omega arith))
    ]
  ]

  -- the next number is in the same round or begins another
  turn : (m : ℕ) → m < d → reached (m + 1) ≡ (m + 1) / d + reached ((m + 1) % d)
  turn m l = elim (dec_le d (m + 1)) [
    | yes h ↦ let e : m + 1 ≡ d = omega arith in
        rw (e, div_self {n = d} (omega arith), mod_self d) (omega (arith, passed d below, ahead 0 (omega arith)))
    | no h ↦ rw (div-eq_of_lt {n = m + 1} {m = d} (omega arith), mod-eq_of_lt {n = m + 1} {m = d} (omega arith)) (omega arith)
  ]

  rounds : (n : ℕ) → times_below n (λ x. x % d) r ≡ n / d + reached (n % d)
  unfolding times_below
  rounds zero = omega (arith, zero-div d, ap reached (zero-mod d), ahead 0 (omega arith))
  rounds (suc n) =
      let m = n % d in
      let e : n / d * d + (m + 1) ≡ suc n = omega (arith, div-add-mod' n d) in
      let quotient : suc n / d ≡ n / d + (m + 1) / d = ap (λ (x : ℕ). x / d) (sym e) ∙ mul-add-div_right {m = d} (omega arith) (n / d) (m + 1) in
      let rest : suc n % d ≡ (m + 1) % d = ap (λ (x : ℕ). x % d) (sym e) ∙ mul-add-mod_self_right (n / d) d (m + 1) in
      omega (arith, rounds n, further m, turn m (mod-lt n (omega arith)), quotient, ap reached rest)

  pub times_mod : (n : ℕ) → times_below n (λ x. x % d) r ≡ n / d + cond (leb (suc r) (n % d)) 1 0
  unfolding reached
  times_mod n = rounds n
