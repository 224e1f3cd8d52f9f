-- Two tables whose buckets hold the same values, in whatever order: for each list of moves that makes room in one there is one of the same
-- length in the other. So a hold, which makes the fewest, makes as many in both.
-- Assumes nothing.
use mathlib.Core.Path.{◌≡◌, refl, sym, ap, subst, ◌∙◌}
use mathlib.Core.Logic.{◌≢◌, inl, inr}
use mathlib.Core.Option.{none}
use mathlib.Core.List.{List, [], ◌∷◌, ◌++◌}
use Prim.Native.Nat.{ℕ, zero, suc, ◌+◌, ◌*◌, ◌/◌, ◌%◌, ◌≤◌, ◌<◌}
use native.Mathlib.Decide.{ℕ_discrete, dec_lt}
use native.Mathlib.Omega.{arith}
use lib.ListN.{length, set, length-set, get_or-eq_default}
use lib.Seq.{get_or-set_same, get_or-set_other}
use Rattle.lemmas.specs.Count.{hit, ◌among◌}
use Rattle.lemmas.proofs.Count.{hit-cases, hit-of}
use Rattle.index.specs.Settings.{settings_refusal}
use Rattle.index.specs.Candidates.{candidates}
use Rattle.index.specs.declared.Settings.{Settings}
use Rattle.index.proofs.Laws.{laws}
use Rattle.calls.specs.Cells.{cell}
use Rattle.calls.specs.FewestMoves.{Move, moved, Allowed, MakesRoom, FewestMoves}
use Rattle.packed_form.specs.Writer.{sort4, sort_buckets}
use Rattle.packed_form.proofs.Sort.{fours, sort-total}

-- ── what a bucket holds ──
abbrev at : List ℕ → ℕ → ℕ → ℕ
at c b k = cell c (4 * b + k)

-- its values, each weighed
abbrev weighed : List ℕ → ℕ → (ℕ → ℕ) → ℕ
weighed c b g = g (at c b 0) + g (at c b 1) + g (at c b 2) + g (at c b 3)

pub record Alike (c k : List ℕ) : Type 0 where
  pub same : (b : ℕ) (g : ℕ → ℕ) → weighed c b g ≡ weighed k b g

pub alike-back : {c k : List ℕ} → Alike c k → Alike k c
alike-back A = record { same = λ b g. sym (A.same b g) }

-- ── sorted buckets hold what they held ──
at_next : (a b c d : ℕ) (l : List ℕ) (x k : ℕ) → at (a ∷ b ∷ c ∷ d ∷ l) (suc x) k ≡ at l x k
at_next a b c d l x k = let e : 4 * suc x + k ≡ suc (suc (suc (suc (4 * x + k)))) = omega arith in ap (cell (a ∷ b ∷ c ∷ d ∷ l)) e

weighed-next : (a b c d : ℕ) (l : List ℕ) (x : ℕ) (g : ℕ → ℕ) → weighed (a ∷ b ∷ c ∷ d ∷ l) (suc x) g ≡ weighed l x g
weighed-next a b c d l x g = rw (at_next a b c d l x 0, at_next a b c d l x 1, at_next a b c d l x 2, at_next a b c d l x 3) refl

weighed-sorted : (m : ℕ) (l : List ℕ) → length l ≡ 4 * m → (b : ℕ) (g : ℕ → ℕ) → weighed (sort_buckets l) b g ≡ weighed l b g
unfolding sort_buckets
weighed-sorted = fours (λ m l. (b : ℕ) (g : ℕ → ℕ) → weighed (sort_buckets l) b g ≡ weighed l b g) (λ b g. refl) step
  where
    step : (m a b c d : ℕ) (l : List ℕ) → length l ≡ 4 * m → ((x : ℕ) (g : ℕ → ℕ) → weighed (sort_buckets l) x g ≡ weighed l x g)
        → (x : ℕ) (g : ℕ → ℕ) → weighed (sort4 a b c d ++ sort_buckets l) x g ≡ weighed (a ∷ b ∷ c ∷ d ∷ l) x g
    step m a b c d l e ih zero g = omega (arith, sort-total a b c d g)
    step m a b c d l e ih (suc x) g = weighed-next _ _ _ _ (sort_buckets l) x g ∙ ih x g ∙ sym (weighed-next a b c d l x g)

pub sorted-alike : (m : ℕ) (l : List ℕ) → length l ≡ 4 * m → Alike (sort_buckets l) l
sorted-alike m l e = record { same = weighed-sorted m l e }

-- ── what stands in a cell of one stands in a cell of that bucket in the other ──
place : (c : List ℕ) (i : ℕ) → 1 ≤ weighed c (i / 4) (hit (cell c i))
place c i = go (i % 4) refl
  where
    go : (r : ℕ) → i % 4 ≡ r → 1 ≤ weighed c (i / 4) (hit (cell c i))
    go zero e = let q = hit-of (cell c i) (at c (i / 4) 0) (ap (cell c) (omega arith)) in omega (arith, q)
    go (suc zero) e = let q = hit-of (cell c i) (at c (i / 4) 1) (ap (cell c) (omega arith)) in omega (arith, q)
    go (suc (suc zero)) e = let q = hit-of (cell c i) (at c (i / 4) 2) (ap (cell c) (omega arith)) in omega (arith, q)
    go (suc (suc (suc zero))) e = let q = hit-of (cell c i) (at c (i / 4) 3) (ap (cell c) (omega arith)) in omega (arith, q)
    go (suc (suc (suc (suc r)))) e = absurd (omega arith)

record Twin (c k : List ℕ) (i : ℕ) : Type 0 where
  pub index : ℕ
  pub bucket : index / 4 ≡ i / 4
  pub value : cell k index ≡ cell c i

twin : (c k : List ℕ) → Alike c k → (i : ℕ) → Twin c k i
twin c k A i =
    let v = cell c i in
    let b = i / 4 in
    elim (hit-cases v (at k b 0)) [
      | inl e ↦ record { index = 4 * b + 0; bucket = omega arith; value = sym e }
      | inr z0 ↦ elim (hit-cases v (at k b 1)) [
        | inl e ↦ record { index = 4 * b + 1; bucket = omega arith; value = sym e }
        | inr z1 ↦ elim (hit-cases v (at k b 2)) [
          | inl e ↦ record { index = 4 * b + 2; bucket = omega arith; value = sym e }
          | inr z2 ↦ elim (hit-cases v (at k b 3)) [
            | inl e ↦ record { index = 4 * b + 3; bucket = omega arith; value = sym e }
            | inr z3 ↦ absurd (omega (arith, place c i, A.same b (hit v)))
          ]
        ]
      ]
    ]

-- ── a write ──
module _ (c : List ℕ) (i x : ℕ) where
  other : (b k : ℕ) → k < 4 → b ≢ i / 4 → at (set c i x) b k ≡ at c b k
  other b k h n = get_or-set_other c i (4 * b + k) x 0 (λ e. n (omega arith))

  away : (b : ℕ) → b ≢ i / 4 → (g : ℕ → ℕ) → weighed (set c i x) b g ≡ weighed c b g
  away b n g = rw (other b 0 (omega arith) n, other b 1 (omega arith) n, other b 2 (omega arith) n, other b 3 (omega arith) n) refl

  module _ (l : i < length c) (g : ℕ → ℕ) where
    here : (k : ℕ) → i % 4 ≡ k → g (at (set c i x) (i / 4) k) + g (cell c i) ≡ g (at c (i / 4) k) + g x
    here k e = let q : 4 * (i / 4) + k ≡ i = omega arith in rw (q, get_or-set_same c i x 0 l) (omega arith)

    there : (k : ℕ) → k < 4 → i % 4 ≢ k → g (at (set c i x) (i / 4) k) ≡ g (at c (i / 4) k)
    there k h n = ap g (get_or-set_other c i (4 * (i / 4) + k) x 0 (λ e. n (omega arith)))

    inside : weighed (set c i x) (i / 4) g + g (cell c i) ≡ weighed c (i / 4) g + g x
    inside = go (i % 4) refl
      where
        go : (r : ℕ) → i % 4 ≡ r → weighed (set c i x) (i / 4) g + g (cell c i) ≡ weighed c (i / 4) g + g x
        go zero e = omega (arith, here 0 e, there 1 (omega arith) (λ q. omega arith), there 2 (omega arith) (λ q. omega arith), there 3 (omega arith) (λ q. omega arith))
        go (suc zero) e = omega (arith, there 0 (omega arith) (λ q. omega arith), here 1 e, there 2 (omega arith) (λ q. omega arith), there 3 (omega arith) (λ q. omega arith))
        go (suc (suc zero)) e = omega (arith, there 0 (omega arith) (λ q. omega arith), there 1 (omega arith) (λ q. omega arith), here 2 e, there 3 (omega arith) (λ q. omega arith))
        go (suc (suc (suc zero))) e = omega (arith, there 0 (omega arith) (λ q. omega arith), there 1 (omega arith) (λ q. omega arith), there 2 (omega arith) (λ q. omega arith), here 3 e)
        go (suc (suc (suc (suc r)))) e = absurd (omega arith)

-- ── a move ──
-- v moves to an empty cell of another bucket, and what that does to each bucket
record Moves (c : List ℕ) (m : Move) (v : ℕ) : Type 0 where
  pub is : cell c m.source ≡ v
  pub free : cell c m.target ≡ 0
  pub apart : m.target / 4 ≢ m.source / 4
  pub from : m.source < length c
  pub to : m.target < length c

module _ (c : List ℕ) (m : Move) (v : ℕ) (M : Moves c m v) (g : ℕ → ℕ) where
  abbrev mid : List ℕ
  mid = set c m.target (cell c m.source)

  kept : cell mid m.source ≡ v
  kept = get_or-set_other c m.target m.source (cell c m.source) 0 (λ e. M.apart (ap (λ (x : ℕ). x / 4) (sym e))) ∙ M.is

  at_source : (b : ℕ) → b ≡ m.source / 4 → weighed (moved c m) b g + g v ≡ weighed c b g + g 0
  at_source b e =
      let first = away c m.target (cell c m.source) (m.source / 4) (λ e. M.apart (sym e)) g in
      let second = inside mid m.source 0 (omega (arith, M.from, length-set c m.target (cell c m.source))) g in
      rw e (omega (arith, first, second, ap g kept))

  at_target : (b : ℕ) → b ≡ m.target / 4 → weighed (moved c m) b g + g 0 ≡ weighed c b g + g v
  at_target b e =
      let first = inside c m.target (cell c m.source) M.to g in
      let second = away mid m.source 0 (m.target / 4) M.apart g in
      rw e (omega (arith, first, second, ap g M.free, ap g M.is))

  elsewhere : (b : ℕ) → b ≢ m.source / 4 → b ≢ m.target / 4 → weighed (moved c m) b g ≡ weighed c b g
  elsewhere b n o = away mid m.source 0 b n g ∙ away c m.target (cell c m.source) b o g

-- one in each of two tables, of the same value between the same buckets
moved-alike : (c k : List ℕ) (m n : Move) (v : ℕ) → Moves c m v → Moves k n v → n.source / 4 ≡ m.source / 4 → n.target / 4 ≡ m.target / 4 → Alike c k → Alike (moved c m) (moved k n)
moved-alike c k m n v M N i j A = record { same = by }
  where
    by : (b : ℕ) (g : ℕ → ℕ) → weighed (moved c m) b g ≡ weighed (moved k n) b g
    by b g = elim (ℕ_discrete b (m.source / 4)) [
      | yes e ↦ omega (arith, at_source c m v M g b e, at_source k n v N g b (e ∙ sym i), A.same b g)
      | no o ↦ elim (ℕ_discrete b (m.target / 4)) [
        | yes e ↦ omega (arith, at_target c m v M g b e, at_target k n v N g b (e ∙ sym j), A.same b g)
        | no q ↦ omega (arith, elsewhere c m v M g b o q, elsewhere k n v N g b (λ e. o (e ∙ i)) (λ e. q (e ∙ j)), A.same b g)
      ]
    ]

moved_length : (c : List ℕ) (m : Move) → length (moved c m) ≡ length c
moved_length c m = length-set (set c m.target (cell c m.source)) m.source 0 ∙ length-set c m.target (cell c m.source)

-- ── moves in one table, and as many in the other ──
module _ (s : Settings) (good : settings_refusal s ≡ none) where
  record Other (k : List ℕ) (p b n : ℕ) : Type 0 where
    pub moves : List Move
    pub makes : MakesRoom s k p b moves
    pub many : length moves ≡ n

  within : (c : List ℕ) (i : ℕ) → cell c i ≢ 0 → i < length c
  within c i n = elim (dec_lt i (length c)) [ yes h ↦ h | no h ↦ absurd (n (get_or-eq_default c 0 {n = i} (omega arith))) ]

  as_many : (ms : List Move) (c k : List ℕ) (p b : ℕ) → length c ≡ 4 * s.buckets → length k ≡ 4 * s.buckets → Alike c k → MakesRoom s c p b ms → Other k p b (length ms)
  as_many [] c k p b C K A r =
      let t = twin c k A r.room in
      record {
        moves = [];
        makes = record { allowed = tt; room = t.index; candidate = subst (λ (x : ℕ). x among candidates s p b) (sym t.bucket) r.candidate; empty = t.value ∙ r.empty };
        many = refl;
      }
  as_many (m ∷ ms) c k p b C K A r =
      let a = r.allowed.0 in
      let i = twin c k A m.source in
      let j = twin c k A m.target in
      let n : Move = record { source = i.index; target = j.index } in
      let from = within c m.source a.filled in
      let below : m.target / 4 < s.buckets = (laws s good).below (cell c m.source) (m.source / 4) (m.target / 4) (omega arith) a.candidate in
      let apart : j.index / 4 ≢ i.index / 4 = λ e. a.another (sym j.bucket ∙ e ∙ i.bucket) in
      let here : Allowed s k n = record {
        filled = λ e. a.filled (sym i.value ∙ e);
        empty = j.value ∙ a.empty;
        candidate = rw (i.value, i.bucket, j.bucket) a.candidate;
        another = apart;
      } in
      let rest : MakesRoom s (moved c m) p b ms = record { allowed = r.allowed.1; room = r.room; candidate = r.candidate; empty = r.empty } in
      let v = cell c m.source in
      let M : Moves c m v = record { is = refl; free = a.empty; apart = a.another; from = from; to = omega (arith, below) } in
      let N : Moves k n v = record { is = i.value; free = here.empty; apart = apart; from = within k i.index here.filled; to = omega (arith, below, j.bucket) } in
      let o = as_many ms (moved c m) (moved k n) p b (moved_length c m ∙ C) (moved_length k n ∙ K) (moved-alike c k m n v M N i.bucket j.bucket A) rest in
      record { moves = n ∷ o.moves; makes = record { allowed = (here, o.makes.allowed); room = o.makes.room; candidate = o.makes.candidate; empty = o.makes.empty }; many = omega (arith, o.many) }

  -- so what was placed with the fewest moves in both was placed with as many
  pub same-moves : (c k c' k' : List ℕ) (p b d e : ℕ) → length c ≡ 4 * s.buckets → length k ≡ 4 * s.buckets → Alike c k → FewestMoves s c p b d c' → FewestMoves s k p b e k' → d ≡ e
  same-moves c k c' k' p b d e C K A F G =
      let f = F.attained in
      let g = G.attained in
      let there = as_many f.0 c k p b C K A f.1 in
      let back = as_many g.0 k c p b K C (alike-back A) g.1 in
      omega (arith, G.least there.moves there.makes, there.many, f.2, F.least back.moves back.makes, back.many, g.2)
