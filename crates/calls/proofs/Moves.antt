-- The moves along a relocation path: the table then has its old entries and the new one.
-- Assumes nothing.
use mathlib.Core.Path.{◌≡◌, sym, ap, ◌∙◌}
use mathlib.Core.Logic.{inl, inr, ◌≢◌}
use mathlib.Core.List.{List, [], ◌∷◌}
use Prim.Native.Nat.{ℕ, ◌+◌, ◌*◌, ◌/◌, ◌<◌}
use native.Mathlib.Omega.{arith}
use lib.ListN.{length, set, length-set}
use lib.Seq.{get_or-set_same, get_or-set_other}
use Rattle.lemmas.specs.Count.{occ, ◌among◌}
use Rattle.lemmas.specs.Sums.{total}
use Rattle.lemmas.proofs.Count.{hit-cases, hit-of, hit-ne}
use Rattle.index.specs.Candidates.{candidates, Class, class_at}
use Rattle.index.specs.Laws.{Laws}
use Rattle.index.specs.declared.Settings.{Settings}
use Rattle.calls.specs.Cells.{cell}
use Rattle.calls.specs.Search.{Node, relocate}
use Rattle.calls.specs.Demand.{entries}
use Rattle.calls.specs.Multiset.{Same}
use Rattle.calls.proofs.Classes.{class_same}
use Rattle.calls.proofs.Nodes.{buckets_on}
use Rattle.calls.proofs.Queue.{Chain, Ended}
use Rattle.calls.proofs.Weights.{weight_at, weight-empty, weight-filled, weight-same, total-set}

pub length-relocate : (c : List ℕ) (i : ℕ) (p : List ℕ) (v : ℕ) → length (relocate c i p v) ≡ length c
length-relocate c i [] v = length-set c i v
length-relocate c i (j ∷ p) v = length-relocate (set c i (cell c j)) j p v ∙ length-set c i (cell c j)

-- the entry that is moved still stands where it was
pub moved-cell : (c : List ℕ) (i j : ℕ) → i < length c → cell (set c i (cell c j)) j ≡ cell c j
moved-cell c i j l = elim (hit-cases j i) [
  | inl k ↦ rw k (get_or-set_same c i (cell c i) 0 l)
  | inr z ↦ get_or-set_other c i j (cell c j) 0 (hit-ne j i z)
]

module _ (s : Settings) (L : Laws s) where
  -- a cell outside the path's buckets is overwritten
  pub chain-set : (c rs : List ℕ) (i u b : ℕ) (p : List ℕ) → occ (i / 4) (buckets_on p) ≡ 0 → Chain s c rs b p → Chain s (set c i u) rs b p
  chain-set c rs i u b [] z h = h
  chain-set c rs i u b (j ∷ p) z h =
      let n : j ≢ i = λ e. omega (arith, hit-of (i / 4) (j / 4) (ap (λ (k : ℕ). k / 4) (sym e))) in
      (rw (get_or-set_other c i j u 0 n) h.0, h.1, h.2, chain-set c rs i u (j / 4) p (omega arith) h.3)

  -- v is placed from bucket b: what stood in cell i is gone
  relocate-total : (w : Class → ℕ) (v b : ℕ) → v ≢ 0 → b < s.buckets → (c : List ℕ) (i : ℕ) (p : List ℕ) → length c ≡ 4 * s.buckets → i < 4 * s.buckets
      → Chain s c (candidates s v b) (i / 4) p
      → total w (entries s (relocate c i p v)) + weight_at s w i (cell c i) ≡ total w (entries s c) + w (class_at s v b)
  relocate-total w v b n l c i [] e m g =
      omega (arith, total-set s w c i v m (omega arith), weight-filled s w i v n, ap w (class_same s L v b (i / 4) l g))
  relocate-total w v b n l c i (j ∷ p) e m g =
      omega (
        arith,
        total-set s w c i (cell c j) m (omega arith),
        weight-same s w L i j (cell c j) g.1 g.0,
        ap (weight_at s w j) (moved-cell c i j (omega arith)),
        relocate-total w v b n l (set c i (cell c j)) j p (length-set c i (cell c j) ∙ e) g.1
            (chain-set c (candidates s v b) i (cell c j) (j / 4) p (omega (arith, g.2)) g.3),
      )

  -- a hold without moves, in an empty cell of a candidate
  pub placed_total : (c : List ℕ) (v b i : ℕ) → v ≢ 0 → b < s.buckets → length c ≡ 4 * s.buckets → cell c i ≡ 0 → (i / 4) among candidates s v b
      → Same (entries s (set c i v)) (class_at s v b ∷ entries s c)
  placed_total c v b i n l e z h w =
      let m : i / 4 < s.buckets = L.below v b (i / 4) l h in
      omega (arith, relocate-total w v b n l c i [] e (omega arith) h, weight-empty s w i (cell c i) z)

  -- a hold at the end of a search
  pub relocated-total : (c : List ℕ) (v b i : ℕ) (n : Node) (q : List Node) → v ≢ 0 → b < s.buckets → length c ≡ 4 * s.buckets → Ended s c (candidates s v b) i n q
      → Same (entries s (relocate c i n.path v)) (class_at s v b ∷ entries s c)
  relocated-total c v b i n q f l e g w =
      omega (arith, relocate-total w v b f l c i n.path e g.within (rw g.place g.chain), weight-empty s w i (cell c i) g.empty)
