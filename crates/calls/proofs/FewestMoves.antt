-- No list of moves that makes room for the new entry is shorter than the hold's own.
-- Assumes nothing.
use mathlib.Core.Path.{◌≡◌, refl, sym, ap, ap₂, ◌∙◌}
use mathlib.Core.Logic.{◌≢◌}
use mathlib.Core.Option.{Option, none, some}
use mathlib.Core.List.{List, [], ◌∷◌, ◌++◌}
use Prim.Native.Nat.{ℕ, suc, ◌+◌, ◌*◌, ◌/◌, ◌≤◌, ◌<◌}
use native.Mathlib.Decide.{dec_lt}
use native.Mathlib.Omega.{arith}
use lib.ListN.{length, set, length-set}
use lib.Seq.{get_or-set_same, get_or-set_other, set-set}
use Rattle.lemmas.specs.Count.{occ, ◌among◌}
use Rattle.lemmas.proofs.Count.{hit-of, hit-refl}
use Rattle.refusals.specs.Checks.{first_met}
use Rattle.refusals.specs.Outcomes.{refused, given, unless, done, outcome, keeping}
use Rattle.refusals.proofs.Cursor.{parts-passed}
use Rattle.index.specs.Hash.{fingerprint, home, tag_checks}
use Rattle.index.specs.Candidates.{candidates}
use Rattle.index.specs.Laws.{Laws}
use Rattle.index.specs.declared.Settings.{Settings}
use Rattle.index.proofs.Laws.{laws}
use Rattle.calls.specs.Cells.{cell, lowest_empty, in_first}
use Rattle.calls.specs.Search.{Ending, found, exhausted, search_for, relocate}
use Rattle.calls.specs.Calls.{Said, accepted, Act, Result, table_checks, scratch_checks, Sound, hold_checks, placed, hold_in, hold}
use Rattle.calls.specs.FewestMoves.{Move, moved, Allowed, after_moves, AllAllowed, MakesRoom, FewestMoves, HoldsMoveFewest}
use Rattle.calls.specs.Laws.{Finds}
use Rattle.calls.proofs.Cells.{empty-finds, first_finds}
use Rattle.calls.proofs.Interrupted.{accepted-by}
use Rattle.calls.proofs.Levels.{Distances}
use Rattle.calls.proofs.Moves.{chain-set}
use Rattle.calls.proofs.Nodes.{buckets_on, Full}
use Rattle.calls.proofs.Queue.{Chain, Ends, search-ends}
use Rattle.calls.proofs.Refusals.{table-check-laws}

-- ── no list is shorter: what a move changes is at most one bucket nearer to the candidates than what was changed before ──
module _ (s : Settings) (c rs : List ℕ) (d : ℕ) (D : Distances s c rs d) where
  -- after k moves the cells of all buckets less than d - k moves away are as they were
  abbrev Kept : ℕ → List ℕ → Type 0
  Kept k t = (i : ℕ) → D.steps (i / 4) + k < d → cell t i ≡ cell c i

  kept-filled : (k : ℕ) (t : List ℕ) → Kept k t → (i : ℕ) → D.steps (i / 4) + k < d → cell t i ≢ 0
  kept-filled k t K i l z = D.full i (omega arith) (sym (K i l) ∙ z)

  kept_move : (k : ℕ) (t : List ℕ) (m : Move) → Kept k t → Allowed s t m → Kept (suc k) (moved t m)
  kept_move k t m K A i l =
      get_or-set_other (set t m.target (cell t m.source)) m.source i 0 0 not-source
      ∙ get_or-set_other t m.target i (cell t m.source) 0 not-target
      ∙ K i (omega arith)
    where
      -- the cell is filled, and the target is not
      not-target : i ≢ m.target
      not-target e = kept-filled k t K i (omega arith) (omega (arith, A.empty, ap (cell t) e))

      -- the target would be filled too
      not-source : i ≢ m.source
      not-source e =
          let g : (m.target / 4) among candidates s (cell t i) (i / 4) = rw e A.candidate in
          let near : D.steps (m.target / 4) ≤ suc (D.steps (i / 4)) = D.near i (m.target / 4) (rw (K i (omega arith)) at g) in
          kept-filled k t K m.target (omega arith) (omega (arith, A.empty))

  no-shorter : (ms : List Move) (k : ℕ) (t : List ℕ) → Kept k t → AllAllowed s t ms → (i : ℕ) → (i / 4) among rs → cell (after_moves t ms) i ≡ 0 → d ≤ k + length ms
  no-shorter [] k t K A i r z = elim (dec_lt k d) [ yes l ↦ absurd (kept-filled k t K i (omega (arith, D.roots (i / 4) r)) z) | no n ↦ omega arith ]
  no-shorter (m ∷ ms) k t K A i r z = omega (arith, no-shorter ms (suc k) (moved t m) (kept_move k t m K A.0) A.1 i r z)

-- ── the hold's own list: the relocation path, last first ──
-- what stood in the first cell is written over, whatever it was
relocate-over : (c : List ℕ) (i u : ℕ) (path : List ℕ) (v : ℕ) → occ (i / 4) (buckets_on path) ≡ 0 → relocate (set c i u) i path v ≡ relocate c i path v
relocate-over c i u [] v z = set-set c i u v
relocate-over c i u (j ∷ path) v z =
    let n : j ≢ i = λ e. omega (arith, hit-of (i / 4) (j / 4) (ap (λ (k : ℕ). k / 4) (sym e))) in
    ap (λ (t : List ℕ). relocate t j path v) (set-set c i u (cell (set c i u) j) ∙ ap (set c i) (get_or-set_other c i j u 0 n))

full-set : (c bs : List ℕ) (i u : ℕ) → occ (i / 4) bs ≡ 0 → Full c bs → Full (set c i u) bs
full-set c bs i u z f k g = rw (get_or-set_other c i k u 0 (λ e. omega (arith, rw e at g))) (f k g)

module _ (s : Settings) (L : Laws s) where
  chain-apart : (c rs : List ℕ) (b : ℕ) (path : List ℕ) → Chain s c rs b path → occ b (buckets_on path) ≡ 0
  chain-apart c rs b [] g = refl
  chain-apart c rs b (i ∷ path) g = g.2

  own-moves : (p b : ℕ) (c : List ℕ) (i : ℕ) (path : List ℕ) → length c ≡ 4 * s.buckets → i < 4 * s.buckets → cell c i ≡ 0
      → Chain s c (candidates s p b) (i / 4) path → Full c (buckets_on path)
      → (ms : List Move) × (r : MakesRoom s c p b ms) × (length ms ≡ length path) × (set (after_moves c ms) r.room p ≡ relocate c i path p)
  own-moves p b c i [] e l z g f = ([], record { allowed = tt; room = i; candidate = g; empty = z }, refl, refl)
  own-moves p b c i (j ∷ path) e l z g f =
      let r = own-moves p b t j path (length-set half j 0 ∙ size) g.1 (get_or-set_same half j 0 0 (omega (arith, g.1, size))) chain full in
      (m ∷ r.0, record { allowed = (a, r.1.allowed); room = r.1.room; candidate = r.1.candidate; empty = r.1.empty }, ap suc r.2, r.3 ∙ relocate-over half j 0 path p apart)
    where
      rs : List ℕ
      rs = candidates s p b

      m : Move
      m = record { source = j; target = i }

      half : List ℕ
      half = set c i (cell c j)

      t : List ℕ
      t = moved c m

      size : length half ≡ 4 * s.buckets
      size = length-set c i (cell c j) ∙ e

      ahead : occ (i / 4) (buckets_on path) ≡ 0
      ahead = omega (arith, g.2)

      apart : occ (j / 4) (buckets_on path) ≡ 0
      apart = chain-apart c rs (j / 4) path g.3

      chain : Chain s t rs (j / 4) path
      chain = chain-set s L half rs j 0 (j / 4) path apart (chain-set s L c rs i (cell c j) (j / 4) path ahead g.3)

      full : Full t (buckets_on path)
      full = full-set half (buckets_on path) j 0 apart (full-set c (buckets_on path) i (cell c j) ahead (λ k h. f k (omega arith)))

      a : Allowed s c m
      a = record { filled = f j (omega (arith, hit-refl (j / 4))); empty = omega arith; candidate = g.0; another = λ h. omega (arith, g.2, hit-of (i / 4) (j / 4) (omega arith)) }

  -- ── both, of a hold that is accepted ──
  module _ (c : List ℕ) (p b : ℕ) (l : b < s.buckets) (size : length c ≡ 4 * s.buckets) where
    abbrev rs : List ℕ
    rs = candidates s p b

    fewest-by : (o : Option ℕ) → Finds c 0 rs o → (r : Ending) → Ends s c rs r → (d : ℕ) (c' : List ℕ) → placed c p o r ≡ given (done (accepted d) c') → FewestMoves s c p b d c'
    fewest-by (some i) f r g d c' e =
        let a = accepted-by c p d c' (some i) r e in
        record {
          least = λ ms m. omega (arith, a.0);
          attained = ([], record { allowed = tt; room = i; candidate = f.1; empty = f.0 }, a.0, a.1);
        }
    fewest-by none f (found i n q) g d c' e =
        let a = accepted-by c p d c' none (found i n q) e in
        let own = own-moves p b c i n.path size g.within g.empty (rw g.place g.chain) (λ k h. g.full f k (g.on-queue (k / 4) h)) in
        record {
          least = λ ms m. omega (arith, a.0, no-shorter s c rs (length n.path) (g.distances f) ms 0 c (λ k h. refl) m.allowed m.room m.candidate m.empty);
          attained = (own.0, own.1, own.2 ∙ a.0, own.3 ∙ a.1);
        }
    fewest-by none f (exhausted q) g d c' e = absurd (accepted-by c p d c' none (exhausted q) e)

    fewest : (d : ℕ) (c' : List ℕ) → hold_in s c p b ≡ given (done (accepted d) c') → FewestMoves s c p b d c'
    unfolding hold_in
    fewest d c' e = fewest-by (in_first (lowest_empty c) rs) (first_finds c 0 (lowest_empty c) (empty-finds c) rs) (search_for s c p b) (search-ends s L c p b l) d c' e

-- a hold that is accepted passed its checks, and the rest of it was accepted
given_by : (c : List ℕ) (o : Option ℕ) (a : Act) (d : ℕ) (c' : List ℕ) → keeping c (unless o a) ≡ outcome (given (accepted d)) c' → (o ≡ none) × (a ≡ given (done (accepted d) c'))
given_by c (some k) a d c' e = absurd (let x = ap (λ (r : Result). r.answer) e in let z : ◌≡◌ {A = ℕ} 0 1 = cc in omega arith)
given_by c none (refused k) d c' e = absurd (let x = ap (λ (r : Result). r.answer) e in let z : ◌≡◌ {A = ℕ} 0 1 = cc in omega arith)
given_by c none (given x) d c' e =
    let a = ap (λ (r : Result). r.answer) e in
    let y : x.says ≡ accepted d = cc in
    (refl, ap₂ (λ (y : Said) (l : List ℕ). given (done y l)) y (ap (λ (r : Result). r.leaves) e))

fewest-held : (s : Settings) (c : List ℕ) (n : ℕ) (tag : List ℕ) (d : ℕ) (c' : List ℕ)
    → hold s c n tag ≡ outcome (given (accepted d)) c' → FewestMoves s c (fingerprint s tag) (home s tag) d c'
unfolding hold hold_checks
fewest-held s c n tag d c' e =
    let g = given_by c (first_met (hold_checks s c n tag)) (hold_in s c (fingerprint s tag) (home s tag)) d c' e in
    let S : Sound s c = (table-check-laws s c).sound (parts-passed (table_checks s c) (scratch_checks s n ++ tag_checks tag) g.0).0 in
    let L : Laws s = laws s S.settings in
    fewest s L c (fingerprint s tag) (home s tag) (L.home_below tag) S.size d c' g.1

pub holds-move-fewest : HoldsMoveFewest
holds-move-fewest = record {
  places = λ s e c size p b l d c' h. fewest s (laws s e) c p b l size d c' h;
  holds = fewest-held;
}
