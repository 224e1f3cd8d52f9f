-- No entry is missing while a hold moves entries.
-- Assumes nothing.
use mathlib.Core.Path.{◌≡◌, refl, sym, ap, ◌∙◌, subst}
use mathlib.Core.Logic.{◌≢◌}
use mathlib.Core.Option.{Option, none, some}
use mathlib.Core.List.{List, [], ◌∷◌}
use Prim.Native.Nat.{ℕ, zero, suc, ◌+◌, ◌*◌, ◌/◌, ◌≤◌, ◌<◌}
use native.Mathlib.Omega.{arith}
use lib.ListN.{length, set, take, length-set}
use Rattle.lemmas.specs.Sums.{total}
use Rattle.refusals.specs.Checks.{first_met}
use Rattle.refusals.specs.Outcomes.{given, Done, done, keeping}
use Rattle.index.specs.Settings.{settings_refusal}
use Rattle.index.specs.Hash.{fingerprint, home}
use Rattle.index.specs.Candidates.{candidates, Class, class_at, class_of}
use Rattle.index.specs.Laws.{Laws}
use Rattle.index.specs.declared.Settings.{Settings}
use Rattle.index.proofs.Laws.{laws}
use Rattle.calls.specs.Cells.{cell, lowest_empty, in_first}
use Rattle.calls.specs.Search.{Ending, found, exhausted, search_for, relocate}
use Rattle.calls.specs.Calls.{Said, accepted, copies, tagged_checks, lookup, lookup_in, placed, hold_in}
use Rattle.calls.specs.Multiset.{count}
use Rattle.calls.specs.Demand.{entries}
use Rattle.calls.specs.Interrupted.{Write, after_writes, moves, writes_by, hold_writes, Interrupted}
use Rattle.calls.specs.Laws.{Finds}
use Rattle.calls.proofs.Cells.{empty-finds, first_finds}
use Rattle.calls.proofs.Classes.{one_at, count-total}
use Rattle.calls.proofs.Queue.{Chain, Ends, search-ends}
use Rattle.calls.proofs.Weights.{weight_at, weight-empty, weight-same, total-set}
use Rattle.calls.proofs.Moves.{chain-set, moved-cell, placed_total, relocated-total}
use Rattle.calls.proofs.Model.{step-lookup}
use Rattle.calls.proofs.Refusals.{tag-refusal}
use Rattle.calls.proofs.Demand.{forget-copies}

-- ── what an accepted hold tells: its moves, and what it left ──
abbrev pub AcceptedBy : List ℕ → ℕ → ℕ → List ℕ → Option ℕ → Ending → Type 0
AcceptedBy c p d c' (some i) r = (0 ≡ d) × (set c i p ≡ c')
AcceptedBy c p d c' none (found i n q) = (length n.path ≡ d) × (relocate c i n.path p ≡ c')
AcceptedBy c p d c' none (exhausted q) = ⊥

same-moves : {n m : ℕ} → accepted n ≡ accepted m → n ≡ m
same-moves e = cc

same-given : {x y : Done Said (List ℕ)} → given x ≡ given y → x ≡ y
same-given e = cc

same_end : {n m : ℕ} {l k : List ℕ} → given (done (accepted n) l) ≡ given (done (accepted m) k) → (n ≡ m) × (l ≡ k)
same_end e = let x = same-given e in (same-moves (ap (λ (y : Done Said (List ℕ)). y.says) x), ap (λ (y : Done Said (List ℕ)). y.leaves) x)

pub accepted-by : (c : List ℕ) (p d : ℕ) (c' : List ℕ) (o : Option ℕ) (r : Ending) → placed c p o r ≡ given (done (accepted d) c') → AcceptedBy c p d c' o r
accepted-by c p d c' (some i) r e = let x = same_end e in (omega (arith, x.0), ap (set c i) (omega arith) ∙ x.1)
accepted-by c p d c' none (found i n q) e = let x = same_end e in (omega (arith, x.0), ap (relocate c i n.path) (omega arith) ∙ x.1)
accepted-by c p d c' none (exhausted q) e = absurd (let z : ◌≡◌ {A = ℕ} 0 1 = cc in omega arith)

-- ── the writes along a path lose no entry ──
module _ (s : Settings) (L : Laws s) where
  -- what stood in cell i may go, and nothing else does
  moves-keep : (w : Class → ℕ) (rs : List ℕ) (v k : ℕ) (c : List ℕ) (i : ℕ) (path : List ℕ) → length c ≡ 4 * s.buckets → i < 4 * s.buckets → Chain s c rs (i / 4) path
      → total w (entries s c) ≤ total w (entries s (after_writes c (take k (moves c i path v)))) + weight_at s w i (cell c i)
  moves-keep w rs v zero c i path e m g = omega arith
  moves-keep w rs v (suc zero) c i [] e m g = omega (arith, total-set s w c i v m (omega arith))
  moves-keep w rs v (suc (suc k)) c i [] e m g = omega (arith, total-set s w c i v m (omega arith))
  moves-keep w rs v (suc k) c i (j ∷ path) e m g =
      omega (
        arith,
        total-set s w c i (cell c j) m (omega arith),
        weight-same s w L i j (cell c j) g.1 g.0,
        ap (weight_at s w j) (moved-cell c i j (omega arith)),
        moves-keep w rs v k (set c i (cell c j)) j path (length-set c i (cell c j) ∙ e) g.1 (chain-set s L c rs i (cell c j) (j / 4) path (omega (arith, g.2)) g.3),
      )

-- ── they are its relocation ──
moves-length : (c : List ℕ) (i : ℕ) (path : List ℕ) (v : ℕ) → length (moves c i path v) ≡ length path + 1
moves-length c i [] v = refl
moves-length c i (j ∷ path) v = omega (arith, moves-length (set c i (cell c j)) j path v)

moves-whole : (c : List ℕ) (i : ℕ) (path : List ℕ) (v : ℕ) → after_writes c (moves c i path v) ≡ relocate c i path v
moves-whole c i [] v = refl
moves-whole c i (j ∷ path) v = moves-whole (set c i (cell c j)) j path v

writes-length : (c : List ℕ) (ws : List Write) → length (after_writes c ws) ≡ length c
writes-length c [] = refl
writes-length c (w ∷ ws) = writes-length (set c w.at w.value) ws ∙ length-set c w.at w.value

module _ (s : Settings) (L : Laws s) where
  module _ (c : List ℕ) (p b : ℕ) (l : b < s.buckets) (size : length c ≡ 4 * s.buckets) where
    abbrev rs : List ℕ
    rs = candidates s p b

    -- ── after any number of the writes ──
    kept_by : (o : Option ℕ) → Finds c 0 rs o → (r : Ending) → Ends s c rs r → (k : ℕ) (w : Class → ℕ)
        → total w (entries s c) ≤ total w (entries s (after_writes c (take k (writes_by c p o r))))
    kept_by (some i) f r g k w =
        let m : i / 4 < s.buckets = L.below p b (i / 4) l f.1 in
        omega (arith, moves-keep s L w rs p k c i [] size (omega arith) f.1, weight-empty s w i (cell c i) f.0)
    kept_by none f (found i n q) g k w =
        omega (arith, moves-keep s L w rs p k c i n.path size g.within (rw g.place g.chain), weight-empty s w i (cell c i) g.empty)
    kept_by none f (exhausted q) g zero w = omega arith
    kept_by none f (exhausted q) g (suc k) w = omega arith

    finds : Finds c 0 rs (in_first (lowest_empty c) rs)
    finds = first_finds c 0 (lowest_empty c) (empty-finds c) rs

    kept : (k : ℕ) (x : Class) → count x (entries s c) ≤ count x (entries s (after_writes c (take k (hold_writes s c p b))))
    unfolding hold_writes
    kept k x =
        let d : List ℕ = after_writes c (take k (writes_by c p (in_first (lowest_empty c) rs) (search_for s c p b))) in
        omega (
          arith,
          kept_by (in_first (lowest_empty c) rs) finds (search_for s c p b) (search-ends s L c p b l) k (one_at x),
          count-total x (entries s c),
          count-total x (entries s d),
        )

    -- ── a lookup in between ──
    found_still : (d tag : List ℕ) → length d ≡ length c → first_met (tagged_checks s c tag) ≡ none → (lookup s d tag).answer ≡ given (copies (count (class_of s tag) (entries s d)))
    unfolding lookup
    found_still d tag e m =
        rw (tag-refusal s d (e ∙ size) tag ∙ sym (tag-refusal s c size tag) ∙ m, L.class_tag tag)
        (forget-copies (keeping d (lookup_in s d (fingerprint s tag) (home s tag))).answer _
        (step-lookup s L d (entries s d) (record { same = λ w. refl; size = e ∙ size }) (fingerprint s tag) (home s tag) (L.print_filled tag) (L.home_below tag)).reply)

    -- ── the whole hold ──
    module _ (n : p ≢ 0) (d : ℕ) (c' : List ℕ) where
      record Ended-as (ws : List Write) : Type 0 where
        pub all : length ws ≡ d + 1
        pub whole : after_writes c ws ≡ c'
        pub gained : (w : Class → ℕ) → total w (entries s c') ≡ total w (class_at s p b ∷ entries s c)

      ended-as : (o : Option ℕ) → Finds c 0 rs o → (r : Ending) → Ends s c rs r → placed c p o r ≡ given (done (accepted d) c') → Ended-as (writes_by c p o r)
      ended-as (some i) f r g e =
          let a = accepted-by c p d c' (some i) r e in
          record {
            all = omega (arith, a.0);
            whole = a.1;
            gained = λ w. subst (λ (t : List ℕ). total w (entries s t) ≡ total w (class_at s p b ∷ entries s c)) a.1 (placed_total s L c p b i n l size f.0 f.1 w);
          }
      ended-as none f (found i m q) g e =
          let a = accepted-by c p d c' none (found i m q) e in
          record {
            all = omega (arith, moves-length c i m.path p, a.0);
            whole = moves-whole c i m.path p ∙ a.1;
            gained = λ w. subst (λ (t : List ℕ). total w (entries s t) ≡ total w (class_at s p b ∷ entries s c)) a.1 (relocated-total s L c p b i m q n l size g w);
          }
      ended-as none f (exhausted q) g e = absurd (accepted-by c p d c' none (exhausted q) e)

      pub interrupted-by : hold_in s c p b ≡ given (done (accepted d) c') → Interrupted s c p b d c'
      unfolding hold_in hold_writes
      interrupted-by e =
          let r = ended-as (in_first (lowest_empty c) rs) finds (search_for s c p b) (search-ends s L c p b l) e in
          record {
            all = r.all;
            whole = r.whole;
            kept = kept;
            found_still = λ k tag m.
                let t : List ℕ = after_writes c (take k (hold_writes s c p b)) in
                (count (class_of s tag) (entries s t), found_still t tag (writes-length c (take k (hold_writes s c p b))) m, kept k (class_of s tag));
            gained = λ x. count-total x (entries s c') ∙ r.gained (one_at x) ∙ sym (count-total x (class_at s p b ∷ entries s c));
          }

-- for settings that pass their checks, every table of their length, every fingerprint and every bucket
pub interrupted : (s : Settings) → settings_refusal s ≡ none → (c : List ℕ) → length c ≡ 4 * s.buckets → (p b : ℕ) → p ≢ 0 → b < s.buckets
    → (d : ℕ) (c' : List ℕ) → hold_in s c p b ≡ given (done (accepted d) c') → Interrupted s c p b d c'
interrupted s e c size p b n l d c' h = interrupted-by s (laws s e) c p b l size n d c' h
