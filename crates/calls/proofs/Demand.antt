-- Demand 3, from the index layer's laws: from every table, and so from a fresh one.
-- Assumes nothing.
use mathlib.Core.Path.{◌≡◌, ap, sym, ◌∙◌}
use mathlib.Core.Logic.{◌↔◌}
use mathlib.Core.Option.{none}
use mathlib.Core.List.{List, [], ◌∷◌, ◌++◌}
use Prim.Native.Nat.{ℕ, ◌*◌, ◌≤◌}
use native.Mathlib.Omega.{arith}
use lib.ListN.{length, length-replicate, get_or-replicate}
use Rattle.lemmas.specs.Sums.{total}
use Rattle.lemmas.proofs.Sums.{sum-zero, total-one}
use Rattle.refusals.specs.Checks.{first_met}
use Rattle.refusals.specs.Outcomes.{Answer, refused, given, done, outcome, keeping}
use Rattle.refusals.proofs.Cursor.{start, all-passed, call-goes-on}
use Rattle.index.specs.Settings.{settings_checks, settings_refusal}
use Rattle.index.specs.Hash.{tag_checks}
use Rattle.index.specs.Candidates.{Class, class_of}
use Rattle.index.specs.Laws.{Laws}
use Rattle.index.specs.declared.Settings.{Settings}
use Rattle.index.proofs.Laws.{laws}
use Rattle.index.proofs.Checks.{check-laws}
use Rattle.calls.specs.Cells.{cell}
use Rattle.calls.specs.Calls.{Said, cleared, released, absent, accepted, copies, Sound, Held, scratch_checks, fresh, clear_table}
use Rattle.calls.specs.Multiset.{count, Same}
use Rattle.calls.specs.Assignment.{Assignable}
use Rattle.calls.specs.AssignmentDecided.{Room, decided}
use Rattle.calls.proofs.AssignmentDecided.{assignable, beside-none}
use Rattle.calls.specs.Model.{Call, hold_of, lookup_of, to_hold, model_checks}
use Rattle.calls.specs.Demand.{table_call, run, entries, forget_moves, forget, Demand3, Represents, Demand3From, FromEveryTable}
use Rattle.calls.specs.Laws.{Agree, Step}
use Rattle.calls.proofs.Refusals.{table-check-laws}
use Rattle.calls.proofs.Classes.{same_perm}
use Rattle.calls.proofs.Weights.{weight_at, weight-empty, total-entries}
use Rattle.calls.proofs.Model.{table_act, step-act, table-call, runs}

forget-refused : (r : Answer Said) (n : ℕ) → forget r ≡ refused n → r ≡ refused n
forget-refused (refused m) n e = e
forget-refused (given x) n e = cc

said-copies : (x : Said) (n : ℕ) → forget_moves x ≡ copies n → x ≡ copies n
said-copies (copies m) n e = e
said-copies (accepted m) n e = cc
said-copies cleared n e = cc
said-copies released n e = cc
said-copies absent n e = cc

pub forget-copies : (r : Answer Said) (n : ℕ) → forget r ≡ given (copies n) → r ≡ given (copies n)
forget-copies (refused m) n e = cc
forget-copies (given x) n e = ap given (said-copies x n (let f : forget_moves x ≡ copies n = cc in f))

module _ (s : Settings) (L : Laws s) where
  fresh-empty : (w : Class → ℕ) → total w (entries s (fresh s)) ≡ 0
  unfolding fresh
  fresh-empty w = total-entries s w (fresh s)
      ∙ sum-zero (4 * s.buckets) (λ i. weight_at s w i (cell (fresh s) i)) (λ i h. weight-empty s w i (cell (fresh s) i) (get_or-replicate (4 * s.buckets) i 0 0 h))

  pub fresh_agrees : Agree s (fresh s) []
  unfolding fresh
  fresh_agrees = record { same = fresh-empty; size = length-replicate (4 * s.buckets) 0 }

  module _ (c : List ℕ) (E : List Class) (A : Agree s c E) where
    nine : (t : List ℕ) (n : ℕ) → first_met (model_checks s (hold_of t n)) ≡ none → ((table_call s c (hold_of t n)).answer ≡ refused 9) ↔ (¬ Assignable (class_of s t ∷ E))
    nine t n e = rw (table-call s L c E A (hold_of t n), e) (go (decided (class_of s t ∷ E)) (step-act s L c E A (hold_of t n)))
      where
        go : (d : Dec (Room [] (class_of s t ∷ E))) → Step s c (keeping c (table_act s L c E A (hold_of t n))) (keeping E (to_hold (class_of s t) E d))
            → ((keeping c (table_act s L c E A (hold_of t n))).answer ≡ refused 9) ↔ (¬ Assignable (class_of s t ∷ E))
        go (yes a) r = (λ q. let z : ◌≡◌ {A = ℕ} 0 1 = cc (r.reply, ap forget q) in absurd (omega arith), λ m. absurd (m (assignable (class_of s t ∷ E) a)))
        go (no a) r = (λ q x. a (beside-none (class_of s t ∷ E) x), λ m. forget-refused _ 9 r.reply)

    copies_of : (t : List ℕ) → first_met (model_checks s (lookup_of t)) ≡ none → (table_call s c (lookup_of t)).answer ≡ given (copies (count (class_of s t) E))
    copies_of t e = rw (table-call s L c E A (lookup_of t), e) (forget-copies _ _ (step-act s L c E A (lookup_of t)).reply)

    held-if : (t : List ℕ) → first_met (model_checks s (lookup_of t)) ≡ none → Held (table_call s c (lookup_of t)).answer ↔ (1 ≤ count (class_of s t) E)
    held-if t e = rw (copies_of t e) (λ h. h, λ h. h)

-- clear leaves the fresh table
clear-starts : (s : Settings) → settings_refusal s ≡ none → (c : List ℕ) → length c ≡ 4 * s.buckets → clear_table s c ≡ outcome (given cleared) (fresh s)
unfolding clear_table
clear-starts s e c h = sym (call-goes-on c (given (done cleared (fresh s))) ((table-check-laws s c).passes (record { settings = e; size = h })))

-- a tag of good length, and enough scratch, pass the model's checks
tag_passes : (s : Settings) → settings_refusal s ≡ none → (t : List ℕ) → 1 ≤ length t → length t ≤ 64 → first_met (model_checks s (lookup_of t)) ≡ none
tag_passes s e t h k = (all-passed (settings_checks s) (tag_checks t) (start _) e).decides ∙ (check-laws s).tag_passes t h k

hold-passes : (s : Settings) → settings_refusal s ≡ none → (t : List ℕ) (n : ℕ) → 1 ≤ length t → length t ≤ 64 → 2 * s.buckets ≤ n → first_met (model_checks s (hold_of t n)) ≡ none
hold-passes s e t n h k m =
    (all-passed (scratch_checks s n) (tag_checks t) (all-passed (settings_checks s) (scratch_checks s n ++ tag_checks t) (start _) e) ((table-check-laws s []).scratch_passes n m)).decides
    ∙ (check-laws s).tag_passes t h k

-- ── from any table ──
module _ (s : Settings) (e : settings_refusal s ≡ none) (c : List ℕ) (E : List Class) (A : Agree s c E) where
  represents : Represents s c E
  represents =
      let L = laws s e in
      record {
        holds = same_perm _ _ A.same;
        size = A.size;
        lookup_copies = λ t h k. copies_of s L c E A t (tag_passes s e t h k);
        lookup_held = λ t h k. held-if s L c E A t (tag_passes s e t h k);
        hold_nine = λ t n h k m. nine s L c E A t n (hold-passes s e t n h k m);
      }

from-agreeing : (s : Settings) → settings_refusal s ≡ none → (c : List ℕ) (E : List Class) → Agree s c E → (l : List Call) → Demand3From s c E l
from-agreeing s e c E A l =
    let r = runs s (laws s e) l c E A in
    record {
      replies = r.replies;
      after = represents s e _ _ r.after;
      counted = omega (arith, r.counted, A.same (λ k. 1), total-one E, total-one (entries s (run s c l).cells));
    }

from-same : (s : Settings) (c : List ℕ) (E : List Class) → Sound s c → Same (entries s c) E → (l : List Call) → Demand3From s c E l
from-same s c E S m l = from-agreeing s S.settings c E (record { same = m; size = S.size }) l

-- ── the fresh table ──
fresh_case : (s : Settings) (l : List Call)
    → (((c : List ℕ) → length c ≡ 4 * s.buckets → clear_table s c ≡ outcome (given cleared) (fresh s)) × Demand3From s (fresh s) [] l) ↔ Demand3 s l
fresh_case s l = (
  λ f. record {
    starts = f.0;
    replies = f.1.replies;
    holds = f.1.after.holds;
    counted = omega (arith, f.1.counted);
    size = omega (arith, f.1.after.size);
    lookup_copies = f.1.after.lookup_copies;
    lookup_held = f.1.after.lookup_held;
    hold_nine = f.1.after.hold_nine;
  },
  λ d. (
    d.starts,
    record {
      replies = d.replies;
      after = record { holds = d.holds; size = omega (arith, d.size); lookup_copies = d.lookup_copies; lookup_held = d.lookup_held; hold_nine = d.hold_nine };
      counted = omega (arith, d.counted);
    },
  ),
)

pub from-every-table : FromEveryTable
unfolding entries
from-every-table = record { same = from-same; own = λ s c S l. from-same s c _ S (λ w. omega arith) l; fresh_case = fresh_case }

-- demand 3, for settings that pass their checks and every list of calls
pub demand-3 : (s : Settings) → settings_refusal s ≡ none → (l : List Call) → Demand3 s l
demand-3 s e l = (fresh_case s l).0 (clear-starts s e, from-agreeing s e (fresh s) [] (fresh_agrees s (laws s e)) l)
