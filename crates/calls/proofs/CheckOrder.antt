-- Which number a call of the table is answered with where several things are wrong.
-- Assumes nothing.
use mathlib.Core.Path.{◌≡◌, refl, ap, ◌∙◌}
use mathlib.Core.Logic.{◌⊎◌, ◌≢◌}
use mathlib.Core.Bool.{not}
use mathlib.Core.Option.{none, some}
use mathlib.Core.List.{List, [], ◌∷◌, ◌++◌}
use Prim.Native.Nat.{ℕ, ◌*◌, ◌≤◌, ◌<◌}
use borrow.Author.Tests.{eq-eqb, ne_eqb, lt-ltb, le-ltb}
use lib.ListN.{length}
use Rattle.refusals.specs.Checks.{Check, first_met, number_of}
use Rattle.refusals.specs.Outcomes.{refused}
use Rattle.refusals.specs.Laws.{Reached}
use Rattle.refusals.proofs.Cursor.{start, met, passed, none_left, all-met, all-passed}
use Rattle.index.specs.Settings.{settings_checks, settings_refusal}
use Rattle.index.specs.Hash.{tag_checks}
use Rattle.index.specs.Candidates.{bucket_checks}
use Rattle.index.specs.declared.Settings.{Settings}
use Rattle.index.proofs.Checks.{check-laws}
use Rattle.calls.specs.Calls.{table_checks, scratch_checks, Sound, clear_table, tagged_checks, lookup, release, hold_checks, hold, view_checks, view_number}
use Rattle.calls.specs.Model.{Call, hold_of, release_of, lookup_of}
use Rattle.calls.specs.Demand.{table_call}
use Rattle.calls.specs.CheckOrder.{CheckOrder}

module _ (s : Settings) (c : List ℕ) where
  -- ── the checks that every call begins with, and whatever more ──
  pub by_settings : (k : ℕ) → settings_refusal s ≡ some k → first_met (table_checks s c) ≡ some k
  unfolding table_checks
  by_settings k e = all-met (settings_checks s) (_ ∷ []) (start _) e

  pub by_size : settings_refusal s ≡ none → length c ≢ 4 * s.buckets → first_met (table_checks s c) ≡ some 5
  unfolding table_checks
  by_size e h = met (all-passed (settings_checks s) (_ ∷ []) (start _) e) (ap not (ne_eqb (length c) (4 * s.buckets) h))

  pub table-passes : Sound s c → first_met (table_checks s c) ≡ none
  unfolding table_checks
  table-passes S = none_left (passed (all-passed (settings_checks s) (_ ∷ []) (start _) S.settings) (ap not (eq-eqb (length c) (4 * s.buckets) S.size)))

  beyond : (more : List Check) → Sound s c → Reached (table_checks s c ++ more) more
  beyond more S = all-passed (table_checks s c) more (start _) (table-passes S)

  first : (more : List Check) {k : ℕ} → first_met (table_checks s c) ≡ some k → first_met (table_checks s c ++ more) ≡ some k
  first more e = all-met (table_checks s c) more (start _) e

  -- ── what a call answers by them ──
  by-hold : (t : List ℕ) (n : ℕ) {k : ℕ} → first_met (hold_checks s c n t) ≡ some k → (hold s c n t).answer ≡ refused k
  unfolding hold
  by-hold t n e = rw e refl

  by-release : (t : List ℕ) {k : ℕ} → first_met (tagged_checks s c t) ≡ some k → (release s c t).answer ≡ refused k
  unfolding release
  by-release t e = rw e refl

  by-lookup : (t : List ℕ) {k : ℕ} → first_met (tagged_checks s c t) ≡ some k → (lookup s c t).answer ≡ refused k
  unfolding lookup
  by-lookup t e = rw e refl

  by-clear : {k : ℕ} → first_met (table_checks s c) ≡ some k → (clear_table s c).answer ≡ refused k
  unfolding clear_table
  by-clear e = rw e refl

  by-view : (b : ℕ) {k : ℕ} → first_met (view_checks s c b) ≡ some k → view_number s c b ≡ k
  unfolding view_number
  by-view b e = ap number_of e

  -- ── the table, before scratch, tag and bucket number ──
  hold-first : (t : List ℕ) (n : ℕ) {k : ℕ} → first_met (table_checks s c) ≡ some k → first_met (hold_checks s c n t) ≡ some k
  unfolding hold_checks
  hold-first t n e = first (scratch_checks s n ++ tag_checks t) e

  tagged-first : (t : List ℕ) {k : ℕ} → first_met (table_checks s c) ≡ some k → first_met (tagged_checks s c t) ≡ some k
  unfolding tagged_checks
  tagged-first t e = first (tag_checks t) e

  view_first : (b : ℕ) {k : ℕ} → first_met (table_checks s c) ≡ some k → first_met (view_checks s c b) ≡ some k
  unfolding view_checks
  view_first b e = first (bucket_checks s b) e

  call-first : (a : Call) {k : ℕ} → first_met (table_checks s c) ≡ some k → (table_call s c a).answer ≡ refused k
  call-first (hold_of t n) e = by-hold t n (hold-first t n e)
  call-first (release_of t) e = by-release t (tagged-first t e)
  call-first (lookup_of t) e = by-lookup t (tagged-first t e)

  -- ── behind a sound table ──
  module _ (S : Sound s c) where
    short : (t : List ℕ) (n : ℕ) → n < 2 * s.buckets → first_met (hold_checks s c n t) ≡ some 6
    unfolding hold_checks scratch_checks
    short t n h = met (beyond (scratch_checks s n ++ tag_checks t) S) (lt-ltb n (2 * s.buckets) h)

    hold_tag : (t : List ℕ) (n : ℕ) → 2 * s.buckets ≤ n → (length t ≡ 0) ⊎ (64 < length t) → first_met (hold_checks s c n t) ≡ some 7
    unfolding hold_checks scratch_checks
    hold_tag t n h g = (passed (beyond (scratch_checks s n ++ tag_checks t) S) (le-ltb n (2 * s.buckets) h)).decides ∙ (check-laws s).tag_refused t g

    tag : (t : List ℕ) → (length t ≡ 0) ⊎ (64 < length t) → first_met (tagged_checks s c t) ≡ some 7
    unfolding tagged_checks
    tag t g = (beyond (tag_checks t) S).decides ∙ (check-laws s).tag_refused t g

    bucket : (b : ℕ) → s.buckets ≤ b → first_met (view_checks s c b) ≡ some 8
    unfolding view_checks
    bucket b h = (beyond (bucket_checks s b) S).decides ∙ (check-laws s).bucket_refused b h

  pub check-order : CheckOrder s c
  check-order = record {
    settings = λ a k e. call-first a (by_settings k e);
    clear_settings = λ k e. by-clear (by_settings k e);
    view_settings = λ b k e. by-view b (view_first b (by_settings k e));
    table = λ a e h. call-first a (by_size e h);
    clear_for_table = λ e h. by-clear (by_size e h);
    view_table = λ b e h. by-view b (view_first b (by_size e h));
    scratch = λ t n S h. by-hold t n (short S t n h);
    hold_tag = λ t n S h g. by-hold t n (hold_tag S t n h g);
    release_tag = λ t S g. by-release t (tag S t g);
    lookup_tag = λ t S g. by-lookup t (tag S t g);
    view_bucket = λ b S h. by-view b (bucket S b h);
  }
