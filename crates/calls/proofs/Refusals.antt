-- The checks of settings and table, and that the table and the model refuse alike: in a table of 4 × M cells 5 is never met.
-- Assumes nothing.
use mathlib.Core.Path.{◌≡◌, refl, sym, ◌∙◌}
use mathlib.Core.Option.{Option, none, some}
use mathlib.Core.List.{List, [], ◌∷◌, ◌++◌}
use Prim.Native.Nat.{ℕ, ◌*◌}
use native.Mathlib.Omega.{arith}
use borrow.Author.Tests.{eqb-true, not-false, lt-ltb, le-ltb}
use lib.Dec.{eqb}
use lib.ListN.{length}
use Rattle.refusals.specs.Checks.{Check, first_met, Numbered}
use Rattle.refusals.proofs.Cursor.{start, met, passed, none_left, all-met, all-passed, parts-passed, not-met, numbered-both, number_passed}
use Rattle.index.specs.Settings.{settings_checks}
use Rattle.index.specs.Hash.{tag_checks}
use Rattle.index.specs.declared.Settings.{Settings}
use Rattle.index.proofs.Checks.{check-laws}
use Rattle.calls.specs.Calls.{table_checks, Sound, scratch_checks, tagged_checks, hold_checks}
use Rattle.calls.specs.Model.{hold_of, model_checks}
use Rattle.calls.specs.Laws.{TableCheckLaws}
use Rattle.calls.proofs.CheckOrder.{by_settings, by_size, table-passes}

module _ (s : Settings) (c : List ℕ) where
  numbered : Numbered (table_checks s c)
  unfolding table_checks
  numbered = numbered-both (settings_checks s) (_ ∷ []) (check-laws s).numbered (omega arith, tt)

  sound : first_met (table_checks s c) ≡ none → Sound s c
  unfolding table_checks
  sound e =
      let q = parts-passed (settings_checks s) (_ ∷ []) e in
      record { settings = q.0; size = eqb-true (length c) (4 * s.buckets) (not-false (eqb (length c) (4 * s.buckets)) (not-met _ [] q.1).0) }

  pub table-check-laws : TableCheckLaws s c
  unfolding scratch_checks
  table-check-laws = record {
    numbered = numbered;
    by_settings = by_settings s c;
    by_size = by_size s c;
    sound = sound;
    passes = table-passes s c;
    passed = λ e h. sound (number_passed (table_checks s c) e numbered h);
    scratch_passes = λ n h. none_left (passed (start (scratch_checks s n)) (le-ltb n (2 * s.buckets) h));
    scratch_refused = λ n h. met (start (scratch_checks s n)) (lt-ltb n (2 * s.buckets) h);
  }

  module _ (size : length c ≡ 4 * s.buckets) where
    -- whatever checks follow those of the table
    without-five : (more : List Check) → first_met (table_checks s c ++ more) ≡ first_met (settings_checks s ++ more)
    without-five more = go (first_met (settings_checks s)) refl
      where
        go : (o : Option ℕ) → first_met (settings_checks s) ≡ o → first_met (table_checks s c ++ more) ≡ first_met (settings_checks s ++ more)
        go none e =
            (all-passed (table_checks s c) more (start _) (table-passes s c (record { settings = e; size = size }))).decides
            ∙ sym (all-passed (settings_checks s) more (start _) e).decides
        go (some n) e = all-met (table_checks s c) more (start _) (table-check-laws.by_settings n e) ∙ sym (all-met (settings_checks s) more (start _) e)

    pub hold-refusal : (t : List ℕ) (n : ℕ) → first_met (hold_checks s c n t) ≡ first_met (model_checks s (hold_of t n))
    unfolding hold_checks
    hold-refusal t n = without-five (scratch_checks s n ++ tag_checks t)

    pub tag-refusal : (t : List ℕ) → first_met (tagged_checks s c t) ≡ first_met (settings_checks s ++ tag_checks t)
    unfolding tagged_checks
    tag-refusal t = without-five (tag_checks t)
