-- No call of the table, no writer and no length is refused with 0.
-- Assumes nothing.
use mathlib.Core.Option.{Option, none, some}
use mathlib.Core.List.{List, ◌++◌}
use Prim.Native.Nat.{ℕ}
use native.Mathlib.Omega.{arith}
use lib.ListN.{length}
use Rattle.refusals.specs.Checks.{Check, first_met, Numbered}
use Rattle.refusals.specs.Outcomes.{Answer, unless, Done, keeping}
use Rattle.refusals.specs.Positive.{Positive}
use Rattle.refusals.proofs.Cursor.{numbered-both}
use Rattle.refusals.proofs.Positive.{positive-laws}
use Rattle.index.specs.Hash.{fingerprint, home, tag_checks}
use Rattle.index.specs.Candidates.{candidates, bucket_checks}
use Rattle.index.specs.declared.Settings.{Settings}
use Rattle.index.proofs.Positive.{positive-index}
use Rattle.calls.specs.Cells.{lowest_empty, in_first}
use Rattle.calls.specs.Search.{Ending, found, exhausted, search_for}
use Rattle.calls.specs.Calls.{table_checks, scratch_checks, clear_table, tagged_checks, lookup_in, lookup, found_in, emptied, release_in, release, hold_checks, placed}
use Rattle.calls.specs.Calls.{hold_in, hold, view_checks}
use Rattle.calls.specs.WrittenForms.{write_checks, written, count_checks, length_of}
use Rattle.calls.specs.Positive.{PositiveCalls}
use Rattle.calls.proofs.Refusals.{table-check-laws}

-- a call behind a list of checks
module _ {A B : Type 0} (b : B) (l : List Check) (a : Answer (Done A B)) where
  call : Numbered l → Positive a → Positive (keeping b (unless (first_met l) a)).answer
  call N h = positive-laws.whole b (unless (first_met l) a) (positive-laws.checked l a N h)

-- ── what a call comes to ──
emptied-positive : (c : List ℕ) (o : Option ℕ) → Positive (emptied c o)
emptied-positive c none = tt
emptied-positive c (some i) = tt

placed-positive : (c : List ℕ) (p : ℕ) (o : Option ℕ) (e : Ending) → Positive (placed c p o e)
placed-positive c p (some i) e = tt
placed-positive c p none (found i n q) = tt
placed-positive c p none (exhausted q) = omega arith

module _ (s : Settings) (c : List ℕ) where
  -- ── its checks: those of the table, and whatever more ──
  with-table : (more : List Check) → Numbered more → Numbered (table_checks s c ++ more)
  with-table more N = numbered-both (table_checks s c) more (table-check-laws s c).numbered N

  tagged : (tag : List ℕ) → Numbered (tagged_checks s c tag)
  unfolding tagged_checks
  tagged tag = with-table (tag_checks tag) ((positive-index s).tag_numbered tag)

  holding : (n : ℕ) (tag : List ℕ) → Numbered (hold_checks s c n tag)
  unfolding hold_checks scratch_checks
  holding n tag = with-table (scratch_checks s n ++ tag_checks tag) (numbered-both (scratch_checks s n) (tag_checks tag) (omega arith, tt) ((positive-index s).tag_numbered tag))

  view_numbered : (b : ℕ) → Numbered (view_checks s c b)
  unfolding view_checks
  view_numbered b = with-table (bucket_checks s b) ((positive-index s).bucket_numbered b)

  -- ── the calls ──
  clears : Positive (clear_table s c).answer
  unfolding clear_table
  clears = call c (table_checks s c) _ (table-check-laws s c).numbered tt

  looks_up : (tag : List ℕ) → Positive (lookup s c tag).answer
  unfolding lookup lookup_in
  looks_up tag = call c (tagged_checks s c tag) _ (tagged tag) tt

  releases : (tag : List ℕ) → Positive (release s c tag).answer
  unfolding release release_in
  releases tag = call c (tagged_checks s c tag) _ (tagged tag) (emptied-positive c (found_in s c (fingerprint s tag) (home s tag)))

  holds : (n : ℕ) (tag : List ℕ) → Positive (hold s c n tag).answer
  unfolding hold hold_in
  holds n tag =
      let p = fingerprint s tag in
      let b = home s tag in
      call c (hold_checks s c n tag) _ (holding n tag) (placed-positive c p (in_first (lowest_empty c) (candidates s p b)) (search_for s c p b))

  writes : (bytes out : List ℕ) → Positive (written s c bytes out).answer
  unfolding written write_checks
  writes bytes out = call out (write_checks s c (length out) (length bytes)) _ (with-table _ (omega arith, (omega arith, tt))) tt

  tells : (bytes : List ℕ) → Positive (length_of s c bytes)
  unfolding length_of count_checks
  tells bytes = positive-laws.checked (count_checks s c) _ (with-table _ (omega arith, tt)) tt

  pub positive-calls : PositiveCalls s c
  positive-calls = record { clear = clears; lookup = looks_up; release = releases; hold = holds; view_numbered = view_numbered; writer = writes; form_length = tells }
