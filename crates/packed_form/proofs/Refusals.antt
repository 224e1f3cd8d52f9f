-- Which check refuses a writer or the reader, in the order in which the code makes them, and what they come to where none does.
-- Assumes nothing.
use mathlib.Core.Path.{◌≡◌, refl, ap}
use mathlib.Core.Logic.{◌≢◌}
use mathlib.Core.Bool.{true, false}
use mathlib.Core.Option.{Option, none, some}
use mathlib.Core.List.{List, [], ◌∷◌, ◌++◌}
use Prim.Native.Nat.{ℕ, ◌%◌, ◌≤◌, ◌<◌}
use native.Mathlib.Omega.{arith}
use borrow.Author.Tests.{lt-ltb, le-ltb, ltb-false, le-leb, lt-leb, leb-false}
use lib.Dec.{leb, ltb}
use lib.ListN.{length}
use Rattle.lemmas.specs.Bytes.{number_from}
use Rattle.refusals.specs.Checks.{check, first_met, number_of}
use Rattle.refusals.specs.Outcomes.{Answer, refused, given, unless, Outcome, outcome, keeping}
use Rattle.refusals.specs.Laws.{Reached}
use Rattle.refusals.proofs.Cursor.{start, met, passed, none_left, all-passed, parts-passed, not-met, call-refused, call-goes-on, number-refuses}
use Rattle.index.specs.declared.Settings.{Settings}
use Rattle.calls.specs.Cells.{filled_count}
use Rattle.calls.specs.Calls.{table_checks, Sound}
use Rattle.calls.proofs.Laws.{table-check-laws}
use Rattle.packed_form.specs.Writer.{length_of_packed}
use Rattle.packed_form.specs.Reader.{bucket_from, descends, code_checks, unpack, length_checks, with_count, read_packed}

-- ── one bucket of a stream ──
module _ (w code : ℕ) where
  pub row_refused : 3876 ≤ code % 4096 → first_met (code_checks w code) ≡ some 18
  unfolding code_checks
  row_refused h = met (start (code_checks w code)) (le-leb _ _ h)

  pub order_refused : code % 4096 < 3876 → descends (bucket_from w code) ≡ true → first_met (code_checks w code) ≡ some 19
  unfolding code_checks
  order_refused h e = met (passed (start (code_checks w code)) (lt-leb _ _ h)) e

  pub bucket_passes : code % 4096 < 3876 → descends (bucket_from w code) ≡ false → first_met (code_checks w code) ≡ none
  unfolding code_checks
  bucket_passes h e = none_left (passed (passed (start (code_checks w code)) (lt-leb _ _ h)) e)

  pub bucket_passed : first_met (code_checks w code) ≡ none → (code % 4096 < 3876) × (descends (bucket_from w code) ≡ false)
  unfolding code_checks
  bucket_passed e =
      let order = check 19 (descends (bucket_from w code)) in
      let f = not-met (check 18 (leb 3876 (code % 4096))) (order ∷ []) e in
      (leb-false 3876 (code % 4096) f.0, (not-met order [] f.1).0)

-- ── the reader ──
module _ (s : Settings) (bytes c : List ℕ) where
  abbrev cells : Answer (List ℕ)
  cells = unpack s.width s.buckets (number_from bytes)

  pub read_stopped : {n : ℕ} → n ≡ number_of (first_met (table_checks s c)) → n ≢ 0 → outcome (refused n) c ≡ read_packed s bytes c
  unfolding read_packed
  read_stopped e h = number-refuses c (with_count cells) (table_checks s c) (length_checks s bytes) e h

  module _ (S : Sound s c) where
    at_length : Reached (table_checks s c ++ length_checks s bytes) (length_checks s bytes)
    at_length = all-passed (table_checks s c) _ (start _) ((table-check-laws s c).passes S)

    pub read_short : length bytes < length_of_packed s → outcome (refused 11) c ≡ read_packed s bytes c
    unfolding read_packed length_checks
    read_short h = call-refused c (with_count cells) (met at_length (lt-ltb _ _ h))

    pub read_long : length_of_packed s < length bytes → outcome (refused 15) c ≡ read_packed s bytes c
    unfolding read_packed length_checks
    read_long h =
        let k : length_of_packed s ≤ length bytes = omega arith in
        call-refused c (with_count cells) (met (passed at_length (le-ltb _ _ k)) (lt-ltb _ _ h))

    pub read_goes_on : length bytes ≡ length_of_packed s → keeping c (with_count cells) ≡ read_packed s bytes c
    unfolding read_packed length_checks
    read_goes_on h =
        let k : length_of_packed s ≤ length bytes = omega arith in
        let l : length bytes ≤ length_of_packed s = omega arith in
        call-goes-on c (with_count cells) (none_left (passed (passed at_length (le-ltb _ _ k)) (le-ltb _ _ l)))

  -- what an accepted input tells of the checks, and of the cells
  pub record Accepted (n : ℕ) (d : List ℕ) : Type 0 where
    pub sound : Sound s c
    pub size : length bytes ≡ length_of_packed s
    pub holds : cells ≡ given d
    pub count : n ≡ filled_count d

  pub read-accepted : (n : ℕ) (d : List ℕ) → read_packed s bytes c ≡ outcome (given n) d → Accepted n d
  unfolding read_packed length_checks
  read-accepted n d e =
      let g = go (first_met (table_checks s c ++ length_checks s bytes)) cells e in
      let p = parts-passed (table_checks s c) (length_checks s bytes) g.0 in
      let long = check 15 (ltb (length_of_packed s) (length bytes)) in
      let f = not-met (check 11 (ltb (length bytes) (length_of_packed s))) (long ∷ []) p.1 in
      record {
        sound = (table-check-laws s c).sound p.0;
        size = omega (arith, ltb-false (length bytes) (length_of_packed s) f.0, ltb-false (length_of_packed s) (length bytes) (not-met long [] f.1).0);
        holds = g.1;
        count = g.2;
      }
    where
      go : (o : Option ℕ) (u : Answer (List ℕ)) → keeping c (unless o (with_count u)) ≡ outcome (given n) d → (o ≡ none) × (u ≡ given d) × (n ≡ filled_count d)
      go (some k) u e = absurd (let f : refused k ≡ given n = ap (λ (r : Outcome ℕ (List ℕ)). r.answer) e in let z : ◌≡◌ {A = ℕ} 0 1 = cc in omega arith)
      go none (refused k) e = absurd (let f : refused k ≡ given n = ap (λ (r : Outcome ℕ (List ℕ)). r.answer) e in let z : ◌≡◌ {A = ℕ} 0 1 = cc in omega arith)
      go none (given l) e =
          let f : l ≡ d = ap (λ (r : Outcome ℕ (List ℕ)). r.leaves) e in
          let a : given (filled_count l) ≡ given n = ap (λ (r : Outcome ℕ (List ℕ)). r.answer) e in
          (refl, ap given f, cc)
