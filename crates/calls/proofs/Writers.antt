-- Which check refuses a writer of either form, in the order in which the code makes them, what it comes to where none does, and what an
-- accepted writing tells; and the same of the length that is told beforehand.
-- Assumes nothing.
use mathlib.Core.Path.{◌≡◌, refl, ap, ◌∙◌, sym}
use mathlib.Core.Logic.{◌≢◌}
use mathlib.Core.Bool.{true, false}
use mathlib.Core.Option.{Option, none, some}
use mathlib.Core.List.{List, [], ◌∷◌, ◌++◌, append_assoc}
use native.Mathlib.Omega.{arith}
use Prim.Native.Nat.{ℕ, ◌^◌, ◌≤◌, ◌<◌}
use borrow.Author.Tests.{lt-ltb, le-ltb}
use lib.Dec.{ltb}
use lib.ListN.{length, take, drop}
use lib.Seq.{take_at}
use Rattle.refusals.specs.Checks.{check, first_met, number_of}
use Rattle.refusals.specs.Outcomes.{Answer, refused, given, unless, Done, done, outcome, keeping}
use Rattle.refusals.specs.Laws.{Reached}
use Rattle.refusals.proofs.Cursor.{start, met, passed, none_left, all-met, all-passed, parts-passed, not-met, is-refused, goes_on}
use Rattle.refusals.proofs.Cursor.{by-check, by-none, call-refused, call-goes-on, number-refuses}
use Rattle.index.specs.declared.Settings.{Settings}
use Rattle.calls.specs.Calls.{table_checks, Sound}
use Rattle.calls.specs.WrittenForms.{any_from, write_checks, count_checks, Written, written, length_of}
use Rattle.calls.specs.Laws.{Wrote, WriterLaws, LengthLaws}
use Rattle.calls.proofs.Refusals.{table-check-laws}

-- ── a writer, whatever bytes it has to write ──
module _ (s : Settings) (c bytes out : List ℕ) where
  abbrev wrote : Answer (Done ℕ (List ℕ))
  wrote = given (done (length bytes) (bytes ++ drop (length bytes) out))

  write-stopped : {n : ℕ} → n ≡ number_of (first_met (table_checks s c)) → n ≢ 0 → outcome (refused n) out ≡ written s c bytes out
  unfolding written write_checks
  write-stopped e h = number-refuses out wrote (table_checks s c) _ e h

  module _ (S : Sound s c) where
    at_width : Reached (write_checks s c (length out) (length bytes)) (check 17 (any_from (2 ^ s.width) c) ∷ check 16 (ltb (length out) (length bytes)) ∷ [])
    unfolding write_checks
    at_width = all-passed (table_checks s c) _ (start _) ((table-check-laws s c).passes S)

    write-wide : any_from (2 ^ s.width) c ≡ true → outcome (refused 17) out ≡ written s c bytes out
    unfolding written
    write-wide h = call-refused out wrote (met at_width h)

    module _ (fits : any_from (2 ^ s.width) c ≡ false) where
      write-short : length out < length bytes → outcome (refused 16) out ≡ written s c bytes out
      unfolding written
      write-short h = call-refused out wrote (met (passed at_width fits) (lt-ltb _ _ h))

      write-given : length bytes ≤ length out → outcome (given (length bytes)) (bytes ++ drop (length bytes) out) ≡ written s c bytes out
      unfolding written
      write-given h = call-goes-on out wrote (none_left (passed (passed at_width fits) (le-ltb _ _ h)))

  -- ── back from an accepted writing ──
  none-met : first_met (write_checks s c (length out) (length bytes)) ≡ none → (Sound s c) × (any_from (2 ^ s.width) c ≡ false)
  unfolding write_checks
  none-met e =
      let room = check 16 (ltb (length out) (length bytes)) in
      let q = parts-passed (table_checks s c) (check 17 (any_from (2 ^ s.width) c) ∷ room ∷ []) e in
      ((table-check-laws s c).sound q.0, (not-met (check 17 (any_from (2 ^ s.width) c)) (room ∷ []) q.1).0)

  write-accepted : (n : ℕ) (l : List ℕ) → written s c bytes out ≡ outcome (given n) l → Wrote s c bytes n l
  unfolding written
  write-accepted n l e = go (first_met (write_checks s c (length out) (length bytes))) refl e
    where
      go : (o : Option ℕ) → first_met (write_checks s c (length out) (length bytes)) ≡ o → keeping out (unless o wrote) ≡ outcome (given n) l → Wrote s c bytes n l
      go (some k) f g = absurd (let a = ap (λ (x : Written). x.answer) g in let z : ◌≡◌ {A = ℕ} 0 1 = cc in omega arith)
      go none f g =
          let a = ap (λ (x : Written). x.answer) g in
          let q : length bytes ≡ n = cc in
          let d = none-met f in
          record { sound = d.0; fits = d.1; first = ap (λ (x : Written). take n x.leaves) (sym g) ∙ take_at bytes (drop (length bytes) out) n q }

  pub writer-laws : WriterLaws s c bytes out
  writer-laws = record { stopped = λ e h. write-stopped e h; wide = write-wide; short = write-short; writes = write-given; accepted = write-accepted }

-- ── the length, foretold ──
module _ (s : Settings) (c bytes : List ℕ) where
  abbrev sized : Answer ℕ
  sized = given (length bytes)

  length-stopped : {n : ℕ} → some n ≡ first_met (table_checks s c) → refused n ≡ length_of s c bytes
  unfolding length_of count_checks
  length-stopped e = is-refused sized (all-met (table_checks s c) _ (start _) (sym e))

  -- past the table's checks the cells decide
  at_cells : Sound s c → Reached (count_checks s c) (check 17 (any_from (2 ^ s.width) c) ∷ [])
  unfolding count_checks
  at_cells S = all-passed (table_checks s c) _ (start _) ((table-check-laws s c).passes S)

  length-wide : Sound s c → any_from (2 ^ s.width) c ≡ true → refused 17 ≡ length_of s c bytes
  unfolding length_of
  length-wide S h = is-refused sized (met (at_cells S) h)

  length-gives : Sound s c → any_from (2 ^ s.width) c ≡ false → given (length bytes) ≡ length_of s c bytes
  unfolding length_of
  length-gives S h = goes_on sized (none_left (passed (at_cells S) h))

  -- and back: what is known where there is a length
  length-known : (n : ℕ) → length_of s c bytes ≡ given n → Sound s c × (any_from (2 ^ s.width) c ≡ false) × (n ≡ length bytes)
  unfolding length_of count_checks
  length-known n e =
      let k = by-none (first_met (count_checks s c)) (sym e) in
      let q = parts-passed (table_checks s c) _ k.0 in
      ((table-check-laws s c).sound q.0, (not-met _ [] q.1).0, k.1)

  length-tells : (n : ℕ) → length_of s c bytes ≡ given n → Sound s c × (n ≡ length bytes)
  length-tells n e = let k = length-known n e in (k.0, k.2)

  module _ (n : ℕ) (out : List ℕ) where
    -- the output is looked at last
    last-check : write_checks s c (length out) (length bytes) ≡ count_checks s c ++ (check 16 (ltb (length out) (length bytes)) ∷ [])
    unfolding write_checks count_checks
    last-check = sym (append_assoc (table_checks s c) _ _)

    next_refused : length_of s c bytes ≡ refused n → written s c bytes out ≡ outcome (refused n) out
    unfolding length_of written
    next_refused e =
        let k = all-met (count_checks s c) (check 16 (ltb (length out) (length bytes)) ∷ []) (start _) (by-check (first_met (count_checks s c)) (length bytes) (sym e)) in
        sym (call-refused out (wrote s c bytes out) (ap first_met last-check ∙ k))

    next_short : length_of s c bytes ≡ given n → length out < n → written s c bytes out ≡ outcome (refused 16) out
    next_short e h = let k = length-known n e in sym ((writer-laws s c bytes out).short k.0 k.1 (omega (arith, k.2)))

    next_fits : length_of s c bytes ≡ given n → n ≤ length out → written s c bytes out ≡ outcome (given n) (bytes ++ drop n out)
    next_fits e h = let k = length-known n e in rw k.2 (sym ((writer-laws s c bytes out).writes k.0 k.1 (omega (arith, k.2))))

  pub length-laws : LengthLaws s c bytes
  length-laws = record {
    stopped = λ e. length-stopped e;
    wide = length-wide;
    gives = length-gives;
    tells = length-tells;
    next_refused = next_refused;
    next_short = next_short;
    next_fits = next_fits;
  }
