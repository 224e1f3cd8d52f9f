-- What the converter makes of a file, and which number it gives.
-- Assumes nothing.
use mathlib.Core.Path.{◌≡◌, refl, sym, ap, ap₂, ◌∙◌}
use mathlib.Core.Bool.{Bool, true, false, not}
use mathlib.Core.Option.{Option, none}
use mathlib.Core.List.{List, [], ◌∷◌, ◌++◌}
use Prim.Native.Nat.{ℕ, ◌+◌, ◌*◌, ◌-◌, ◌≤◌, ◌<◌}
use native.Mathlib.Decide.{dec_le}
use native.Mathlib.Omega.{arith}
use borrow.Author.Tests.{lt-ltb, le-ltb}
use lib.Dec.{eqb}
use lib.ListN.{length, take, drop, length-append, length-drop}
use lib.Seq.{sets, take_all}
use borrow.Rule.Slice.PartMut.{put_mid}
use Rattle.lemmas.specs.Bytes.{AllBytes}
use Rattle.lemmas.specs.Stores.{Put}
use Rattle.lemmas.proofs.Stores.{put-from-start, put-length}
use Rattle.file_header.proofs.Laws.{part-stored}
use Rattle.refusals.specs.Outcomes.{Answer, refused, given, Done, done, Outcome, outcome, keeping}
use Rattle.refusals.proofs.Cursor.{start, met, passed, none_left, call-refused, call-goes-on}
use Rattle.index.specs.Settings.{default_settings, Representable, degenerate, former_checks, former_refusal, settings_refusal, unmasked}
use Rattle.index.specs.Laws.{Laws}
use Rattle.index.specs.declared.Settings.{Settings}
use Rattle.index.proofs.DegenerateMasks.{degenerate-laws}
use Rattle.calls.specs.Calls.{Sound}
use Rattle.calls.proofs.Laws.{writer-laws}
use Rattle.calls.proofs.Repeats.{same-calls}
use Rattle.file_form.specs.Parsed.{Parsed, stop, next, answer_of}
use Rattle.file_form.specs.Fields.{from_bits, field_bytes}
use Rattle.file_form.specs.Header.{sizes, values_of, map_of}
use Rattle.file_form.specs.Writer.{header, body, file_of, write_file}
use Rattle.file_form.specs.Reader.{read_all, read_file}
use Rattle.file_form.specs.RoundTrip.{SoundFile}
use Rattle.file_form.proofs.Laws.{header-laws}
use Rattle.file_form.proofs.RoundTrip.{any-reader, written-is-read}
use Rattle.std.specs.Prelude.{Result, Ok, Err}
use Rattle.std.specs.Result.{is_ok}
use Rattle.refusals.specs.Refusals.{refused_by}
use Rattle.refusals.specs.declared.Refusal.{Refusal}
use Rattle.holdfile.specs.Answers.{Examined}
use Rattle.file_convert.specs.Converter.{cleared, without, plain_bytes, convert_checks, from_file, convert_file}
use Rattle.file_convert.specs.Conversion.{FormerList, Converts}

-- ── the header without rule and mask ──
-- whatever the other fields are: their bits stay, and so do their bytes
cleared-map : (w n k : Bool) → cleared (from_bits (true ∷ w ∷ n ∷ true ∷ k ∷ true ∷ [])) ≡ from_bits (false ∷ w ∷ n ∷ false ∷ k ∷ true ∷ [])
cleared-map true true true = refl
cleared-map true true false = refl
cleared-map true false true = refl
cleared-map true false false = refl
cleared-map false true true = refl
cleared-map false true false = refl
cleared-map false false true = refl
cleared-map false false false = refl

other-fields : (w n k : Bool) (r m width less salt : ℕ)
    → let map = from_bits (false ∷ w ∷ n ∷ false ∷ k ∷ true ∷ []) in
    field_bytes sizes map (r ∷ width ∷ less ∷ m ∷ salt ∷ []) ≡ field_bytes sizes map (0 ∷ width ∷ less ∷ 0 ∷ salt ∷ [])
other-fields true true true r m width less salt = refl
other-fields true true false r m width less salt = refl
other-fields true false true r m width less salt = refl
other-fields true false false r m width less salt = refl
other-fields false true true r m width less salt = refl
other-fields false true false r m width less salt = refl
other-fields false false true r m width less salt = refl
other-fields false false false r m width less salt = refl

module _ (s : Settings) (e : former_refusal s ≡ none) (d : degenerate s ≡ true) where
  masked : s.rule ≡ 2
  masked = (((degenerate-laws s).means e).0 d).0

  L : Laws s
  L = (degenerate-laws s).laws e

  abbrev w : Bool
  w = not (eqb s.width default_settings.width)

  abbrev n : Bool
  n = not (eqb s.buckets default_settings.buckets)

  abbrev k : Bool
  k = not (eqb s.salt default_settings.salt)

  map_is : map_of s ≡ from_bits (true ∷ w ∷ n ∷ true ∷ k ∷ true ∷ [])
  map_is = rw masked refl

  map-cleared : cleared (map_of s) ≡ map_of (unmasked s)
  map-cleared = ap cleared map_is ∙ cleared-map w n k

  pub header-without : Representable s → (rest : List ℕ) → plain_bytes (header s ++ rest) ≡ header (unmasked s) ++ rest
  unfolding plain_bytes header
  header-without z rest =
      ap (without (map_of s)) (header-laws.taken s rest L z)
      ∙ ap (λ (m : ℕ). (m ∷ field_bytes sizes m (values_of s)) ++ rest) map-cleared
      ∙ ap (λ (l : List ℕ). (map_of (unmasked s) ∷ l) ++ rest) (other-fields w n k s.rule s.mask s.width (s.buckets - 1) s.salt)

-- ── the checks in their order ──
module _ (bytes out : List ℕ) where
  abbrev new : List ℕ
  new = plain_bytes bytes

  abbrev ends : Parsed (Done Settings (List ℕ)) → Outcome ℕ (List ℕ)
  ends p = keeping out (from_file new out (answer_of p))

  pub unsound : {n : ℕ} → read_all former_checks bytes ≡ stop n → outcome (refused n) out ≡ convert_file bytes out
  unfolding convert_file
  unsound e = sym (ap ends e)

  module _ {s : Settings} {c end : List ℕ} (e : read_all former_checks bytes ≡ next (done s c) end) where
    found : (r : Outcome ℕ (List ℕ)) → r ≡ ends (next (done s c) end) → r ≡ convert_file bytes out
    unfolding convert_file
    found r q = q ∙ sym (ap ends e)

    abbrev comes : Answer (Done ℕ (List ℕ))
    comes = given (done (length new) (new ++ drop (length new) out))

    pub other : degenerate s ≡ false → outcome (refused 24) out ≡ convert_file bytes out
    unfolding convert_checks
    other d = found _ (call-refused out comes (met (start (convert_checks s (length out) (length new))) (ap not d)))

    module _ (d : degenerate s ≡ true) where
      pub short : length out < length new → outcome (refused 16) out ≡ convert_file bytes out
      unfolding convert_checks
      short h = found _ (call-refused out comes (met (passed (start (convert_checks s (length out) (length new))) (ap not d)) (lt-ltb (length out) (length new) h)))

      pub writes : length new ≤ length out → outcome (given (length new)) (new ++ drop (length new) out) ≡ convert_file bytes out
      unfolding convert_checks
      writes h = found _ (call-goes-on out comes (none_left (passed (passed (start (convert_checks s (length out) (length new))) (ap not d)) (le-ltb (length out) (length new) h))))

-- ── which files are converted, and to what ──
module _ (s : Settings) (c : List ℕ) (F : FormerList s c) where
  sound : read_all former_checks (file_of s c) ≡ next (done s c) []
  sound =
      let f : SoundFile (file_of s c) c s = record { types = F.types; size = F.size; fits = F.fits; same = refl } in
      (any-reader former_checks).back s (file_of s c) c ((degenerate-laws s).laws F.settings) F.settings f

  plainly : plain_bytes (file_of s c) ≡ file_of (unmasked s) c
  unfolding file_of
  plainly = header-without s F.settings F.idle F.types (body c)

  abbrev t : Settings
  t = unmasked s

  sound-plain : Sound t c
  sound-plain = record { settings = (degenerate-laws s).plain F.settings F.idle; size = F.size }

  lists : (out : List ℕ) → convert_file (file_of s c) out ≡ write_file t c out
  unfolding write_file
  lists out =
      let W = writer-laws t c (file_of t c) out in
      elim (dec_le (length (file_of t c)) (length out)) [
        | yes h ↦ sym (writes (file_of s c) out sound F.idle (omega (arith, ap length plainly)))
            ∙ ap (λ (l : List ℕ). outcome (given (length l)) (l ++ drop (length l) out)) plainly ∙ W.writes sound-plain F.fits h
        | no h ↦ sym (short (file_of s c) out sound F.idle (omega (arith, ap length plainly))) ∙ W.short sound-plain F.fits (omega arith)
      ]

  reads : (out l t : List ℕ) (n : ℕ) → convert_file (file_of s c) out ≡ outcome (given n) l → length t ≡ 4 * s.buckets → read_file (take n l) t ≡ outcome (given (unmasked s)) c
  reads out l t n e h =
      let z : Representable (unmasked s) =
      record { rule = omega arith; width = F.types.width; buckets = F.types.buckets; mask = omega arith; salt = F.types.salt } in
      written-is-read.again (unmasked s) c out l t n z (sym (lists out) ∙ e) h

only : (bytes out l : List ℕ) (n : ℕ) → AllBytes bytes → convert_file bytes out ≡ outcome (given n) l → (s : Settings) × (c : List ℕ) × FormerList s c × (file_of s c ≡ bytes)
only bytes out l n all e = go (read_all former_checks bytes) refl
  where
    not-given : (k : ℕ) → outcome (refused k) out ≡ convert_file bytes out → ⊥
    not-given k q = let f : refused k ≡ given n = ap (λ (r : Outcome ℕ (List ℕ)). r.answer) (q ∙ e) in let z : ◌≡◌ {A = ℕ} 0 1 = cc in omega arith

    go : (p : Parsed (Done Settings (List ℕ))) → read_all former_checks bytes ≡ p → (s : Settings) × (c : List ℕ) × FormerList s c × (file_of s c ≡ bytes)
    go (stop k) q = absurd (not-given k (unsound bytes out q))
    go (next d end) q = by (degenerate d.says) refl
      where
        by : (b : Bool) → degenerate d.says ≡ b → (s : Settings) × (c : List ℕ) × FormerList s c × (file_of s c ≡ bytes)
        by false h = absurd (not-given 24 (other bytes out q h))
        by true h =
            let k = (any-reader former_checks).only bytes d.leaves end d.says all q in
            let f = k.1 in
            (d.says, d.leaves, record { types = f.types; settings = k.0; idle = h; size = f.size; fits = f.fits }, f.same)

pub converts : Converts
converts = record {
  lists = λ s c out F. lists s c F out;
  only = only;
  reads = λ s c out l t n F. reads s c F out l t n;
  goes_on = λ s c F. same-calls s F.settings F.idle;
}

-- ── the steps of the code: a file that was examined ──
-- what a check's result says of the refusal
pub passes-none : (r : Result (Unit {0}) Refusal) {o : Option ℕ} → refused_by r ≡ o → is_ok r ≡ true → o ≡ none
passes-none (Ok x) e h = sym e
passes-none (Err x) e h = cc

pub refuses-some : (r : Result (Unit {0}) Refusal) {o : Option ℕ} → refused_by r ≡ o → is_ok r ≡ false → o ≡ none → ⊥
refuses-some (Ok x) e h n = cc
refuses-some (Err x) e h n = cc

-- a file that was examined, of a degenerate mask: its header under the plain rule, and what stands behind it
pub record Idle (s : Settings) (bytes : List ℕ) (at : ℕ) : Type 0 where
  pub sound : (c : List ℕ) × (read_all former_checks bytes ≡ next (done s c) [])
  pub idle : degenerate s ≡ true
  pub plain : plain_bytes bytes ≡ header (unmasked s) ++ drop at bytes
  pub inside : at ≤ length bytes

module _ (s : Settings) (bytes : List ℕ) (at : ℕ) (all : AllBytes bytes) (E : Examined bytes (Ok (s, at))) where
  passed-before : former_refusal s ≡ none
  passed-before = ((any-reader former_checks).only bytes E.2.0 [] s all E.2.1).0

  pub code_other : (out : List ℕ) → settings_refusal s ≡ none → outcome (refused 24) out ≡ convert_file bytes out
  code_other out h = other bytes out E.2.1 ((degenerate-laws s).passes.0 h).1

  pub idle-file : (settings_refusal s ≡ none → ⊥) → Idle s bytes at
  idle-file h =
      let d = is_idle (degenerate s) refl in
      let k = header-laws.only bytes (drop at bytes) s all E.1 in
      record { sound = E.2; idle = d; plain = ap plain_bytes (sym k.0) ∙ header-without s passed-before d k.1 (drop at bytes); inside = E.0 }
    where
      is_idle : (b : Bool) → degenerate s ≡ b → b ≡ true
      is_idle true e = refl
      is_idle false e = absurd (h ((degenerate-laws s).passes.1 (passed-before, e)))

-- the rest of the bytes as the code takes it
abbrev rest_of : List ℕ → ℕ → List ℕ
rest_of bytes at = take (length bytes - at) (drop at bytes)

module _ {s : Settings} {bytes : List ℕ} {at : ℕ} (I : Idle s bytes at) (out : List ℕ) {n : ℕ} (head : n ≡ length (header (unmasked s))) where
  rest-is : rest_of bytes at ≡ drop at bytes
  rest-is = take_all (length bytes - at) (drop at bytes) (omega (arith, length-drop at bytes))

  needed : n + length (rest_of bytes at) ≡ length (plain_bytes bytes)
  needed = omega (arith, head, ap length rest-is, ap length I.plain, length-append (header (unmasked s)) (drop at bytes))

  pub code-short : length out < n + length (rest_of bytes at) → outcome (refused 16) out ≡ convert_file bytes out
  code-short h = short bytes out I.sound.1 I.idle (omega (arith, needed))

  module _ (room : n + length (rest_of bytes at) ≤ length out) {mid part : List ℕ} {to : ℕ} (put : Put out mid 0 (header (unmasked s)) to) (copied : part ≡ rest_of bytes at) where
    stored : put_mid to (n + length (rest_of bytes at) - to) mid part ≡ sets mid to (drop at bytes)
    stored = part-stored to (n + length (rest_of bytes at)) mid part (drop at bytes) (omega (arith, head, put.place, ap length rest-is)) (omega (arith, put-length put)) (copied ∙ rest-is)

    pub code-written : outcome (given (n + length (rest_of bytes at))) (put_mid to (n + length (rest_of bytes at) - to) mid part) ≡ convert_file bytes out
    code-written =
        let whole = put-from-start (drop at bytes) put stored (omega (arith, ap length I.plain, needed)) in
        let shown : put_mid to (n + length (rest_of bytes at) - to) mid part ≡ plain_bytes bytes ++ drop (length (plain_bytes bytes)) out =
        whole ∙ sym (ap (λ (x : List ℕ). x ++ drop (length x) out) I.plain) in
        ap₂ (λ (x : ℕ) (y : List ℕ). outcome (given x) y) needed shown ∙ writes bytes out I.sound.1 I.idle (omega (arith, needed))
