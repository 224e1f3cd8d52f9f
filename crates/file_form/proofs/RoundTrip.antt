-- Round trip, both ways, and what the header alone tells.
-- Assumes nothing.
use mathlib.Core.Path.{◌≡◌, refl, sym, ap, ap₂, ◌∙◌, subst}
use mathlib.Core.Bool.{false}
use mathlib.Core.Option.{Option, none}
use mathlib.Core.List.{List, [], ◌∷◌, ◌++◌, append-nil}
use Prim.Native.Nat.{ℕ, ◌*◌, ◌^◌, ◌≤◌}
use native.Mathlib.Omega.{arith}
use lib.ListN.{length, take, drop}
use Rattle.lemmas.specs.Bytes.{AllBytes}
use Rattle.refusals.specs.Checks.{Check, first_met}
use Rattle.refusals.specs.Outcomes.{Answer, refused, given, Done, done, Outcome, outcome, keeping}
use Rattle.refusals.proofs.Cursor.{goes_on, by-check, by-none}
use Rattle.refusals.proofs.Laws.{refusal-laws}
use Rattle.index.specs.Settings.{Representable, settings_refusal}
use Rattle.index.specs.Laws.{Laws}
use Rattle.index.specs.declared.Settings.{Settings}
use Rattle.index.proofs.Laws.{laws}
use Rattle.calls.specs.Calls.{Sound}
use Rattle.calls.specs.WrittenForms.{any_from}
use Rattle.calls.proofs.Laws.{table-check-laws, writer-laws}
use Rattle.file_form.specs.Writer.{header, body, file_of, write_file}
use Rattle.file_form.specs.Parsed.{Parsed, stop, next, and_then, checked, answer_of}
use Rattle.file_form.specs.Reader.{read_header, read_buckets, bytes_left_over, after_buckets, after_header, read_all, into, read_file, named, header_answer}
use Rattle.file_form.specs.RoundTrip.{SoundFile, AnyReader, WrittenIsRead, ReadIsWritten, RefusedReadKeeps, HeaderTells}
use Rattle.file_form.proofs.Parses.{onward, split, same_next, not-refused, not-checked}
use Rattle.file_form.proofs.Headers.{header_read, header-back}
use Rattle.file_form.proofs.Buckets.{buckets-long, buckets-read, buckets-back}

-- ── refused ──
keeps : (bytes c : List ℕ) (n : ℕ) → (read_file bytes c).answer ≡ refused n → (read_file bytes c).leaves ≡ c
unfolding read_file
keeps bytes c n e = refusal-laws.keeps n c (answer_of (read_all (into c) bytes)) e

pub refused-read-keeps : RefusedReadKeeps
refused-read-keeps = record { keeps = keeps }

-- ── whatever checks are made of the settings ──
-- a reading left nothing over
to_end : {A : Type 0} {p : Parsed A} {a : A} (rest : List ℕ) → bytes_left_over rest ≡ false → p ≡ next a rest → p ≡ next a []
to_end [] e f = f
to_end (b ∷ l) e f = absurd (let z : ◌≡◌ {A = ℕ} 0 1 = cc e in omega arith)

module _ (checks : Settings → List Check) where
  any-back : (s : Settings) (bytes c : List ℕ) → Laws s → first_met (checks s) ≡ none → SoundFile bytes c s → read_all checks bytes ≡ next (done s c) []
  unfolding read_all file_of after_header after_buckets
  any-back s bytes c L e f =
      ap (read_all checks) (sym f.same)
      ∙ onward (read_header (header s ++ body c)) (after_header checks) s (body c) (header_read s f.types L (body c))
      ∙ ap (λ (o : Option ℕ). checked o (and_then (read_buckets s.width s.buckets (body c)) (after_buckets s))) e
      ∙ onward (read_buckets s.width s.buckets (body c)) (after_buckets s) c [] (buckets-read s.width s.buckets c f.size f.fits)

  -- the parts of a file that is sound: its header, settings that pass, and its buckets
  record Parts (bytes c : List ℕ) (s : Settings) : Type 0 where
    pub rest : List ℕ
    pub first : read_header bytes ≡ next s rest
    pub passes : first_met (checks s) ≡ none
    pub buckets : read_buckets s.width s.buckets rest ≡ next c []

  parts : (bytes c end : List ℕ) (s : Settings) → read_all checks bytes ≡ next (done s c) end → Parts bytes c s
  unfolding read_all after_header after_buckets
  parts bytes c end s e =
      let h = split (read_header bytes) (after_header checks) (done s c) end e in
      let v : Settings = h.value in
      let read = read_buckets v.width v.buckets h.rest in
      let o = not-checked (first_met (checks v)) (and_then read (after_buckets v)) (done s c) end h.then in
      let b = split read (after_buckets v) (done s c) end o.1 in
      let n = not-refused (bytes_left_over b.rest) 15 (next (done v b.value) b.rest) (done s c) end b.then in
      let q = same_next n.1 in
      let p : Parts bytes b.value v = record { rest = h.rest; first = h.first; passes = o.0; buckets = to_end b.rest n.0 b.first } in
      subst (λ (x : List ℕ). Parts bytes x s) (ap (λ (d : Done Settings (List ℕ)). d.leaves) q.0)
      (subst (λ (x : Settings). Parts bytes b.value x) (ap (λ (d : Done Settings (List ℕ)). d.says) q.0) p)

  any-only : (bytes c end : List ℕ) (s : Settings) → AllBytes bytes → read_all checks bytes ≡ next (done s c) end → (first_met (checks s) ≡ none) × SoundFile bytes c s
  unfolding file_of
  any-only bytes c end s all e =
      let p = parts bytes c end s e in
      let k = header-back bytes s p.rest all p.first in
      let m = buckets-back s.width s.buckets p.rest c [] k.back.left p.buckets in
      let same : file_of s c ≡ bytes = ap (λ (x : List ℕ). header s ++ x) (sym (append-nil (body c)) ∙ m.same) ∙ k.back.same in
      (p.passes, record { types = k.types; size = m.long; fits = m.small; same = same })

  pub any-reader : AnyReader checks
  any-reader = record { back = any-back; only = any-only }

-- ── written, then read ──
back : (s : Settings) (c t : List ℕ) → Representable s → settings_refusal s ≡ none → length c ≡ 4 * s.buckets → length t ≡ 4 * s.buckets → any_from (2 ^ s.width) c ≡ false
    → read_file (file_of s c) t ≡ outcome (given s) c
unfolding read_file
back s c t z e lc lt small =
    let f : SoundFile (file_of s c) c s = record { types = z; size = lc; fits = small; same = refl } in
    ap (λ (p : Parsed (Done Settings (List ℕ))). keeping t (answer_of p))
    (any-back (into t) s (file_of s c) c (laws s e) ((table-check-laws s t).passes (record { settings = e; size = lt })) f)

again : (s : Settings) (c out l t : List ℕ) (n : ℕ) → Representable s → write_file s c out ≡ outcome (given n) l → length t ≡ 4 * s.buckets → read_file (take n l) t ≡ outcome (given s) c
unfolding write_file
again s c out l t n z e h =
    let w = (writer-laws s c (file_of s c) out).accepted n l e in
    ap (λ (b : List ℕ). read_file b t) w.first ∙ back s c t z w.sound.settings w.sound.size h w.fits

pub written-is-read : WrittenIsRead
written-is-read = record { back = back; again = again }

-- ── read, then written ──
-- a reading that gave settings refused nothing
given-next : (t c : List ℕ) (s : Settings) (p : Parsed (Done Settings (List ℕ))) → keeping t (answer_of p) ≡ outcome (given s) c → (end : List ℕ) × (p ≡ next (done s c) end)
given-next t c s (stop n) e = absurd (let f : refused n ≡ given s = ap (λ (r : Outcome Settings (List ℕ)). r.answer) e in let z : ◌≡◌ {A = ℕ} 0 1 = cc in omega arith)
given-next t c s (next d end) e =
    let f : given d.says ≡ given s = ap (λ (r : Outcome Settings (List ℕ)). r.answer) e in
    let says : d.says ≡ s = cc in
    (end, ap₂ (λ (x : Settings) (y : List ℕ). next (done x y) end) says (ap (λ (r : Outcome Settings (List ℕ)). r.leaves) e))

module _ (bytes t c : List ℕ) (s : Settings) (e : read_file bytes t ≡ outcome (given s) c) where
  gave : (end : List ℕ) × (read_all (into t) bytes ≡ next (done s c) end)
  unfolding read_file
  gave = given-next t c s (read_all (into t) bytes) e

  header_of : Parts (into t) bytes c s
  header_of = parts (into t) bytes c gave.0 s gave.1

  sound-of : Sound s t
  sound-of = (table-check-laws s t).sound header_of.passes

  -- so is what is left
  pub read-sound : Sound s c
  read-sound = record { settings = sound-of.settings; size = buckets-long s.width s.buckets header_of.rest c [] header_of.buckets }

  module _ (all : AllBytes bytes) where
    file-of : SoundFile bytes c s
    file-of = (any-only (into t) bytes c gave.0 s all gave.1).1

    -- the writer refuses nothing of what was accepted
    makes : (out : List ℕ) → length bytes ≤ length out → write_file s c out ≡ outcome (given (length bytes)) (bytes ++ drop (length bytes) out)
    unfolding write_file
    makes out h = rw file-of.same (sym ((writer-laws s c bytes out).writes (record { settings = sound-of.settings; size = file-of.size }) file-of.fits h))

pub read-is-written : ReadIsWritten
read-is-written = record {
  representable = λ bytes t c s all e. (file-of bytes t c s e all).types;
  only = λ bytes t c s all e. (file-of bytes t c s e all).same;
  makes = λ bytes t c out s all e h. makes bytes t c s e all out h;
}

-- ── what the header alone tells ──
-- settings that were named have passed
named-pass : (p : Parsed Settings) (s : Settings) → named p ≡ given s → settings_refusal s ≡ none
named-pass (stop n) s e = absurd (let z : ◌≡◌ {A = ℕ} 0 1 = cc in omega arith)
named-pass (next v rest) s e = let r = by-none (settings_refusal v) (sym e) in ap (λ (x : Settings). settings_refusal x) r.1 ∙ r.0

tells : (bytes c : List ℕ) (s : Settings) → (read_file bytes c).answer ≡ given s → (header_answer bytes ≡ given s) × (length c ≡ 4 * s.buckets)
unfolding header_answer
tells bytes c s e =
    let f : read_file bytes c ≡ outcome (given s) (read_file bytes c).leaves = ap (λ (a : Answer Settings). outcome a (read_file bytes c).leaves) e in
    let S = sound-of bytes c (read_file bytes c).leaves s f in
    (ap named (header_of bytes c (read_file bytes c).leaves s f).first ∙ sym (goes_on (given s) S.settings), S.size)

passes : (bytes : List ℕ) (s : Settings) → header_answer bytes ≡ given s → settings_refusal s ≡ none
unfolding header_answer
passes bytes s e = named-pass (read_header bytes) s e

-- where the header is refused, so is what is read from there on
stopped : (c : List ℕ) (p : Parsed Settings) (n : ℕ) → named p ≡ refused n → answer_of (and_then p (after_header (into c))) ≡ refused n
unfolding after_header
stopped c (stop k) n e = let q : k ≡ n = cc in ap refused q
stopped c (next v rest) n e =
    ap (λ (o : Option ℕ). answer_of (checked o (and_then (read_buckets v.width v.buckets rest) (after_buckets v))))
    ((table-check-laws v c).by_settings n (by-check (settings_refusal v) v (sym e)))

refuses : (bytes c : List ℕ) (n : ℕ) → header_answer bytes ≡ refused n → (read_file bytes c).answer ≡ refused n
unfolding header_answer read_file read_all
refuses bytes c n e = ap (λ (a : Answer (Done Settings (List ℕ))). (keeping c a).answer) (stopped c (read_header bytes) n e)

pub header-tells : HeaderTells
header-tells = record { tells = tells; passes = passes; refuses = refuses }
