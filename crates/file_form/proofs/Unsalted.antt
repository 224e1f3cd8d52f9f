-- A header with one field more reads and writes as before where that field is absent.
-- Assumes nothing.
use mathlib.Core.Path.{◌≡◌, refl, sym, ap, ap₂, ◌∙◌}
use mathlib.Core.Bool.{false}
use mathlib.Core.List.{List, [], ◌∷◌, ◌++◌}
use Prim.Native.Nat.{ℕ, suc, ◌+◌, ◌/◌, ◌%◌, ◌<◌}
use native.Mathlib.Omega.{arith}
use native.Mathlib.Decide.{dec_le}
use borrow.Author.Tests.{le-leb, lt-leb, eq-eqb, eqb-false, ne_eqb}
use lib.ListN.{length}
use Rattle.refusals.specs.Checks.{first_met}
use Rattle.refusals.specs.Outcomes.{keeping}
use Rattle.index.specs.declared.Settings.{Settings}
use Rattle.calls.specs.WrittenForms.{written}
use Rattle.file_form.specs.Parsed.{Parsed, stop, next, and_then, checked, answer_of}
use Rattle.file_form.specs.Fields.{bit, field_bytes, take_number, field, take_fields}
use Rattle.file_form.specs.Header.{sizes, values_of, map_of, map_checks, misfit}
use Rattle.file_form.specs.Writer.{header, body, file_of, write_file}
use Rattle.file_form.specs.Reader.{fitting, read_fields, settings_after_map, read_header, after_header, read_all, into, read_file, named, header_answer}
use Rattle.file_form.specs.Unsalted.{sizes4, values_of4, defaults4, standing4, map_of4, map_checks4, misfit4, header4, file_of4, salt_bit, marked, UnsaltedFiles}
use Rattle.file_form.specs.Unsalted.{fitting4, read_fields4, settings_after_map4, read_header4, read_file4, header_answer4}
use Rattle.file_form.proofs.Fields.{bit-under, from_low}

-- ── fields of any sizes, and one more behind them that is absent ──
module _ {B : Type 0} (n d : ℕ) where
  -- the first field, and then the others
  first_field : (n₀ m d₀ : ℕ) (ns ds l : List ℕ) (g : List ℕ → List ℕ → Parsed B) → and_then (take_fields (n₀ ∷ ns) m (d₀ ∷ ds) l) g
      ≡ and_then (field (bit 0 m) d₀ (take_number n₀) l) (λ v r. and_then (take_fields ns (m / 2) ds r) (λ vs end. g (v ∷ vs) end))
  first_field n₀ m d₀ ns ds l g = go (field (bit 0 m) d₀ (take_number n₀) l)
    where
      rest : (v : ℕ) (p : Parsed (List ℕ)) → and_then (and_then p (λ vs end. next (v ∷ vs) end)) g ≡ and_then p (λ vs end. g (v ∷ vs) end)
      rest v (stop k) = refl
      rest v (next vs end) = refl

      go : (p : Parsed ℕ) → and_then (and_then p (λ v r. and_then (take_fields ns (m / 2) ds r) (λ vs end. next (v ∷ vs) end))) g
          ≡ and_then p (λ v r. and_then (take_fields ns (m / 2) ds r) (λ vs end. g (v ∷ vs) end))
      go (stop k) = refl
      go (next v r) = rest v (take_fields ns (m / 2) ds r)

  alike : (p : Parsed ℕ) (g h : ℕ → List ℕ → Parsed B) → ((v : ℕ) (r : List ℕ) → g v r ≡ h v r) → and_then p g ≡ and_then p h
  alike (stop k) g h e = refl
  alike (next v r) g h e = e v r

  pub last-absent : (ns ds : List ℕ) (m : ℕ) (l : List ℕ) (g h : List ℕ → List ℕ → Parsed B) → length ds ≡ length ns → bit (length ns) m ≡ false
      → ((vs rest : List ℕ) → length vs ≡ length ns → g (vs ++ (d ∷ [])) rest ≡ h vs rest)
      → and_then (take_fields (ns ++ (n ∷ [])) m (ds ++ (d ∷ [])) l) g ≡ and_then (take_fields ns m ds l) h
  last-absent [] [] m l g h e b same = rw b (same [] l refl)
  last-absent [] (d₀ ∷ ds) m l g h e b same = absurd (omega arith)
  last-absent (n₀ ∷ ns) [] m l g h e b same = absurd (omega arith)
  last-absent (n₀ ∷ ns) (d₀ ∷ ds) m l g h e b same =
      first_field n₀ m d₀ (ns ++ (n ∷ [])) (ds ++ (d ∷ [])) l g
      ∙ alike (field (bit 0 m) d₀ (take_number n₀) l) _ _ (λ v r.
      last-absent ns ds (m / 2) r (λ vs end. g (v ∷ vs) end) (λ vs end. h (v ∷ vs) end) (omega arith) b (λ vs rest k. same (v ∷ vs) rest (ap suc k)))
      ∙ sym (first_field n₀ m d₀ ns ds l h)

-- ── read ──
module _ (m : ℕ) (b : bit 4 m ≡ false) where
  fitting-same : (vs rest : List ℕ) → length vs ≡ 4 → fitting (m + 32) (vs ++ (0 ∷ [])) rest ≡ fitting4 m vs rest
  unfolding fitting fitting4 misfit misfit4
  fitting-same [] rest e = absurd (omega arith)
  fitting-same (v ∷ []) rest e = absurd (omega arith)
  fitting-same (v ∷ w ∷ []) rest e = absurd (omega arith)
  fitting-same (v ∷ w ∷ x ∷ []) rest e = absurd (omega arith)
  fitting-same (v ∷ w ∷ x ∷ y ∷ []) rest e = rw (bit-under 4 1 m, bit-under 3 2 m, bit-under 2 4 m, bit-under 1 8 m, bit-under 0 16 m, b) refl
  fitting-same (v ∷ w ∷ x ∷ y ∷ z ∷ vs) rest e = absurd (omega arith)

  taken-same : (rest : List ℕ) → take_fields sizes4 (m + 32) defaults4 rest ≡ take_fields sizes4 m defaults4 rest
  taken-same rest = rw (bit-under 3 2 m, bit-under 2 4 m, bit-under 1 8 m, bit-under 0 16 m) refl

  fields-read-same : (rest : List ℕ) → read_fields (m + 32) rest ≡ read_fields4 m rest
  unfolding read_fields read_fields4
  fields-read-same rest =
      last-absent 8 0 sizes4 defaults4 (m + 32) rest (fitting (m + 32)) (fitting4 m) refl (bit-under 4 1 m ∙ b) fitting-same
      ∙ ap (λ (p : Parsed (List ℕ)). and_then p (fitting4 m)) (taken-same rest)

  -- an upper bit of the earlier map is one of the marked map, or the salt's
  checks-same : first_met (map_checks (m + 32)) ≡ first_met (map_checks4 m)
  unfolding map_checks map_checks4
  checks-same = elim (dec_le 16 m) [
    | yes h ↦ rw (le-leb 64 (m + 32) (omega (arith, eqb-false (m / 2 / 2 / 2 / 2 % 2) 1 b)), le-leb 16 m h) refl
    | no h ↦ rw (
      lt-leb 64 (m + 32) (omega arith),
      lt-leb 16 m (omega arith),
      eq-eqb ((m + 32) / 2 / 2 / 2 / 2 / 2 % 2) 1 (omega arith),
    ) refl
  ]

  after_map : (rest : List ℕ) → settings_after_map (m + 32) rest ≡ settings_after_map4 m rest
  unfolding settings_after_map settings_after_map4
  after_map rest = ap₂ checked checks-same (fields-read-same rest)

header-same : (bytes : List ℕ) → salt_bit bytes ≡ false → read_header (marked bytes) ≡ read_header4 bytes
unfolding read_header read_header4
header-same [] b = refl
header-same (m ∷ rest) b = after_map m b rest

reads : (bytes c : List ℕ) → salt_bit bytes ≡ false → read_file (marked bytes) c ≡ read_file4 bytes c
unfolding read_file read_file4 read_all
reads bytes c b = ap (λ (p : Parsed Settings). keeping c (answer_of (and_then p (after_header (into c))))) (header-same bytes b)

tells : (bytes : List ℕ) → salt_bit bytes ≡ false → header_answer (marked bytes) ≡ header_answer4 bytes
unfolding header_answer header_answer4
tells bytes b = ap named (header-same bytes b)

-- ── written ──
map_same : (s : Settings) → s.salt ≡ 0 → map_of s ≡ map_of4 s + 32
map_same s e = rw e (omega arith)

low_bit : (m : ℕ) → m < 16 → bit 4 m ≡ false
low_bit m h = ne_eqb (m / 2 / 2 / 2 / 2 % 2) 1 (λ z. omega arith)

fields-same : (s : Settings) (m : ℕ) → bit 4 m ≡ false → field_bytes sizes (m + 32) (values_of s) ≡ field_bytes sizes4 m (values_of4 s)
fields-same s m b = rw (bit-under 4 1 m, bit-under 3 2 m, bit-under 2 4 m, bit-under 1 8 m, bit-under 0 16 m, b) refl

files : (s : Settings) (c : List ℕ) → s.salt ≡ 0 → file_of s c ≡ marked (file_of4 s c)
unfolding file_of file_of4 header header4
files s c e =
    ap (λ (m : ℕ). m ∷ field_bytes sizes m (values_of s) ++ body c) (map_same s e)
    ∙ ap (λ (l : List ℕ). (map_of4 s + 32) ∷ l ++ body c) (fields-same s (map_of4 s) (low_bit (map_of4 s) (from_low (standing4 s))))

writes : (s : Settings) (c out : List ℕ) → s.salt ≡ 0 → write_file s c out ≡ written s c (marked (file_of4 s c)) out
unfolding write_file
writes s c out e = ap (λ (l : List ℕ). written s c l out) (files s c e)

pub unsalted-files : UnsaltedFiles
unsalted-files = record { files = files; writes = writes; reads = reads; tells = tells }
