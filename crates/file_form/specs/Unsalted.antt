-- The hold file as it was before settings had a salt, a header of four fields, and that nothing of it has changed where there is no salt, but
-- for the mark of even fingerprints, bit 5 of the first byte, which every file has had since.
-- The definitions with a 4 in their names are kept for this statement; nothing else uses them.
-- Assumes nothing.
use Rattle.std.specs.Prelude.{◌≡◌, Bool, false, cond, not, ◌&&◌, List, [], ◌∷◌, ◌++◌, ℕ, ◌+◌, ◌-◌, eqb, leb, get_or}
use Rattle.refusals.specs.Checks.{Check, check, first_met}
use Rattle.refusals.specs.Outcomes.{Answer, Outcome, keeping}
use Rattle.index.specs.Settings.{default_settings}
use Rattle.index.specs.declared.Settings.{Settings}
use Rattle.calls.specs.WrittenForms.{written}
use Rattle.file_form.specs.Parsed.{Parsed, next, and_then, refuse_if, checked, answer_of}
use Rattle.file_form.specs.Fields.{bit, from_bits, any_of, field_bytes, take_fields}
use Rattle.file_form.specs.Header.{masked}
use Rattle.file_form.specs.Writer.{body, file_of, write_file}
use Rattle.file_form.specs.Reader.{take_byte, after_header, into, read_file, named, header_answer}

-- ── the four fields ──
abbrev pub sizes4 : List ℕ
sizes4 = 1 ∷ 1 ∷ 2 ∷ 2 ∷ []

abbrev pub values_of4 : Settings → List ℕ
values_of4 s = s.rule ∷ s.width ∷ (s.buckets - 1) ∷ s.mask ∷ []

-- settings of four numbers are those whose salt is 0
abbrev pub settings_from4 : List ℕ → Settings
settings_from4 values = record { rule = get_or values 0 0; width = get_or values 1 0; buckets = get_or values 2 0 + 1; mask = get_or values 3 0; salt = 0 }

abbrev pub defaults4 : List ℕ
defaults4 = values_of4 default_settings

abbrev pub standing4 : Settings → List Bool
standing4 s =
    not (eqb s.rule default_settings.rule)
    ∷ not (eqb s.width default_settings.width)
    ∷ not (eqb s.buckets default_settings.buckets)
    ∷ masked s
    ∷ []

abbrev pub map_of4 : Settings → ℕ
map_of4 s = from_bits (standing4 s)

unfoldable pub map_checks4 : ℕ → List Check
map_checks4 map = check 12 (leb 16 map) ∷ []

unfoldable pub misfit4 : ℕ → Settings → Bool
misfit4 map s =
    any_of
    ((bit 0 map && eqb s.rule default_settings.rule)
    ∷ (bit 1 map && eqb s.width default_settings.width)
    ∷ (bit 2 map && eqb s.buckets default_settings.buckets)
    ∷ cond (bit 3 map) (not (masked s)) (masked s)
    ∷ [])

-- ── written ──
unfoldable pub header4 : Settings → List ℕ
header4 s = map_of4 s ∷ field_bytes sizes4 (map_of4 s) (values_of4 s)

unfoldable pub file_of4 : Settings → List ℕ → List ℕ
file_of4 s c = header4 s ++ body c

-- ── read ──
unfoldable pub fitting4 : ℕ → List ℕ → List ℕ → Parsed Settings
fitting4 map values rest = refuse_if (misfit4 map (settings_from4 values)) 12 (next (settings_from4 values) rest)

unfoldable pub read_fields4 : ℕ → List ℕ → Parsed Settings
read_fields4 map bytes = and_then (take_fields sizes4 map defaults4 bytes) (fitting4 map)

unfoldable pub settings_after_map4 : ℕ → List ℕ → Parsed Settings
settings_after_map4 map rest = checked (first_met (map_checks4 map)) (read_fields4 map rest)

unfoldable pub read_header4 : List ℕ → Parsed Settings
read_header4 bytes = and_then (take_byte bytes) settings_after_map4

unfoldable pub read_file4 : List ℕ → List ℕ → Outcome Settings (List ℕ)
read_file4 bytes c = keeping c (answer_of (and_then (read_header4 bytes) (after_header (into c))))

unfoldable pub header_answer4 : List ℕ → Answer Settings
header_answer4 bytes = named (read_header4 bytes)

-- ── what has not changed ──
-- bit 4 of the first byte; bytes without a first one have no bit 4
abbrev pub salt_bit : List ℕ → Bool
salt_bit [] = false
salt_bit (map ∷ rest) = bit 4 map

-- earlier bytes with the mark: 32, which is bit 5, added to the first
abbrev pub marked : List ℕ → List ℕ
marked [] = []
marked (map ∷ rest) = (map + 32) ∷ rest

pub record UnsaltedFiles : Type 0 where
  -- the file of a list of salt 0 is the earlier one with the mark, byte for byte, and that is what is written, or refused as before
  pub files : (s : Settings) (c : List ℕ) → s.salt ≡ 0 → file_of s c ≡ marked (file_of4 s c)
  pub writes : (s : Settings) (c out : List ℕ) → s.salt ≡ 0 → write_file s c out ≡ written s c (marked (file_of4 s c)) out
  -- earlier bytes without bit 4, whatever they are, are with the mark read as they were without it, into any table: settings, cells and numbers
  pub reads : (bytes c : List ℕ) → salt_bit bytes ≡ false → read_file (marked bytes) c ≡ read_file4 bytes c
  pub tells : (bytes : List ℕ) → salt_bit bytes ≡ false → header_answer (marked bytes) ≡ header_answer4 bytes
