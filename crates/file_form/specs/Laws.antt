-- What the code uses of the definitions: the header, and how many bytes there are. `proofs/Laws.antt` and `proofs/Sizes.antt` prove it.
-- Assumes nothing.
use Rattle.std.specs.Prelude.{◌≡◌, true, false, cond, not, List, ◌++◌, ℕ, ◌+◌, ◌*◌, ◌^◌, ◌≤◌, ◌<◌, eqb, length, get_or}
use Rattle.std.proofs.Math.Option.{none, some}
use Rattle.lemmas.specs.Bytes.{AllBytes}
use Rattle.refusals.specs.Checks.{first_met, Numbered}
use Rattle.refusals.specs.Outcomes.{refused, given}
use Rattle.index.specs.Settings.{Representable}
use Rattle.index.specs.Laws.{Laws}
use Rattle.index.specs.declared.Settings.{Settings}
use Rattle.calls.specs.Cells.{filled_count}
use Rattle.calls.specs.Calls.{table_checks, Sound}
use Rattle.calls.specs.WrittenForms.{any_from}
use Rattle.file_form.specs.Parsed.{next, refuse_if}
use Rattle.file_form.specs.Fields.{spelled, Fit, field_bytes, take_fields}
use Rattle.file_form.specs.Header.{sizes, values_of, settings_from, defaults, map_of, map_checks}
use Rattle.file_form.specs.Writer.{header, filled, cell_bytes, bucket_bytes, body, file_of, length_of_file}
use Rattle.file_form.specs.Reader.{read_fields, read_header}

pub record HeaderLaws : Type 0 where
  -- no test of the map has the number 0
  pub numbered : (map : ℕ) → Numbered (map_checks map)
  -- a field has at most 8 bytes, and the header from 1 to 16
  pub few : (k : ℕ) → get_or sizes k 0 ≤ 8
  pub some : (s : Settings) → 0 < length (header s)
  pub most : (s : Settings) → length (header s) ≤ 16
  -- a header that was read is the writer's, of settings that fit their types
  pub only : (bytes rest : List ℕ) (s : Settings) → AllBytes bytes → read_header bytes ≡ next s rest → (header s ++ rest ≡ bytes) × Representable s
  -- fields that were written are read
  pub taken : (s : Settings) (rest : List ℕ) → Laws s → Representable s → take_fields sizes (map_of s) defaults (field_bytes sizes (map_of s) (values_of s) ++ rest) ≡ next (values_of s) rest
  -- fields that were read fit their bytes
  pub fit : (map : ℕ) (bytes values rest : List ℕ) → AllBytes bytes → take_fields sizes map defaults bytes ≡ next values rest → Fit sizes (spelled (length sizes) (λ i. get_or values i 0))
  -- the other causes of 12 are one: the map is not the one that the writer makes of the settings that were read
  pub settled : (map : ℕ) (bytes values rest : List ℕ) → AllBytes bytes → first_met (map_checks map) ≡ none → take_fields sizes map defaults bytes ≡ next values rest
      → read_fields map bytes ≡ refuse_if (not (eqb map (map_of (settings_from values)))) 12 (next (settings_from values) rest)

-- how many bytes cells, a bucket and the buckets have
pub record SizeLaws : Type 0 where
  pub cell : (v : ℕ) → length (cell_bytes v) ≡ cond (filled v) 2 0
  pub bucket : (a b c d : ℕ) → length (bucket_bytes a b c d) ≡ 1 + length (cell_bytes a) + length (cell_bytes b) + length (cell_bytes c) + length (cell_bytes d)
  -- a byte for each bucket, and two for each filled cell
  pub body : (m : ℕ) (c : List ℕ) → length c ≡ 4 * m → length (body c) ≡ m + 2 * filled_count c

-- the length of the whole file: its checks in the order in which the code makes them, and what it tells
pub record FileLengthLaws (s : Settings) (c : List ℕ) : Type 0 where
  pub parts : length (file_of s c) ≡ length (header s) + length (body c)
  pub stopped : {n : ℕ} → some n ≡ first_met (table_checks s c) → refused n ≡ length_of_file s c
  pub wide : Sound s c → any_from (2 ^ s.width) c ≡ true → refused 17 ≡ length_of_file s c
  pub gives : Sound s c → any_from (2 ^ s.width) c ≡ false → given (length (file_of s c)) ≡ length_of_file s c
  pub tells : (n : ℕ) → length_of_file s c ≡ given n → Sound s c × (n ≡ length (file_of s c))
  -- it is far below 2^63
  pub most : (n : ℕ) → length_of_file s c ≡ given n → n ≤ 16 + 9 * 65536
