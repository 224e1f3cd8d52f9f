-- Which number a file is answered with where several things are wrong: that of the first in byte order, whatever stands behind it. For
-- every file and every table.
-- Assumes nothing.
use Rattle.std.specs.Prelude.{◌≡◌, ◌≢◌, true, false, ◌||◌, List, [], ◌∷◌, ℕ, ◌+◌, ◌*◌, ◌/◌, ◌^◌, ◌≤◌, ◌<◌, eqb, leb, length}
use Rattle.std.proofs.Math.Option.{none, some}
use Rattle.refusals.specs.Checks.{Check, first_met}
use Rattle.refusals.specs.Outcomes.{refused}
use Rattle.index.specs.Settings.{settings_refusal}
use Rattle.index.specs.declared.Settings.{Settings}
use Rattle.calls.specs.Calls.{Sound}
use Rattle.file_form.specs.Bytes.{bit0, bit1, bit2, bit3}
use Rattle.file_form.specs.Parsed.{stop, next}
use Rattle.file_form.specs.Fields.{bit, any_of, part_size, take_fields}
use Rattle.file_form.specs.Header.{sizes, settings_from, defaults, misfits}
use Rattle.file_form.specs.Reader.{read_header, read_cell, read_bucket, read_buckets, read_all, read_file}

-- how many bytes the fields take that are there
abbrev pub fields_length : List ℕ → ℕ → ℕ
fields_length [] map = 0
fields_length (n ∷ sizes) map = part_size map n + fields_length sizes (map / 2)

-- whatever checks are made of the settings, they come between header and buckets
pub record ReadOrder (checks : Settings → List Check) : Type 0 where
  pub header : (bytes : List ℕ) (n : ℕ) → read_header bytes ≡ stop n → read_all checks bytes ≡ stop n
  pub settings : (bytes rest : List ℕ) (s : Settings) (n : ℕ) → read_header bytes ≡ next s rest → first_met (checks s) ≡ some n → read_all checks bytes ≡ stop n
  pub buckets : (bytes rest cells at : List ℕ) (s : Settings) (k n : ℕ) → read_header bytes ≡ next s rest → first_met (checks s) ≡ none → k < s.buckets
      → read_buckets s.width k rest ≡ next cells at → read_bucket s.width at ≡ stop n → read_all checks bytes ≡ stop n
  pub left_over : (bytes rest cells more : List ℕ) (s : Settings) (b : ℕ) → read_header bytes ≡ next s rest → first_met (checks s) ≡ none
      → read_buckets s.width s.buckets rest ≡ next cells (b ∷ more) → read_all checks bytes ≡ stop 15

-- the reader, into any table
pub record AnswerOrder : Type 0 where
  -- no byte at all
  pub no_byte : (c : List ℕ) → (read_file [] c).answer ≡ refused 11
  -- an upper bit of the map, whatever follows
  pub map_bits : (map : ℕ) (rest c : List ℕ) → 64 ≤ map → (read_file (map ∷ rest) c).answer ≡ refused 12
  -- no bit 5, whatever follows
  pub uneven : (map : ℕ) (rest c : List ℕ) → map < 64 → bit 5 map ≡ false → (read_file (map ∷ rest) c).answer ≡ refused 23
  -- bytes that end before the fields do, whatever these say
  pub fields : (map : ℕ) (rest c : List ℕ) → map < 64 → bit 5 map ≡ true → length rest < fields_length sizes map → (read_file (map ∷ rest) c).answer ≡ refused 11
  -- the other causes of 12, whatever the settings are, and whatever follows
  pub misfits : (map : ℕ) (rest c values more : List ℕ) → map < 64 → bit 5 map ≡ true → take_fields sizes map defaults rest ≡ next values more
      → any_of (misfits map (settings_from values)) ≡ true → (read_file (map ∷ rest) c).answer ≡ refused 12
  -- the settings of a sound header, whatever the table and the buckets are
  pub settings : (bytes c rest : List ℕ) (s : Settings) (n : ℕ) → read_header bytes ≡ next s rest → settings_refusal s ≡ some n → (read_file bytes c).answer ≡ refused n
  -- good settings and a table of another length, whatever the buckets are
  pub table : (bytes c rest : List ℕ) (s : Settings) → read_header bytes ≡ next s rest → settings_refusal s ≡ none → length c ≢ 4 * s.buckets → (read_file bytes c).answer ≡ refused 5
  -- the buckets in their order: the first that is not sound, whatever follows
  pub buckets : (bytes c rest cells at : List ℕ) (s : Settings) (k n : ℕ) → read_header bytes ≡ next s rest → Sound s c → k < s.buckets
      → read_buckets s.width k rest ≡ next cells at → read_bucket s.width at ≡ stop n → (read_file bytes c).answer ≡ refused n
  -- in a bucket its byte, whatever fingerprints follow
  pub no_marks : (w : ℕ) → read_bucket w [] ≡ stop 11
  pub marks : (w b : ℕ) (more : List ℕ) → 16 ≤ b → read_bucket w (b ∷ more) ≡ stop 13
  -- and then its cells in their order: the first that is not sound, whatever follows
  pub first : (w b n : ℕ) (l : List ℕ) → b < 16 → read_cell w (bit0 b) l ≡ stop n → read_bucket w (b ∷ l) ≡ stop n
  pub second : (w b n v : ℕ) (l r : List ℕ) → b < 16 → read_cell w (bit0 b) l ≡ next v r → read_cell w (bit1 b) r ≡ stop n → read_bucket w (b ∷ l) ≡ stop n
  pub third : (w b n v v' : ℕ) (l r r' : List ℕ) → b < 16 → read_cell w (bit0 b) l ≡ next v r → read_cell w (bit1 b) r ≡ next v' r'
      → read_cell w (bit2 b) r' ≡ stop n → read_bucket w (b ∷ l) ≡ stop n
  pub fourth : (w b n v v' v'' : ℕ) (l r r' r'' : List ℕ) → b < 16 → read_cell w (bit0 b) l ≡ next v r → read_cell w (bit1 b) r ≡ next v' r'
      → read_cell w (bit2 b) r' ≡ next v'' r'' → read_cell w (bit3 b) r'' ≡ stop n → read_bucket w (b ∷ l) ≡ stop n
  -- a cell that is marked: a fingerprint that is 0 or does not fit the width, and one of which not every byte is there
  pub print : (w low high : ℕ) (more : List ℕ) → (eqb (low + 256 * high) 0 || leb (2 ^ w) (low + 256 * high)) ≡ true → read_cell w true (low ∷ high ∷ more) ≡ stop 14
  pub cut_print : (w : ℕ) (l : List ℕ) → length l < 2 → read_cell w true l ≡ stop 11
  -- bytes that are left over, last of all
  pub left_over : (bytes c rest cells more : List ℕ) (s : Settings) (b : ℕ) → read_header bytes ≡ next s rest → Sound s c
      → read_buckets s.width s.buckets rest ≡ next cells (b ∷ more) → (read_file bytes c).answer ≡ refused 15
