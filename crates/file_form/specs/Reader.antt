-- The reader: the file is taken apart in byte order, and the first thing wrong with it gives the number.
-- Assumes nothing.
use Rattle.std.specs.Prelude.{Bool, true, false, ◌||◌, List, [], ◌∷◌, ◌++◌, ℕ, zero, suc, ◌+◌, ◌*◌, ◌^◌, eqb, leb}
use Rattle.refusals.specs.Checks.{Check, first_met}
use Rattle.refusals.specs.Outcomes.{Answer, refused, given, unless, Done, done, Outcome, keeping}
use Rattle.index.specs.Settings.{settings_refusal}
use Rattle.index.specs.declared.Settings.{Settings}
use Rattle.calls.specs.Calls.{table_checks}
use Rattle.file_form.specs.Bytes.{bit0, bit1, bit2, bit3}
use Rattle.file_form.specs.Parsed.{Parsed, stop, next, and_then, refuse_if, checked, answer_of}
use Rattle.file_form.specs.Fields.{take_fields}
use Rattle.file_form.specs.Header.{sizes, settings_from, defaults, map_checks, misfit}

-- one byte, and a number of two bytes, low byte first; 11 where the bytes end early
abbrev pub take_byte : List ℕ → Parsed ℕ
take_byte [] = stop 11
take_byte (b ∷ rest) = next b rest

abbrev pub take_pair : List ℕ → Parsed ℕ
take_pair [] = stop 11
take_pair (a ∷ []) = stop 11
take_pair (a ∷ b ∷ rest) = next (a + 256 * b) rest

-- ── the header ──
-- the settings of the fields, where they fit the map
unfoldable pub fitting : ℕ → List ℕ → List ℕ → Parsed Settings
fitting map values rest = refuse_if (misfit map (settings_from values)) 12 (next (settings_from values) rest)

-- the fields in their order, then the other causes of 12
unfoldable pub read_fields : ℕ → List ℕ → Parsed Settings
read_fields map bytes = and_then (take_fields sizes map defaults bytes) (fitting map)

-- the map first, with its own tests
unfoldable pub settings_after_map : ℕ → List ℕ → Parsed Settings
settings_after_map map rest = checked (first_met (map_checks map)) (read_fields map rest)

unfoldable pub read_header : List ℕ → Parsed Settings
read_header bytes = and_then (take_byte bytes) settings_after_map

-- ── the buckets ──
-- a cell: a fingerprint of the width where it is marked, else empty
abbrev pub read_cell : ℕ → Bool → List ℕ → Parsed ℕ
read_cell w true bytes = and_then (take_pair bytes) (λ v rest. refuse_if (eqb v 0 || leb (2 ^ w) v) 14 (next v rest))
read_cell w false bytes = next 0 bytes

unfoldable pub read_cells : ℕ → ℕ → List ℕ → Parsed (List ℕ)
read_cells w marks bytes =
    and_then (read_cell w (bit0 marks) bytes) (λ a r1.
    and_then (read_cell w (bit1 marks) r1) (λ b r2.
    and_then (read_cell w (bit2 marks) r2) (λ c r3.
    and_then (read_cell w (bit3 marks) r3) (λ d r4. next (a ∷ b ∷ c ∷ d ∷ []) r4))))

unfoldable pub read_bucket : ℕ → List ℕ → Parsed (List ℕ)
read_bucket w bytes = and_then (take_byte bytes) (λ marks rest. refuse_if (leb 16 marks) 13 (read_cells w marks rest))

-- so many buckets, one after the other
unfoldable pub read_buckets : ℕ → ℕ → List ℕ → Parsed (List ℕ)
read_buckets w zero bytes = next [] bytes
read_buckets w (suc m) bytes =
    and_then (read_bucket w bytes) (λ four rest. and_then (read_buckets w m rest) (λ cells end. next (four ++ cells) end))

-- ── the whole ──
abbrev pub bytes_left_over : List ℕ → Bool
bytes_left_over [] = false
bytes_left_over (b ∷ l) = true

-- what is left to read behind the buckets: nothing. The reader says the settings, and leaves the cells
unfoldable pub after_buckets : Settings → List ℕ → List ℕ → Parsed (Done Settings (List ℕ))
after_buckets s cells end = refuse_if (bytes_left_over end) 15 (next (done s cells) end)

-- what is left to read behind the header: the settings that it names pass the checks that are made of them
unfoldable pub after_header : (Settings → List Check) → Settings → List ℕ → Parsed (Done Settings (List ℕ))
after_header checks s rest = checked (first_met (checks s)) (and_then (read_buckets s.width s.buckets rest) (after_buckets s))

-- a file's settings and cells, whatever checks are made of the settings: header, those checks, buckets, and nothing after them
unfoldable pub read_all : (Settings → List Check) → List ℕ → Parsed (Done Settings (List ℕ))
read_all checks bytes = and_then (read_header bytes) (after_header checks)

-- the reader's: the settings pass, and a table is lent that they fit
abbrev pub into : List ℕ → Settings → List Check
into c s = table_checks s c

-- the cells are written only where the whole file has passed
unfoldable pub read_file : List ℕ → List ℕ → Outcome Settings (List ℕ)
read_file bytes c = keeping c (answer_of (read_all (into c) bytes))

-- ── the header alone ──
-- the settings that were read of it, where they pass their checks
abbrev pub named : Parsed Settings → Answer Settings
named (stop n) = refused n
named (next s rest) = unless (settings_refusal s) (given s)

-- the settings that it names, whatever stands behind it
unfoldable pub header_answer : List ℕ → Answer Settings
header_answer bytes = named (read_header bytes)
