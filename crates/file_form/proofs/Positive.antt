-- No call on a hold file is refused with 0: each part of a reading stops with a number above 0, and so do parts in a row.
-- Assumes nothing.
use mathlib.Core.Bool.{Bool, true, false, cond, ◌||◌}
use mathlib.Core.Option.{some}
use mathlib.Core.List.{List, [], ◌∷◌}
use Prim.Native.Nat.{ℕ, zero, suc, ◌^◌, ◌<◌}
use native.Mathlib.Omega.{arith}
use lib.Dec.{eqb, leb}
use lib.ListN.{length, take, drop}
use Rattle.lemmas.specs.Bytes.{number_from}
use Rattle.refusals.specs.Checks.{Check, first_met, Numbered}
use Rattle.refusals.specs.Outcomes.{given}
use Rattle.refusals.specs.Positive.{Positive}
use Rattle.refusals.proofs.Positive.{positive-laws}
use Rattle.index.specs.Settings.{settings_checks}
use Rattle.index.specs.declared.Settings.{Settings}
use Rattle.index.proofs.Positive.{positive-index}
use Rattle.calls.proofs.Laws.{table-check-laws}
use Rattle.calls.proofs.Positive.{positive-calls}
use Rattle.file_form.specs.Bytes.{bit0, bit1, bit2, bit3}
use Rattle.file_form.specs.Parsed.{Parsed, stop, next, and_then, refuse_if, checked, answer_of}
use Rattle.file_form.specs.Fields.{bit, take_number, field, take_fields}
use Rattle.file_form.specs.Header.{sizes, settings_from, defaults, map_checks, misfit}
use Rattle.file_form.specs.Writer.{file_of, write_file, length_of_file}
use Rattle.file_form.specs.Reader.{take_byte, take_pair, fitting, read_fields, settings_after_map, read_header, read_cell, read_cells, read_bucket, read_buckets}
use Rattle.file_form.specs.Reader.{bytes_left_over, after_buckets, after_header, read_all, into, read_file, named, header_answer}
use Rattle.file_form.specs.Positive.{PositiveFiles}
use Rattle.file_form.proofs.Laws.{header-laws}

-- where the reading of a part stops, it does so with a number above 0
abbrev Stops : {A : Type 0} → Parsed A → Type 0
Stops p = Positive (answer_of p)

-- ── what readings are made of ──
then-stops : {A B : Type 0} (p : Parsed A) (f : A → List ℕ → Parsed B) → Stops p → ((a : A) (rest : List ℕ) → Stops (f a rest)) → Stops (and_then p f)
then-stops (stop n) f h g = h
then-stops (next a rest) f h g = g a rest

if-stops : {A : Type 0} (b : Bool) (n : ℕ) (p : Parsed A) → 0 < n → Stops p → Stops (refuse_if b n p)
if-stops true n p h g = h
if-stops false n p h g = g

checked-stops : {A : Type 0} (l : List Check) (p : Parsed A) → Numbered l → Stops p → Stops (checked (first_met l) p)
checked-stops [] p N g = g
checked-stops (c ∷ l) p N g = go c.met (checked-stops l p N.1 g)
  where
    go : (b : Bool) → Stops (checked (first_met l) p) → Stops (checked (cond b (some c.number) (first_met l)) p)
    go true r = N.0
    go false r = r

-- ── the header ──
byte-stops : (bytes : List ℕ) → Stops (take_byte bytes)
byte-stops [] = omega arith
byte-stops (b ∷ rest) = tt

number-stops : (n : ℕ) (bytes : List ℕ) → Stops (take_number n bytes)
number-stops n bytes = go (leb n (length bytes))
  where
    go : (b : Bool) → Stops (cond b (next (number_from (take n bytes)) (drop n bytes)) (stop 11))
    go true = tt
    go false = omega arith

field-stops : (b : Bool) (d n : ℕ) (bytes : List ℕ) → Stops (field b d (take_number n) bytes)
field-stops true d n bytes = number-stops n bytes
field-stops false d n bytes = tt

fields-stop : (sizes : List ℕ) (map : ℕ) (defaults bytes : List ℕ) → Stops (take_fields sizes map defaults bytes)
fields-stop [] map defaults bytes = tt
fields-stop (n ∷ sizes) map [] bytes = tt
fields-stop (n ∷ sizes) map (d ∷ defaults) bytes =
    then-stops (field (bit 0 map) d (take_number n) bytes) _ (field-stops (bit 0 map) d n bytes) (λ v rest.
    then-stops (take_fields sizes _ defaults rest) _ (fields-stop sizes _ defaults rest) (λ values end. tt))

header-stops : (bytes : List ℕ) → Stops (read_header bytes)
unfolding read_header settings_after_map read_fields fitting
header-stops bytes =
    then-stops (take_byte bytes) settings_after_map (byte-stops bytes) (λ map rest.
    checked-stops (map_checks map) (read_fields map rest) (header-laws.numbered map)
    (then-stops (take_fields sizes map defaults rest) (fitting map) (fields-stop sizes map defaults rest) (λ values end.
    if-stops (misfit map (settings_from values)) 12 (next (settings_from values) end) (omega arith) tt)))

-- ── the buckets ──
pair-stops : (bytes : List ℕ) → Stops (take_pair bytes)
pair-stops [] = omega arith
pair-stops (a ∷ []) = omega arith
pair-stops (a ∷ b ∷ rest) = tt

cell-stops : (w : ℕ) (b : Bool) (bytes : List ℕ) → Stops (read_cell w b bytes)
cell-stops w true bytes = then-stops (take_pair bytes) _ (pair-stops bytes) (λ v rest. if-stops (eqb v 0 || leb (2 ^ w) v) 14 (next v rest) (omega arith) tt)
cell-stops w false bytes = tt

cells-stop : (w marks : ℕ) (bytes : List ℕ) → Stops (read_cells w marks bytes)
unfolding read_cells
cells-stop w marks bytes =
    then-stops (read_cell w (bit0 marks) bytes) _ (cell-stops w (bit0 marks) bytes) (λ a r1.
    then-stops (read_cell w (bit1 marks) r1) _ (cell-stops w (bit1 marks) r1) (λ b r2.
    then-stops (read_cell w (bit2 marks) r2) _ (cell-stops w (bit2 marks) r2) (λ c r3.
    then-stops (read_cell w (bit3 marks) r3) _ (cell-stops w (bit3 marks) r3) (λ d r4. tt))))

bucket-stops : (w : ℕ) (bytes : List ℕ) → Stops (read_bucket w bytes)
unfolding read_bucket
bucket-stops w bytes = then-stops (take_byte bytes) _ (byte-stops bytes) (λ marks rest. if-stops (leb 16 marks) 13 (read_cells w marks rest) (omega arith) (cells-stop w marks rest))

buckets-stop : (w m : ℕ) (bytes : List ℕ) → Stops (read_buckets w m bytes)
unfolding read_buckets
buckets-stop w zero bytes = tt
buckets-stop w (suc m) bytes =
    then-stops (read_bucket w bytes) _ (bucket-stops w bytes) (λ four rest. then-stops (read_buckets w m rest) _ (buckets-stop w m rest) (λ cells end. tt))

-- ── the calls ──
module _ (checks : Settings → List Check) (N : (s : Settings) → Numbered (checks s)) where
  after-stops : (s : Settings) (rest : List ℕ) → Stops (after_header checks s rest)
  unfolding after_header after_buckets
  after-stops s rest =
      checked-stops (checks s) _ (N s)
      (then-stops (read_buckets s.width s.buckets rest) (after_buckets s) (buckets-stop s.width s.buckets rest) (λ cells end. if-stops (bytes_left_over end) 15 _ (omega arith) tt))

  reading : (bytes : List ℕ) → Stops (read_all checks bytes)
  unfolding read_all
  reading bytes = then-stops (read_header bytes) (after_header checks) (header-stops bytes) after-stops

reader : (bytes c : List ℕ) → Positive (read_file bytes c).answer
unfolding read_file
reader bytes c = positive-laws.whole c (answer_of (read_all (into c) bytes)) (reading (into c) (λ s. (table-check-laws s c).numbered) bytes)

header : (bytes : List ℕ) → Positive (header_answer bytes)
unfolding header_answer
header bytes = go (read_header bytes) (header-stops bytes)
  where
    go : (p : Parsed Settings) → Stops p → Positive (named p)
    go (stop n) h = h
    go (next s rest) h = positive-laws.checked (settings_checks s) (given s) (positive-index s).settings_numbered tt

writer : (s : Settings) (c out : List ℕ) → Positive (write_file s c out).answer
unfolding write_file
writer s c out = (positive-calls s c).writer (file_of s c) out

file_length : (s : Settings) (c : List ℕ) → Positive (length_of_file s c)
unfolding length_of_file
file_length s c = (positive-calls s c).form_length (file_of s c)

pub positive-files : PositiveFiles
positive-files = record { reading = reading; reader = reader; header = header; writer = writer; file_length = file_length }
