-- What the code uses of the packed form's definitions. `proofs/Laws.antt` proves it.
-- Assumes nothing.
use Rattle.std.specs.Prelude.{◌≡◌, ◌≢◌, true, false, List, ℕ, ◌%◌, ◌^◌, ◌≤◌, ◌<◌, length, get_or}
use Rattle.std.proofs.Math.Option.{none, some}
use Rattle.lemmas.specs.Bytes.{number_from}
use Rattle.refusals.specs.Checks.{first_met, number_of}
use Rattle.refusals.specs.Outcomes.{refused, outcome, keeping}
use Rattle.index.specs.declared.Settings.{Settings}
use Rattle.calls.specs.Calls.{table_checks, Sound}
use Rattle.rows.specs.Rows.{Ascends}
use Rattle.packed_form.specs.Writer.{sort4, high, code_of, bucket_bits, length_of_packed, packed_of}
use Rattle.packed_form.specs.Reader.{bucket_from, descends, code_checks, unpack, with_count, read_packed}

pub record PackedLaws : Type 0 where
  -- a sorted bucket ascends, and its last is below whatever all four are below
  pub sort_ascends : (a b c d : ℕ) → Ascends (get_or (sort4 a b c d) 0 0) (get_or (sort4 a b c d) 1 0) (get_or (sort4 a b c d) 2 0) (get_or (sort4 a b c d) 3 0)
  pub sort_below : (a b c d n : ℕ) → a < n → b < n → c < n → d < n → get_or (sort4 a b c d) 3 0 < n
  -- so do the high nibbles of one whose fingerprints fit, and its number has the bits that a bucket takes
  pub highs : (w : ℕ) → 4 ≤ w → (a b c d : ℕ) → Ascends a b c d → d < 2 ^ w → Ascends (high w a) (high w b) (high w c) (high w d) × (high w d < 16)
  pub code_below : (w : ℕ) → 4 ≤ w → (a b c d : ℕ) → Ascends a b c d → d < 2 ^ w → code_of w a b c d < 2 ^ bucket_bits w
  -- the checks of a bucket's number, by what they look at
  pub row_refused : (w code : ℕ) → 3876 ≤ code % 4096 → first_met (code_checks w code) ≡ some 18
  pub order_refused : (w code : ℕ) → code % 4096 < 3876 → descends (bucket_from w code) ≡ true → first_met (code_checks w code) ≡ some 19
  pub bucket_passes : (w code : ℕ) → code % 4096 < 3876 → descends (bucket_from w code) ≡ false → first_met (code_checks w code) ≡ none
  pub bucket_passed : (w code : ℕ) → first_met (code_checks w code) ≡ none → (code % 4096 < 3876) × (descends (bucket_from w code) ≡ false)
  -- the writer's bytes
  pub packed_length : (s : Settings) (c : List ℕ) → length (packed_of s c) ≡ length_of_packed s
  -- the reader's checks, in the order in which the code makes them, and the buckets where none is met
  pub read_stopped : (s : Settings) (bytes c : List ℕ) {n : ℕ} → n ≡ number_of (first_met (table_checks s c)) → n ≢ 0 → outcome (refused n) c ≡ read_packed s bytes c
  pub read_short : (s : Settings) (bytes c : List ℕ) → Sound s c → length bytes < length_of_packed s → outcome (refused 11) c ≡ read_packed s bytes c
  pub read_long : (s : Settings) (bytes c : List ℕ) → Sound s c → length_of_packed s < length bytes → outcome (refused 15) c ≡ read_packed s bytes c
  pub read_goes_on : (s : Settings) (bytes c : List ℕ) → Sound s c → length bytes ≡ length_of_packed s
      → keeping c (with_count (unpack s.width s.buckets (number_from bytes))) ≡ read_packed s bytes c
