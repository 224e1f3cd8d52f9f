-- What is promised of the converter: which files it takes, what it makes of them, that the list goes on as it was, and which number any
-- other file gets.
-- Assumes nothing.
use Rattle.std.specs.Prelude.{◌≡◌, ◌≢◌, true, false, List, ◌++◌, ℕ, ◌*◌, ◌^◌, ◌≤◌, ◌<◌, length, take, drop}
use Rattle.std.proofs.Math.Option.{none}
use Rattle.lemmas.specs.Bytes.{AllBytes}
use Rattle.refusals.specs.Outcomes.{refused, given, done, outcome}
use Rattle.index.specs.Settings.{Representable, degenerate, former_checks, former_refusal, unmasked}
use Rattle.index.specs.declared.Settings.{Settings}
use Rattle.calls.specs.WrittenForms.{any_from}
use Rattle.calls.specs.Repeats.{SameCalls}
use Rattle.file_form.specs.Parsed.{stop, next}
use Rattle.file_form.specs.Writer.{file_of, write_file}
use Rattle.file_form.specs.Reader.{read_all, read_file}
use Rattle.file_convert.specs.Converter.{plain_bytes, convert_file}

-- a list of which there may be a file: settings that passed with a degenerate mask, and cells that fit them
pub record FormerList (s : Settings) (c : List ℕ) : Type 0 where
  pub types : Representable s
  pub settings : former_refusal s ≡ none
  pub idle : degenerate s ≡ true
  pub size : length c ≡ 4 * s.buckets
  pub fits : any_from (2 ^ s.width) c ≡ false

pub record Converts : Type 0 where
  -- the file of every such list is converted, to what the writer makes of the same cells under the plain rule with the same width, bucket
  -- count and salt: the same answer, the same output, 16 in the same cases
  pub lists : (s : Settings) (c out : List ℕ) → FormerList s c → convert_file (file_of s c) out ≡ write_file (unmasked s) c out
  -- no other file is
  pub only : (bytes out l : List ℕ) (n : ℕ) → AllBytes bytes → convert_file bytes out ≡ outcome (given n) l → (s : Settings) × (c : List ℕ) × FormerList s c × (file_of s c ≡ bytes)
  -- the reader takes the output, into any table of the right length, and gives those settings and cells
  pub reads : (s : Settings) (c out l t : List ℕ) (n : ℕ) → FormerList s c → convert_file (file_of s c) out ≡ outcome (given n) l → length t ≡ 4 * s.buckets
      → read_file (take n l) t ≡ outcome (given (unmasked s)) c
  -- and every call, on any table, comes to what it came to under the former settings: a lookup to the same number, a hold to the same
  -- answer with the same moves and cells
  pub goes_on : (s : Settings) (c : List ℕ) → FormerList s c → SameCalls s (unmasked s)

-- which number a file gets that is not converted, in the order of the checks, with the output as it was, and what any other comes to
pub record ConvertOrder : Type 0 where
  -- what is not sound by the former checks, whatever its rule, its mask and the output are
  pub unsound : (bytes out : List ℕ) (n : ℕ) → read_all former_checks bytes ≡ stop n → convert_file bytes out ≡ outcome (refused n) out
  -- then any other rule or mask, whatever the output is
  pub other : (bytes out c end : List ℕ) (s : Settings) → read_all former_checks bytes ≡ next (done s c) end → degenerate s ≡ false → convert_file bytes out ≡ outcome (refused 24) out
  -- then an output that is too short
  pub short : (bytes out c end : List ℕ) (s : Settings) → read_all former_checks bytes ≡ next (done s c) end → degenerate s ≡ true → length out < length (plain_bytes bytes)
      → convert_file bytes out ≡ outcome (refused 16) out
  -- and where none of these is met the byte count, with later output bytes as they were
  pub written : (bytes out c end : List ℕ) (s : Settings) → read_all former_checks bytes ≡ next (done s c) end → degenerate s ≡ true → length (plain_bytes bytes) ≤ length out
      → convert_file bytes out ≡ outcome (given (length (plain_bytes bytes))) (plain_bytes bytes ++ drop (length (plain_bytes bytes)) out)
  -- so what the reader refuses has the same number here, but for a mask's 4 and a table's 5, and what it takes has 24
  pub as_reader : (bytes t out : List ℕ) (n : ℕ) → (read_file bytes t).answer ≡ refused n → n ≢ 4 → n ≢ 5 → convert_file bytes out ≡ outcome (refused n) out
  pub readable : (bytes t out : List ℕ) (s : Settings) → (read_file bytes t).answer ≡ given s → convert_file bytes out ≡ outcome (refused 24) out
  -- whoever is refused finds the output as it was
  pub keeps : (bytes out : List ℕ) (n : ℕ) → (convert_file bytes out).answer ≡ refused n → (convert_file bytes out).leaves ≡ out
