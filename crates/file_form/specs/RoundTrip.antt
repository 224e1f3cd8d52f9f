-- Round trip, both ways, and what the header alone tells.
-- Assumes nothing.
use Rattle.std.specs.Prelude.{◌≡◌, false, List, [], ◌++◌, ℕ, ◌*◌, ◌^◌, ◌≤◌, length, take, drop}
use Rattle.std.proofs.Math.Option.{none}
use Rattle.refusals.specs.Checks.{Check, first_met}
use Rattle.refusals.specs.Outcomes.{refused, given, done, outcome}
use Rattle.index.specs.Settings.{Representable, settings_refusal}
use Rattle.index.specs.Laws.{Laws}
use Rattle.index.specs.declared.Settings.{Settings}
use Rattle.lemmas.specs.Bytes.{AllBytes}
use Rattle.calls.specs.WrittenForms.{any_from}
use Rattle.file_form.specs.Writer.{file_of, write_file}
use Rattle.file_form.specs.Parsed.{next}
use Rattle.file_form.specs.Reader.{read_all, read_file, header_answer}

-- ── whatever checks are made of the settings ──
-- what a file is that is sound by them: the writer's, of settings that fit their types and cells that fit the settings
pub record SoundFile (bytes c : List ℕ) (s : Settings) : Type 0 where
  pub types : Representable s
  pub size : length c ≡ 4 * s.buckets
  pub fits : any_from (2 ^ s.width) c ≡ false
  pub same : file_of s c ≡ bytes

pub record AnyReader (checks : Settings → List Check) : Type 0 where
  -- every such file of settings that pass, and that keep the laws, is read
  pub back : (s : Settings) (bytes c : List ℕ) → Laws s → first_met (checks s) ≡ none → SoundFile bytes c s → read_all checks bytes ≡ next (done s c) []
  -- and no other
  pub only : (bytes c end : List ℕ) (s : Settings) → AllBytes bytes → read_all checks bytes ≡ next (done s c) end → (first_met (checks s) ≡ none) × SoundFile bytes c s

-- ── the reader ──
-- what the writer makes of good settings and a table whose cells fit the width, whatever made that table, the reader accepts into any
-- table of the right length, and gives the same settings and cells back. Each setting fits its type, as any does that the code is handed:
-- of a salt of more than 64 bits eight bytes would not tell all
pub record WrittenIsRead : Type 0 where
  pub back : (s : Settings) (c t : List ℕ) → Representable s → settings_refusal s ≡ none → length c ≡ 4 * s.buckets → length t ≡ 4 * s.buckets → any_from (2 ^ s.width) c ≡ false
      → read_file (file_of s c) t ≡ outcome (given s) c
  -- and so over the writer itself: if it answers n, the reader given the first n bytes of its output gives settings and cells back
  pub again : (s : Settings) (c out l t : List ℕ) (n : ℕ) → Representable s → write_file s c out ≡ outcome (given n) l → length t ≡ 4 * s.buckets
      → read_file (take n l) t ≡ outcome (given s) c

-- whatever bytes the reader accepts are those that the writer makes of the settings and cells that it gave
pub record ReadIsWritten : Type 0 where
  -- settings that were read fit their types, so that what the writer makes of them is read back
  pub representable : (bytes t c : List ℕ) (s : Settings) → AllBytes bytes → read_file bytes t ≡ outcome (given s) c → Representable s
  pub only : (bytes t c : List ℕ) (s : Settings) → AllBytes bytes → read_file bytes t ≡ outcome (given s) c → file_of s c ≡ bytes
  -- and the writer does make them: nothing refuses it where the output has room
  pub makes : (bytes t c out : List ℕ) (s : Settings) → AllBytes bytes → read_file bytes t ≡ outcome (given s) c → length bytes ≤ length out
      → write_file s c out ≡ outcome (given (length bytes)) (bytes ++ drop (length bytes) out)

-- a reading that is refused, wherever that is, leaves the table as it was
pub record RefusedReadKeeps : Type 0 where
  pub keeps : (bytes c : List ℕ) (n : ℕ) → (read_file bytes c).answer ≡ refused n → (read_file bytes c).leaves ≡ c

-- what the header alone tells of a reading
pub record HeaderTells : Type 0 where
  -- whatever bytes the reader accepts have the settings that their header names, and went into a table with four cells for each of so many buckets
  pub tells : (bytes c : List ℕ) (s : Settings) → (read_file bytes c).answer ≡ given s → (header_answer bytes ≡ given s) × (length c ≡ 4 * s.buckets)
  -- the settings that it names have passed their checks
  pub passes : (bytes : List ℕ) (s : Settings) → header_answer bytes ≡ given s → settings_refusal s ≡ none
  -- a header that is refused refuses the reading, with the same number, whatever table is lent
  pub refuses : (bytes c : List ℕ) (n : ℕ) → header_answer bytes ≡ refused n → (read_file bytes c).answer ≡ refused n
