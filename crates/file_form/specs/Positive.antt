-- No call on a hold file is refused with 0.
-- Assumes nothing.
use Rattle.std.specs.Prelude.{List, ℕ}
use Rattle.refusals.specs.Checks.{Check, Numbered}
use Rattle.refusals.specs.Positive.{Positive}
use Rattle.index.specs.declared.Settings.{Settings}
use Rattle.file_form.specs.Parsed.{answer_of}
use Rattle.file_form.specs.Writer.{write_file, length_of_file}
use Rattle.file_form.specs.Reader.{read_all, read_file, header_answer}

pub record PositiveFiles : Type 0 where
  -- a reading, whatever checks are made of the settings, of which none has the number 0
  pub reading : (checks : Settings → List Check) → ((s : Settings) → Numbered (checks s)) → (bytes : List ℕ) → Positive (answer_of (read_all checks bytes))
  pub reader : (bytes c : List ℕ) → Positive (read_file bytes c).answer
  pub header : (bytes : List ℕ) → Positive (header_answer bytes)
  pub writer : (s : Settings) (c out : List ℕ) → Positive (write_file s c out).answer
  pub file_length : (s : Settings) (c : List ℕ) → Positive (length_of_file s c)
