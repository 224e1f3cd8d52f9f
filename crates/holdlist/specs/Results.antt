-- What a caller in C can tell of a result by its sign: of each call, whatever it is handed, an answer is 0 or more and a refusal below 0. So
-- no answer and no refusal share a result.
-- Assumes nothing.
use Rattle.std.specs.Prelude.{◌≡◌, ◌≢◌, List, ℕ, pos, ◌≤ℤ◌, ◌<ℤ◌, length}
use Rattle.refusals.specs.Outcomes.{Answer, refused, given}
use Rattle.index.specs.Answers.{entry_of, offset_answer, candidates_answer}
use Rattle.index.specs.declared.Settings.{Settings}
use Rattle.calls.specs.Calls.{clear_table, lookup, release, hold}
use Rattle.forecast.specs.Forecasts.{forecast}
use Rattle.file_form.specs.Writer.{write_file, length_of_file}
use Rattle.file_form.specs.Reader.{read_file, header_answer}
use Rattle.file_convert.specs.Converter.{convert_file}
use Rattle.packed_form.specs.Writer.{write_packed}
use Rattle.packed_form.specs.Reader.{read_packed}
use Rattle.holdlist.specs.Numbers.{signed, itself, said_number}
use Rattle.holdlist.specs.Calls.{settings_answer, view_answer, print_of, home_of, no_number}

pub record BySign {A : Type 0} (f : A → ℕ) (a : Answer A) : Type 0 where
  pub answered : (x : A) → a ≡ given x → pos 0 ≤ℤ signed f a
  pub below : (n : ℕ) → a ≡ refused n → signed f a <ℤ pos 0

-- a line for each exported function, under its name
pub record Results : Type 0 where
  pub settings_check : (s : Settings) → BySign itself (settings_answer s)
  pub fingerprint : (s : Settings) (tag : List ℕ) → BySign print_of (entry_of s tag)
  pub home : (s : Settings) (tag : List ℕ) → BySign home_of (entry_of s tag)
  pub offset : (s : Settings) (p : ℕ) → BySign itself (offset_answer s p)
  pub candidates : (s : Settings) (p b : ℕ) → BySign length (candidates_answer s p b)
  pub clear : (s : Settings) (c : List ℕ) → BySign said_number (clear_table s c).answer
  pub lookup : (s : Settings) (c tag : List ℕ) → BySign said_number (lookup s c tag).answer
  pub release : (s : Settings) (c tag : List ℕ) → BySign said_number (release s c tag).answer
  pub hold : (s : Settings) (c : List ℕ) (n : ℕ) (tag : List ℕ) → BySign said_number (hold s c n tag).answer
  pub forecast : (s : Settings) (c : List ℕ) (n : ℕ) (tag : List ℕ) → BySign said_number (forecast s c n tag).answer
  pub view_check : (s : Settings) (c : List ℕ) (b : ℕ) → BySign itself (view_answer s c b)
  pub file_length : (s : Settings) (c : List ℕ) → BySign itself (length_of_file s c)
  pub file_write : (s : Settings) (c out : List ℕ) → BySign itself (write_file s c out).answer
  pub file_read : (bytes c : List ℕ) → BySign no_number (read_file bytes c).answer
  pub file_settings : (bytes : List ℕ) → BySign no_number (header_answer bytes)
  pub file_convert : (bytes out : List ℕ) → BySign itself (convert_file bytes out).answer
  pub packed_write : (s : Settings) (c out : List ℕ) → BySign itself (write_packed s c out).answer
  pub packed_read : (s : Settings) (bytes c : List ℕ) → BySign itself (read_packed s bytes c).answer

-- and so of any two calls that keep it
pub record ResultsApart : Type 1 where
  pub apart : {A B : Type 0} (f : A → ℕ) (g : B → ℕ) (a : Answer A) (b : Answer B) → BySign f a → BySign g b → (x : A) (n : ℕ) → a ≡ given x → b ≡ refused n
      → signed f a ≢ signed g b
