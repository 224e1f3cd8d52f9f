-- No call of the table, no writer of a form of it and no length of one is refused with 0.
-- Assumes nothing.
use Rattle.std.specs.Prelude.{List, ℕ}
use Rattle.refusals.specs.Checks.{Numbered}
use Rattle.refusals.specs.Positive.{Positive}
use Rattle.index.specs.declared.Settings.{Settings}
use Rattle.calls.specs.Calls.{clear_table, lookup, release, hold, view_checks}
use Rattle.calls.specs.WrittenForms.{written, length_of}

pub record PositiveCalls (s : Settings) (c : List ℕ) : Type 0 where
  pub clear : Positive (clear_table s c).answer
  pub lookup : (tag : List ℕ) → Positive (lookup s c tag).answer
  pub release : (tag : List ℕ) → Positive (release s c tag).answer
  -- 9 included
  pub hold : (n : ℕ) (tag : List ℕ) → Positive (hold s c n tag).answer
  pub view_numbered : (b : ℕ) → Numbered (view_checks s c b)
  -- whatever bytes the form has
  pub writer : (bytes out : List ℕ) → Positive (written s c bytes out).answer
  pub form_length : (bytes : List ℕ) → Positive (length_of s c bytes)
