-- Neither writer nor reader of the packed form is refused with 0.
-- Assumes nothing.
use Rattle.std.specs.Prelude.{List, ℕ}
use Rattle.refusals.specs.Positive.{Positive}
use Rattle.index.specs.declared.Settings.{Settings}
use Rattle.packed_form.specs.Writer.{write_packed}
use Rattle.packed_form.specs.Reader.{read_packed}

pub record PositivePacked : Type 0 where
  pub writer : (s : Settings) (c out : List ℕ) → Positive (write_packed s c out).answer
  pub reader : (s : Settings) (bytes c : List ℕ) → Positive (read_packed s bytes c).answer
