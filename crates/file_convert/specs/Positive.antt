-- The converter is not refused with 0.
-- Assumes nothing.
use Rattle.std.specs.Prelude.{List, ℕ}
use Rattle.refusals.specs.Positive.{Positive}
use Rattle.file_convert.specs.Converter.{convert_file}

pub record PositiveConverter : Type 0 where
  pub converter : (bytes out : List ℕ) → Positive (convert_file bytes out).answer
