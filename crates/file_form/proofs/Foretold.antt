-- The length that is told beforehand, by the laws of writers.
-- Assumes nothing.
use mathlib.Core.List.{◌++◌}
use Rattle.calls.proofs.Laws.{length-laws}
use Rattle.file_form.specs.Writer.{header, body, file_of, write_file, length_of_file}
use Rattle.file_form.specs.Foretold.{LengthForetold}

pub length-foretold : LengthForetold
unfolding write_file length_of_file file_of
length-foretold = record {
  fits = λ s c out n. (length-laws s c (header s ++ body c)).next_fits n out;
  short = λ s c out n. (length-laws s c (header s ++ body c)).next_short n out;
  refuses = λ s c out n. (length-laws s c (header s ++ body c)).next_refused n out;
}
