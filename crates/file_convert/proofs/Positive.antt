-- The converter is not refused with 0.
-- Assumes nothing.
use mathlib.Core.List.{List}
use Prim.Native.Nat.{ℕ}
use native.Mathlib.Omega.{arith}
use lib.ListN.{length}
use Rattle.refusals.specs.Checks.{Numbered}
use Rattle.refusals.specs.Outcomes.{Answer, refused, given, Done}
use Rattle.refusals.specs.Positive.{Positive}
use Rattle.refusals.proofs.Positive.{positive-laws}
use Rattle.index.specs.Settings.{former_checks}
use Rattle.index.specs.declared.Settings.{Settings}
use Rattle.index.proofs.Positive.{positive-index}
use Rattle.file_form.specs.Parsed.{answer_of}
use Rattle.file_form.specs.Reader.{read_all}
use Rattle.file_form.proofs.Positive.{positive-files}
use Rattle.file_convert.specs.Converter.{plain_bytes, convert_checks, from_file, convert_file}
use Rattle.file_convert.specs.Positive.{PositiveConverter}

checks : (s : Settings) (room needed : ℕ) → Numbered (convert_checks s room needed)
unfolding convert_checks
checks s room needed = (omega arith, (omega arith, tt))

from-file : (new out : List ℕ) (a : Answer (Done Settings (List ℕ))) → Positive a → Positive (from_file new out a)
from-file new out (refused n) h = h
from-file new out (given d) h = positive-laws.checked (convert_checks d.says (length out) (length new)) _ (checks d.says (length out) (length new)) tt

converter : (bytes out : List ℕ) → Positive (convert_file bytes out).answer
unfolding convert_file
converter bytes out =
    let file = answer_of (read_all former_checks bytes) in
    let sound : Positive file = positive-files.reading former_checks (λ s. (positive-index s).former_numbered) bytes in
    positive-laws.whole out (from_file (plain_bytes bytes) out file) (from-file (plain_bytes bytes) out file sound)

pub positive-converter : PositiveConverter
positive-converter = record { converter = converter }
