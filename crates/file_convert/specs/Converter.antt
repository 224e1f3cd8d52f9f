-- The converter: the hold file of a list that was kept under a degenerate mask, made one of the plain rule.
-- Assumes nothing.
use Rattle.std.specs.Prelude.{not, List, [], ◌∷◌, ◌++◌, ℕ, ◌-◌, ◌*◌, ltb, length, drop}
use Rattle.refusals.specs.Checks.{Check, check, first_met}
use Rattle.refusals.specs.Outcomes.{Answer, refused, given, unless, Done, done, keeping}
use Rattle.index.specs.Settings.{degenerate, former_checks}
use Rattle.index.specs.declared.Settings.{Settings}
use Rattle.calls.specs.WrittenForms.{Written}
use Rattle.file_form.specs.Bytes.{one}
use Rattle.file_form.specs.Parsed.{Parsed, stop, next, answer_of}
use Rattle.file_form.specs.Fields.{bit, field_bytes, take_fields}
use Rattle.file_form.specs.Header.{sizes, defaults}
use Rattle.file_form.specs.Reader.{read_all}

-- ── what is written ──
-- a map with bits 0 and 3 cleared, those of the rule and of the mask
abbrev pub cleared : ℕ → ℕ
cleared map = map - one (bit 0 map) - 8 * one (bit 3 map)

-- the map so, the other fields, and whatever stands behind them; nothing where the bytes end before the fields do
abbrev pub without : ℕ → Parsed (List ℕ) → List ℕ
without map (stop n) = []
without map (next values rest) = (cleared map ∷ field_bytes sizes (cleared map) values) ++ rest

-- the file's bytes without its rule and its mask
unfoldable pub plain_bytes : List ℕ → List ℕ
plain_bytes [] = []
plain_bytes (map ∷ rest) = without map (take_fields sizes map defaults rest)

-- ── the call ──
-- the rows behind the reader's: a sound file of any other rule or mask, and an output too short for the bytes
unfoldable pub convert_checks : Settings → ℕ → ℕ → List Check
convert_checks s room needed = check 24 (not (degenerate s)) ∷ check 16 (ltb room needed) ∷ []

-- a file that is refused by the reader's checks is refused so, and one that is sound comes to the new bytes
abbrev pub from_file : List ℕ → List ℕ → Answer (Done Settings (List ℕ)) → Answer (Done ℕ (List ℕ))
from_file new out (refused n) = refused n
from_file new out (given d) = unless (first_met (convert_checks d.says (length out) (length new))) (given (done (length new) (new ++ drop (length new) out)))

-- the reader's checks are made as they were while a degenerate mask passed, and of no table
unfoldable pub convert_file : List ℕ → List ℕ → Written
convert_file bytes out = keeping out (from_file (plain_bytes bytes) out (answer_of (read_all former_checks bytes)))
