-- What is told of a file without a table. What the reader and the writer answer stands in their contracts.
-- Assumes nothing.
use Rattle.std.specs.Prelude.{◌≡◌, List, [], ℕ, ◌≤◌, length, drop, Result, Ok, Err}
use Rattle.refusals.specs.Outcomes.{done}
use Rattle.refusals.specs.Refusals.{number_told}
use Rattle.refusals.specs.declared.Refusal.{Refusal}
use Rattle.index.specs.Settings.{former_checks}
use Rattle.index.specs.declared.Settings.{Settings}
use Rattle.file_form.specs.Parsed.{stop, next}
use Rattle.file_form.specs.Reader.{read_header, read_all}

-- by the settings' former checks: its settings, with the place in the bytes at which its buckets start, or the refusal that is met first
abbrev pub Examined : List ℕ → Result (Settings × ℕ) Refusal → Type 0
Examined l (Ok (s, at)) = (at ≤ length l) × (read_header l ≡ next s (drop at l)) × ((c : List ℕ) × (read_all former_checks l ≡ next (done s c) []))
Examined l (Err e) = read_all former_checks l ≡ stop (number_told e)
