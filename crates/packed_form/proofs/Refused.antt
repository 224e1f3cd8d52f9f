-- A refused writing leaves the output as it was, and a refused reading the table.
-- Assumes nothing.
use mathlib.Core.Path.{◌≡◌}
use mathlib.Core.List.{List, ◌++◌}
use Prim.Native.Nat.{ℕ}
use lib.ListN.{length, drop}
use Rattle.lemmas.specs.Bytes.{number_from}
use Rattle.refusals.specs.Checks.{first_met}
use Rattle.refusals.specs.Outcomes.{refused, given, unless, done}
use Rattle.refusals.proofs.Laws.{refusal-laws}
use Rattle.index.specs.declared.Settings.{Settings}
use Rattle.calls.specs.Calls.{table_checks}
use Rattle.calls.specs.WrittenForms.{write_checks, written}
use Rattle.packed_form.specs.Writer.{packed_of, write_packed}
use Rattle.packed_form.specs.Reader.{unpack, length_checks, with_count, read_packed}
use Rattle.packed_form.specs.Refused.{RefusedPackKeeps, RefusedUnpackKeeps}

pack-keeps : (s : Settings) (c out : List ℕ) (n : ℕ) → (write_packed s c out).answer ≡ refused n → (write_packed s c out).leaves ≡ out
unfolding write_packed written
pack-keeps s c out n e =
    let bytes = packed_of s c in
    refusal-laws.keeps n out (unless (first_met (write_checks s c (length out) (length bytes))) (given (done (length bytes) (bytes ++ drop (length bytes) out)))) e

pub refused-pack-keeps : RefusedPackKeeps
refused-pack-keeps = record { keeps = pack-keeps }

unpack-keeps : (s : Settings) (bytes c : List ℕ) (n : ℕ) → (read_packed s bytes c).answer ≡ refused n → (read_packed s bytes c).leaves ≡ c
unfolding read_packed
unpack-keeps s bytes c n e =
    refusal-laws.keeps n c (unless (first_met (table_checks s c ++ length_checks s bytes)) (with_count (unpack s.width s.buckets (number_from bytes)))) e

pub refused-unpack-keeps : RefusedUnpackKeeps
refused-unpack-keeps = record { keeps = unpack-keeps }
