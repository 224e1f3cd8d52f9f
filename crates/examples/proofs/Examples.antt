-- The starred examples follow from the definitions.
-- Assumes nothing.
use mathlib.Core.Path.{◌≡◌, refl, subst}
use mathlib.Core.Bool.{false}
use mathlib.Core.Option.{none}
use mathlib.Core.List.{List}
use Prim.Native.Nat.{ℕ, ◌*◌, ◌^◌}
use native.Mathlib.Omega.{arith}
use lib.ListN.{length}
use Rattle.refusals.specs.Outcomes.{given, outcome}
use Rattle.index.specs.declared.Settings.{Settings}
use Rattle.index.specs.Settings.{Representable, power_of_two, degenerate, form_checks, former_checks, settings_checks, settings_refusal, half, modulus}
use Rattle.index.specs.Hash.{fnv_step, fnv_from, fnv1a, tag_hash, lower_half, fingerprint_of, home_of, fingerprint, home, tag_checks}
use Rattle.index.specs.Candidates.{offset, across, co_mask, xor_steps, others_by, others, candidates}
use Rattle.calls.specs.Cells.{lowest_empty}
use Rattle.calls.specs.Search.{leads_to, search_from, search_for}
use Rattle.calls.specs.Calls.{table_checks, scratch_checks, fresh, hold_checks, hold_in, hold}
use Rattle.calls.specs.WrittenForms.{any_from}
use Rattle.file_form.specs.Writer.{header, body, file_of}
use Rattle.file_form.specs.Reader.{read_file}
use Rattle.file_form.proofs.RoundTrip.{written-is-read}
use Rattle.rows.specs.Rows.{rows, row_of}
use Rattle.packed_form.specs.Writer.{sort_buckets, code_of, bucket_bits, stream_of, length_of_packed, packed_of}
use Rattle.examples.specs.Examples.{Yields, small, salted, files, AllYield, examples}

-- the file by computing, and the way back by the round trip
filed : (s : Settings) (c bytes : List ℕ) → file_of s c ≡ bytes → Representable s → settings_refusal s ≡ none → length c ≡ 4 * s.buckets → any_from (2 ^ s.width) c ≡ false → Yields (files s c bytes)
filed s c bytes e z g l a = (e, λ t k. subst (λ (b : List ℕ). read_file b t ≡ outcome (given s) c) e (written-is-read.back s c t z g l k a))

small-fits : Representable small
small-fits = record { rule = omega arith; width = omega arith; buckets = omega arith; mask = omega arith; salt = omega arith }

salted-fits : Representable salted
salted-fits = record { rule = omega arith; width = omega arith; buckets = omega arith; mask = omega arith; salt = omega arith }

pub examples-hold : AllYield examples
unfolding examples half across co_mask xor_steps others_by power_of_two degenerate form_checks former_checks settings_checks modulus fnv_step fnv_from fnv1a tag_hash lower_half fingerprint_of home_of fingerprint home tag_checks offset others candidates lowest_empty leads_to search_from search_for table_checks scratch_checks fresh hold_checks hold_in hold file_of header body rows row_of sort_buckets code_of bucket_bits stream_of length_of_packed packed_of
examples-hold = (refl, (refl, (refl, (refl, (refl, (refl, (refl, (refl, (refl, (filed _ _ _ refl small-fits refl refl refl, (filed _ _ _ refl salted-fits refl refl refl, (refl, (refl, (refl, (refl, (refl, (refl, tt)))))))))))))))))
