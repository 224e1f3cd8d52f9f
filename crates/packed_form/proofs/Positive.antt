-- Neither writer nor reader of the packed form is refused with 0.
-- Assumes nothing.
use mathlib.Core.Bool.{not}
use mathlib.Core.List.{List, [], ◌∷◌, ◌++◌}
use Prim.Native.Nat.{ℕ, zero, suc, ◌/◌, ◌%◌, ◌^◌}
use native.Mathlib.Omega.{arith}
use lib.Dec.{eqb}
use Rattle.lemmas.specs.Bytes.{number_from}
use Rattle.refusals.specs.Checks.{check, first_met, Numbered}
use Rattle.refusals.specs.Outcomes.{Answer, refused, given, unless}
use Rattle.refusals.specs.Positive.{Positive}
use Rattle.refusals.proofs.Cursor.{numbered-both}
use Rattle.refusals.proofs.Positive.{positive-laws}
use Rattle.index.specs.declared.Settings.{Settings}
use Rattle.calls.specs.Calls.{table_checks}
use Rattle.calls.proofs.Laws.{table-check-laws}
use Rattle.calls.proofs.Positive.{positive-calls}
use Rattle.packed_form.specs.Writer.{bucket_bits, packed_of, write_packed}
use Rattle.packed_form.specs.Reader.{bucket_from, code_checks, onward, unpack, length_checks, with_count, read_packed}
use Rattle.packed_form.specs.Positive.{PositivePacked}

onward-positive : (four : List ℕ) (a : Answer (List ℕ)) → Positive a → Positive (onward four a)
onward-positive four (refused n) h = h
onward-positive four (given l) h = tt

count-positive : (a : Answer (List ℕ)) → Positive a → Positive (with_count a)
count-positive (refused n) h = h
count-positive (given l) h = tt

code-checks : (w code : ℕ) → Numbered (code_checks w code)
unfolding code_checks
code-checks w code = (omega arith, (omega arith, tt))

unpack-positive : (w m stream : ℕ) → Positive (unpack w m stream)
unfolding unpack
unpack-positive w zero stream = positive-laws.checked (check 20 (not (eqb stream 0)) ∷ []) (given []) (omega arith, tt) tt
unpack-positive w (suc m) stream =
    let code = stream % 2 ^ bucket_bits w in
    let more = unpack w m (stream / 2 ^ bucket_bits w) in
    positive-laws.checked (code_checks w code) (onward (bucket_from w code) more) (code-checks w code)
    (onward-positive (bucket_from w code) more (unpack-positive w m (stream / 2 ^ bucket_bits w)))

reader : (s : Settings) (bytes c : List ℕ) → Positive (read_packed s bytes c).answer
unfolding read_packed length_checks
reader s bytes c =
    let numbered = numbered-both (table_checks s c) (length_checks s bytes) (table-check-laws s c).numbered (omega arith, (omega arith, tt)) in
    let cells = unpack s.width s.buckets (number_from bytes) in
    positive-laws.whole c (unless (first_met (table_checks s c ++ length_checks s bytes)) (with_count cells))
    (positive-laws.checked (table_checks s c ++ length_checks s bytes) (with_count cells) numbered (count-positive cells (unpack-positive s.width s.buckets (number_from bytes))))

writer : (s : Settings) (c out : List ℕ) → Positive (write_packed s c out).answer
unfolding write_packed
writer s c out = (positive-calls s c).writer (packed_of s c) out

pub positive-packed : PositivePacked
positive-packed = record { writer = writer; reader = reader }
