-- What the code uses of the definitions: how parts of a reading are joined, and the laws of the header.
-- Assumes nothing.
use mathlib.Core.Path.{◌≡◌, refl, sym, ap, ◌∙◌, subst}
use mathlib.Core.Bool.{Bool, true, false, cond, not}
use mathlib.Core.Option.{none}
use mathlib.Core.List.{List, [], ◌∷◌, ◌++◌, append_assoc}
use Prim.Native.Nat.{ℕ, zero, suc, ◌/◌, ◌≤◌, ◌<◌}
use native.Mathlib.Omega.{arith}
use borrow.Author.Tests.{leb-false}
use lib.Dec.{eqb, leb}
use lib.ListN.{length, get_or, length-append}
use Rattle.lemmas.specs.Bytes.{AllBytes, bytes_of}
use Rattle.lemmas.specs.Sums.{total}
use Rattle.lemmas.proofs.Bools.{or-false-left, or-false-right}
use Rattle.lemmas.proofs.Bytes.{bytes-length}
use Rattle.refusals.specs.Checks.{first_met, Numbered}
use Rattle.index.specs.Settings.{Representable}
use Rattle.index.specs.declared.Settings.{Settings}
use Rattle.calls.specs.WrittenForms.{any_from}
use Rattle.file_form.specs.Parsed.{Parsed, stop, next, and_then, refuse_if}
use Rattle.file_form.specs.Fields.{bit, spelled, Fit, part_size, field_bytes, field, take_fields}
use Rattle.file_form.specs.Header.{sizes, values_of, settings_from, defaults, map_of, map_checks}
use Rattle.file_form.specs.Writer.{header}
use Rattle.file_form.specs.Reader.{fitting, read_fields, read_header}
use Rattle.file_form.specs.Laws.{HeaderLaws}
use Rattle.file_form.proofs.Parses.{onward}
use Rattle.file_form.proofs.Fields.{fit_length, spelled_same, FieldsBack, fields_back}
use Rattle.file_form.proofs.Headers.{defaults-fit, fitting-map, fields-taken, header-back}

-- ── parts of a reading ──
pub field-stands : (t : Bool) (d : ℕ) (read : List ℕ → Parsed ℕ) (l : List ℕ) → t ≡ true → field t d read l ≡ read l
field-stands true d read l e = refl
field-stands false d read l e = absurd (let z : ◌≡◌ {A = ℕ} 0 1 = cc in omega arith)

pub field-absent : (t : Bool) (d : ℕ) (read : List ℕ → Parsed ℕ) (l : List ℕ) → t ≡ false → field t d read l ≡ next d l
field-absent true d read l e = absurd (let z : ◌≡◌ {A = ℕ} 0 1 = cc in omega arith)
field-absent false d read l e = refl

-- values in front of what a reading gives
abbrev pub in_front : List ℕ → Parsed (List ℕ) → Parsed (List ℕ)
in_front front p = and_then p (λ cells end. next (front ++ cells) end)

pub in-front-none : (p : Parsed (List ℕ)) → in_front [] p ≡ p
in-front-none (stop n) = refl
in-front-none (next c end) = refl

pub in-front-append : (f g : List ℕ) (p : Parsed (List ℕ)) → in_front (f ++ g) p ≡ in_front f (in_front g p)
in-front-append f g (stop n) = refl
in-front-append f g (next c end) = ap (λ (x : List ℕ). next x end) (append_assoc f g c)

-- ── the header ──
numbered : (m : ℕ) → Numbered (map_checks m)
unfolding map_checks
numbered m = (omega arith, (omega arith, tt))

few : (ns : List ℕ) (k : ℕ) → any_from 9 ns ≡ false → get_or ns k 0 ≤ 8
few [] k e = omega arith
few (n ∷ ns) zero e = omega (arith, leb-false 9 n (or-false-left (leb 9 n) (any_from 9 ns) e))
few (n ∷ ns) (suc k) e = few ns k (or-false-right (leb 9 n) (any_from 9 ns) e)

-- no map makes the fields more than all together
part-most : (t : Bool) (n : ℕ) → cond t n 0 ≤ n
part-most true n = omega arith
part-most false n = omega arith

fields-most : (ns : List ℕ) (m : ℕ) (vs : List ℕ) → length (field_bytes ns m vs) ≤ total (λ n. n) ns
fields-most [] m vs = omega arith
fields-most (n ∷ ns) m [] = omega arith
fields-most (n ∷ ns) m (v ∷ vs) =
    omega (arith, length-append (bytes_of (part_size m n) v) (field_bytes ns (m / 2) vs), bytes-length (part_size m n) v, part-most (bit 0 m) n, fields-most ns (m / 2) vs)

some : (s : Settings) → 0 < length (header s)
unfolding header
some s = omega arith

most : (s : Settings) → length (header s) ≤ 16
unfolding header
most s = omega (arith, fields-most sizes (map_of s) (values_of s))

-- ── fields that were read ──
module _ (m : ℕ) (bytes vs rest : List ℕ) (all : AllBytes bytes) where
  back : take_fields sizes m defaults bytes ≡ next vs rest → FieldsBack sizes m defaults bytes vs rest
  back e = fields_back sizes m defaults bytes vs rest defaults-fit all e

  fit : take_fields sizes m defaults bytes ≡ next vs rest → Fit sizes (spelled (length sizes) (λ i. get_or vs i 0))
  fit e = subst (Fit sizes) (sym (spelled_same (length sizes) vs (fit_length sizes vs (back e).fit))) (back e).fit

  settled : first_met (map_checks m) ≡ none → take_fields sizes m defaults bytes ≡ next vs rest
      → read_fields m bytes ≡ refuse_if (not (eqb m (map_of (settings_from vs)))) 12 (next (settings_from vs) rest)
  unfolding read_fields
  settled p e = onward (take_fields sizes m defaults bytes) (fitting m) vs rest e ∙ fitting-map m vs rest p (back e).fit (back e).default

only : (bytes rest : List ℕ) (s : Settings) → AllBytes bytes → read_header bytes ≡ next s rest → (header s ++ rest ≡ bytes) × Representable s
only bytes rest s all e = let k = header-back bytes s rest all e in (k.back.same, k.types)

pub header-laws : HeaderLaws
header-laws = record { numbered = numbered; few = λ k. few sizes k refl; some = some; most = most; only = only; taken = λ s rest L z. fields-taken s z L rest; fit = fit; settled = settled }
