-- Which number a file gets that is not converted, and what today's reader tells of it.
-- Assumes nothing.
use mathlib.Core.Path.{◌≡◌, refl, sym, ap, ◌∙◌}
use mathlib.Core.Logic.{◌≢◌}
use mathlib.Core.Bool.{Bool, true, false}
use mathlib.Core.Option.{Option, none, some}
use mathlib.Core.List.{List}
use Prim.Native.Nat.{ℕ, ◌*◌}
use native.Mathlib.Decide.{ℕ_discrete}
use native.Mathlib.Omega.{arith}
use lib.ListN.{length}
use Rattle.refusals.specs.Checks.{Check, first_met}
use Rattle.refusals.specs.Outcomes.{refused, given, Done, outcome, keeping}
use Rattle.refusals.proofs.Laws.{refusal-laws}
use Rattle.index.specs.Settings.{degenerate, former_checks, former_refusal, settings_refusal}
use Rattle.index.specs.declared.Settings.{Settings}
use Rattle.index.proofs.DegenerateMasks.{degenerate-laws}
use Rattle.calls.specs.Calls.{table_checks}
use Rattle.calls.proofs.Laws.{table-check-laws}
use Rattle.file_form.specs.Parsed.{Parsed, stop, next, and_then, checked, answer_of}
use Rattle.file_form.specs.Reader.{read_header, read_buckets, after_buckets, after_header, read_all, into, read_file}
use Rattle.file_form.proofs.RoundTrip.{header-tells}
use Rattle.file_convert.specs.Converter.{plain_bytes, from_file, convert_file}
use Rattle.file_convert.specs.Conversion.{ConvertOrder}
use Rattle.file_convert.proofs.Conversion.{unsound, other, short, writes}

-- ── a table's checks, and the former ones ──
module _ (s : Settings) (t : List ℕ) where
  former-passes : first_met (table_checks s t) ≡ none → former_refusal s ≡ none
  former-passes e = ((degenerate-laws s).passes.0 ((table-check-laws s t).sound e).settings).0

  -- a number that is neither a mask's nor a table's was given before
  former-number : (n : ℕ) → first_met (table_checks s t) ≡ some n → n ≢ 4 → n ≢ 5 → former_refusal s ≡ some n
  former-number n e four five = go (former_refusal s) refl (degenerate s) refl
    where
      is : {k : ℕ} → first_met (table_checks s t) ≡ some k → k ≡ n
      is f = let g = sym f ∙ e in cc

      go : (o : Option ℕ) → former_refusal s ≡ o → (b : Bool) → degenerate s ≡ b → o ≡ some n
      go (some i) f b d = ap some (is ((table-check-laws s t).by_settings i ((degenerate-laws s).before i f)))
      go none f true d = absurd (four (sym (is ((table-check-laws s t).by_settings 4 ((degenerate-laws s).four f d)))))
      go none f false d =
          let passes : settings_refusal s ≡ none = (degenerate-laws s).passes.1 (f, d) in
          elim (ℕ_discrete (length t) (4 * s.buckets)) [
            | yes l ↦ absurd (let g = sym ((table-check-laws s t).passes (record { settings = passes; size = l })) ∙ e in let z : ◌≡◌ {A = ℕ} 0 1 = cc in omega arith)
            | no l ↦ absurd (five (sym (is ((table-check-laws s t).by_size passes l))))
          ]

-- ── a reading into a table, and one by the former checks ──
module _ (bytes t : List ℕ) where
  abbrev behind : (Settings → List Check) → Parsed Settings → Parsed (Done Settings (List ℕ))
  behind checks p = and_then p (after_header checks)

  stop-same : (n : ℕ) → read_all (into t) bytes ≡ stop n → n ≢ 4 → n ≢ 5 → read_all former_checks bytes ≡ stop n
  unfolding read_all after_header
  stop-same n e four five = go (read_header bytes) e
    where
      go : (p : Parsed Settings) → behind (into t) p ≡ stop n → behind former_checks p ≡ stop n
      go (stop m) f = f
      go (next s rest) f = by (and_then (read_buckets s.width s.buckets rest) (after_buckets s)) (first_met (table_checks s t)) refl f
        where
          by : (body : Parsed (Done Settings (List ℕ))) (o : Option ℕ) → first_met (table_checks s t) ≡ o → checked o body ≡ stop n → checked (former_refusal s) body ≡ stop n
          by body none q f = ap (λ (o : Option ℕ). checked o body) (former-passes s t q) ∙ f
          by body (some m) q f =
              let same : m ≡ n = cc in
              ap (λ (o : Option ℕ). checked o body) (former-number s t n (q ∙ ap some same) four five)

  next-same : (d : Done Settings (List ℕ)) (end : List ℕ) → read_all (into t) bytes ≡ next d end → read_all former_checks bytes ≡ next d end
  unfolding read_all after_header
  next-same d end e = go (read_header bytes) e
    where
      go : (p : Parsed Settings) → behind (into t) p ≡ next d end → behind former_checks p ≡ next d end
      go (stop m) f = absurd (let z : ◌≡◌ {A = ℕ} 0 1 = cc in omega arith)
      go (next s rest) f = by (and_then (read_buckets s.width s.buckets rest) (after_buckets s)) (first_met (table_checks s t)) refl f
        where
          by : (body : Parsed (Done Settings (List ℕ))) (o : Option ℕ) → first_met (table_checks s t) ≡ o → checked o body ≡ next d end → checked (former_refusal s) body ≡ next d end
          by body none q f = ap (λ (o : Option ℕ). checked o body) (former-passes s t q) ∙ f
          by body (some m) q f = absurd (let z : ◌≡◌ {A = ℕ} 0 1 = cc in omega arith)

-- what the reader's answer tells of its reading
refused-stop : (t : List ℕ) (p : Parsed (Done Settings (List ℕ))) (n : ℕ) → (keeping t (answer_of p)).answer ≡ refused n → p ≡ stop n
refused-stop t (stop m) n e = let same : m ≡ n = cc in ap stop same
refused-stop t (next d end) n e = absurd (let z : ◌≡◌ {A = ℕ} 0 1 = cc in omega arith)

record Gave (p : Parsed (Done Settings (List ℕ))) (s : Settings) : Type 0 where
  pub what : Done Settings (List ℕ)
  pub end : List ℕ
  pub is : p ≡ next what end
  pub says : what.says ≡ s

given-next : (t : List ℕ) (p : Parsed (Done Settings (List ℕ))) (s : Settings) → (keeping t (answer_of p)).answer ≡ given s → Gave p s
given-next t (stop m) s e = absurd (let z : ◌≡◌ {A = ℕ} 0 1 = cc in omega arith)
given-next t (next d end) s e = record { what = d; end = end; is = refl; says = cc }

as_reader : (bytes t out : List ℕ) (n : ℕ) → (read_file bytes t).answer ≡ refused n → n ≢ 4 → n ≢ 5 → convert_file bytes out ≡ outcome (refused n) out
unfolding read_file
as_reader bytes t out n e four five = sym (unsound bytes out (stop-same bytes t n (refused-stop t (read_all (into t) bytes) n e) four five))

readable : (bytes t out : List ℕ) (s : Settings) → (read_file bytes t).answer ≡ given s → convert_file bytes out ≡ outcome (refused 24) out
unfolding read_file
readable bytes t out s e =
    let g = given-next t (read_all (into t) bytes) s e in
    let passes : settings_refusal s ≡ none = header-tells.passes bytes s (header-tells.tells bytes t s e).0 in
    let working : degenerate g.what.says ≡ false = ap degenerate g.says ∙ ((degenerate-laws s).passes.0 passes).1 in
    sym (other bytes out (next-same bytes t g.what g.end g.is) working)

keeps : (bytes out : List ℕ) (n : ℕ) → (convert_file bytes out).answer ≡ refused n → (convert_file bytes out).leaves ≡ out
unfolding convert_file
keeps bytes out n e = refusal-laws.keeps n out (from_file (plain_bytes bytes) out (answer_of (read_all former_checks bytes))) e

pub convert-order : ConvertOrder
convert-order = record {
  unsound = λ bytes out n e. sym (unsound bytes out e);
  other = λ bytes out c end s e d. sym (other bytes out e d);
  short = λ bytes out c end s e d h. sym (short bytes out e d h);
  written = λ bytes out c end s e d h. sym (writes bytes out e d h);
  as_reader = as_reader;
  readable = readable;
  keeps = keeps;
}
