-- The stream of bits as one number: what the writer made is read back, and what is read is what the writer makes of it.
-- Assumes nothing.
use mathlib.Core.Path.{◌≡◌, refl, sym, ap, ap₂, ◌∙◌, subst}
use mathlib.Core.Bool.{false, not}
use mathlib.Core.Option.{Option, none, some}
use mathlib.Core.List.{List, [], ◌∷◌, ◌++◌}
use Prim.Native.Nat.{ℕ, zero, suc, ◌+◌, ◌*◌, ◌/◌, ◌%◌, ◌^◌, ◌≤◌, ◌<◌}
use native.Mathlib.Nat.{mod-lt, mod-add-div, mul-suc, add_comm}
use native.Mathlib.Omega.{arith}
use borrow.Author.Tests.{eqb-true, not-false}
use lib.Dec.{eqb}
use lib.ListN.{length}
use lib.Pow.{pow_pos, pow-add}
use Rattle.lemmas.proofs.Digits.{digit-below, digit-first, digit-rest}
use Rattle.refusals.specs.Checks.{check, first_met}
use Rattle.refusals.specs.Outcomes.{Answer, refused, given, unless}
use Rattle.refusals.proofs.Cursor.{by-none, not-met}
use Rattle.rows.specs.Rows.{nibble0, nibble1, nibble2, nibble3, Ascends}
use Rattle.calls.specs.WrittenForms.{any_from}
use Rattle.packed_form.specs.Writer.{sort4, sort_buckets, code_of, bucket_bits, stream_of}
use Rattle.packed_form.specs.Reader.{bucket_from, descends, code_checks, onward, unpack}
use Rattle.packed_form.proofs.Sort.{fours, sort_ascends, sort_below, sort-kept, below-four, four_below}
use Rattle.packed_form.proofs.Codes.{code_below, code-row-below, bucket-of-code, code-of-bucket, values-fit, value, ascends-test, test-ascends}
use Rattle.packed_form.proofs.Refusals.{bucket_passes, bucket_passed}

bits-more : (w m : ℕ) → 2 ^ (bucket_bits w * suc m) ≡ 2 ^ bucket_bits w * 2 ^ (bucket_bits w * m)
bits-more w m = ap (λ (k : ℕ). 2 ^ k) (mul-suc (bucket_bits w) m ∙ add_comm (bucket_bits w * m) (bucket_bits w)) ∙ pow-add 2 (bucket_bits w) (bucket_bits w * m)

pub unpack-more : (w m stream : ℕ) → unpack w (suc m) stream
    ≡ unless (first_met (code_checks w (stream % 2 ^ bucket_bits w))) (onward (bucket_from w (stream % 2 ^ bucket_bits w)) (unpack w m (stream / 2 ^ bucket_bits w)))
unfolding unpack
unpack-more w m stream = refl

nothing_left : (w : ℕ) → unpack w 0 0 ≡ given []
unfolding unpack
nothing_left w = refl

ended : (w stream : ℕ) (l : List ℕ) → unpack w 0 stream ≡ given l → (l ≡ []) × (stream ≡ 0)
unfolding unpack
ended w stream l e =
    let f = by-none (first_met (check 20 (not (eqb stream 0)) ∷ [])) (sym e) in
    (f.1, eqb-true stream 0 (not-false (eqb stream 0) (not-met _ [] f.0).0))

-- a bucket that is accepted ahead of the rest, and the rest
went_on : (o : Option ℕ) (four l : List ℕ) (u : Answer (List ℕ)) → unless o (onward four u) ≡ given l → (o ≡ none) × ((k : List ℕ) × (u ≡ given k) × (l ≡ four ++ k))
went_on (some n) four l u e = absurd (let z : ◌≡◌ {A = ℕ} 0 1 = cc in omega arith)
went_on none four l (refused n) e = absurd (let z : ◌≡◌ {A = ℕ} 0 1 = cc in omega arith)
went_on none four l (given k) e = (refl, (k, refl, cc))

module _ (w : ℕ) (wide : 4 ≤ w) where
  -- ── a bucket ahead of the rest ──
  module _ (a b c d : ℕ) (asc : Ascends a b c d) (fits : d < 2 ^ w) (rest : ℕ) where
    abbrev ahead : ℕ
    ahead = code_of w a b c d + 2 ^ bucket_bits w * rest

    first_code : ahead % 2 ^ bucket_bits w ≡ code_of w a b c d
    first_code = digit-first (2 ^ bucket_bits w) (code_of w a b c d) rest (code_below w wide a b c d asc fits)

    other-codes : ahead / 2 ^ bucket_bits w ≡ rest
    other-codes = digit-rest (2 ^ bucket_bits w) (code_of w a b c d) rest (code_below w wide a b c d asc fits)

    unpack-ahead : (m : ℕ) (l : List ℕ) → unpack w m rest ≡ given l → unpack w (suc m) ahead ≡ given (a ∷ b ∷ c ∷ d ∷ l)
    unpack-ahead m l e =
        let is = bucket-of-code w wide a b c d asc fits in
        let ok = bucket_passes w (code_of w a b c d) (code-row-below w wide a b c d asc fits) (ap descends is ∙ ascends-test a b c d asc) in
        unpack-more w m ahead ∙ rw (first_code, other-codes, e, ok, is) refl

  -- ── what the writer made ──
  pub stream-below : (m : ℕ) (l : List ℕ) → length l ≡ 4 * m → any_from (2 ^ w) l ≡ false → stream_of w (sort_buckets l) < 2 ^ (bucket_bits w * m)
  unfolding stream_of sort_buckets
  stream-below = fours (λ m l. any_from (2 ^ w) l ≡ false → stream_of w (sort_buckets l) < 2 ^ (bucket_bits w * m))
      (λ f. pow_pos (bucket_bits w * 0))
      (λ m a b c d l e ih f.
      let g = below-four (2 ^ w) a b c d l f in
      subst (λ (z : ℕ). stream_of w (sort4 a b c d ++ sort_buckets l) < z) (sym (bits-more w m))
      (digit-below (2 ^ bucket_bits w) (2 ^ (bucket_bits w * m)) _ (stream_of w (sort_buckets l))
      (code_below w wide _ _ _ _ (sort_ascends a b c d) (sort_below a b c d (2 ^ w) g.first g.second g.third g.fourth))
      (ih g.others)))

  pub unpack-stream : (m : ℕ) (l : List ℕ) → length l ≡ 4 * m → any_from (2 ^ w) l ≡ false → unpack w m (stream_of w (sort_buckets l)) ≡ given (sort_buckets l)
  unfolding stream_of sort_buckets
  unpack-stream = fours (λ m l. any_from (2 ^ w) l ≡ false → unpack w m (stream_of w (sort_buckets l)) ≡ given (sort_buckets l))
      (λ f. nothing_left w)
      (λ m a b c d l e ih f.
      let g = below-four (2 ^ w) a b c d l f in
      unpack-ahead _ _ _ _ (sort_ascends a b c d) (sort_below a b c d (2 ^ w) g.first g.second g.third g.fourth) (stream_of w (sort_buckets l)) m (sort_buckets l) (ih g.others))

  -- ── what the reader accepts ──
  pub record Sorted (m : ℕ) (l : List ℕ) (stream : ℕ) : Type 0 where
    pub size : length l ≡ 4 * m
    pub kept : sort_buckets l ≡ l
    pub fit : any_from (2 ^ w) l ≡ false
    pub made : stream_of w l ≡ stream

  none-accepted : (l : List ℕ) (stream : ℕ) → l ≡ [] → stream ≡ 0 → Sorted 0 l stream
  unfolding sort_buckets stream_of
  none-accepted l stream e f = rw (e, f) (record { size = refl; kept = refl; fit = refl; made = refl })

  more-accepted : (m code rest : ℕ) (k : List ℕ) → code < 2 ^ bucket_bits w → first_met (code_checks w code) ≡ none → Sorted m k rest
      → (l : List ℕ) (stream : ℕ) → l ≡ bucket_from w code ++ k → code + 2 ^ bucket_bits w * rest ≡ stream → Sorted (suc m) l stream
  unfolding bucket_from sort_buckets stream_of
  more-accepted m code rest k h e s l stream el es =
      let p = bucket_passed w code e in
      let f = values-fit w wide code h p.0 in
      let a = test-ascends (value w code nibble0 0) (value w code nibble1 1) (value w code nibble2 2) (value w code nibble3 3) p.1 in
      rw (el, ← es)
      (record {
        size = omega (arith, s.size);
        kept = ap₂ ◌++◌ (sort-kept _ _ _ _ a) s.kept;
        fit = four_below (2 ^ w) _ _ _ _ k f.0 f.1 f.2 f.3 s.fit;
        made = ap₂ (λ (x y : ℕ). x + 2 ^ bucket_bits w * y) (code-of-bucket w wide code h p.0) s.made;
      })

  pub accepted : (m stream : ℕ) (l : List ℕ) → unpack w m stream ≡ given l → Sorted m l stream
  accepted zero stream l e = let f = ended w stream l e in none-accepted l stream f.0 f.1
  accepted (suc m) stream l e =
      let N : ℕ = 2 ^ bucket_bits w in
      let g = went_on (first_met (code_checks w (stream % N))) (bucket_from w (stream % N)) l (unpack w m (stream / N)) (sym (unpack-more w m stream) ∙ e) in
      let k = g.1.0 in
      more-accepted m (stream % N) (stream / N) k (mod-lt stream (pow_pos (bucket_bits w))) g.0 (accepted m (stream / N) k g.1.1) l stream g.1.2 (mod-add-div stream N)
