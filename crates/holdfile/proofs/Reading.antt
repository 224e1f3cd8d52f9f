-- The reader's steps: fields, cells, buckets, and the file as far as it has been read.
-- Assumes nothing.
use mathlib.Core.Path.{◌≡◌, refl, sym, ap, ◌∙◌, subst}
use mathlib.Core.Bool.{Bool, true, false, not, cond, ◌||◌, ◌&&◌}
use mathlib.Core.Option.{Option, none, some}
use mathlib.Core.List.{List, [], ◌∷◌, ◌++◌, append_assoc, append-nil}
use Prim.Native.Nat.{ℕ, zero, suc, ◌+◌, ◌*◌, ◌-◌, ◌^◌, ◌≤◌, ◌<◌}
use native.Mathlib.Numerals.{add-one}
use native.Mathlib.Omega.{arith}
use native.Mathlib.Decide.{dec_le}
use borrow.Author.Tests.{not-true, le-leb, lt-leb}
use lib.Dec.{eqb, leb}
use borrow.Rule.Slice.PartMut.{mid_of, post_of, put_mid, mid_len, same_len_mid}
use lib.ListN.{length, take, drop, get_or, set, length-append, drop_of_length-le}
use lib.Seq.{drop-cons, take_at, take_all, length-take-le}
use Rattle.lemmas.proofs.Bools.{or-false-left, or-false-right}
use Rattle.holdfile.proofs.Writing.{cond-le}
use Rattle.refusals.specs.Checks.{Check, first_met}
use Rattle.refusals.specs.Outcomes.{Done, done, Outcome, keeping}
use Rattle.index.specs.declared.Settings.{Settings}
use Rattle.std.specs.Prelude.{Some, None, Option as Found}
use Rattle.holdfile.specs.Internal.{field_is, stop_of, pair_from, cell_from, bucket_size, GoodAt, end_of, GivesCells, cells_read}
use Rattle.file_form.specs.Bytes.{bit0, bit1, bit2, bit3}
use Rattle.file_form.specs.Parsed.{Parsed, stop, next, and_then, refuse_if, checked, answer_of}
use Rattle.file_form.proofs.Laws.{in_front, in-front-append}
use Rattle.file_form.specs.Reader.{take_byte, take_pair, read_header, read_cell, read_cells, read_bucket, read_buckets, bytes_left_over, after_buckets, after_header}
use Rattle.file_form.specs.Reader.{read_all, into, read_file}

-- ── fields ──
module _ (l : List ℕ) (at : ℕ) where
  pub take-byte : at < length l → take_byte (drop at l) ≡ next (get_or l at 0) (drop (at + 1) l)
  take-byte h = rw (add-one, drop-cons l at 0) refl

  pub no_byte : length l ≤ at → take_byte (drop at l) ≡ stop 11
  no_byte h = ap take_byte (drop_of_length-le l h)

  pub take-two : at + 1 < length l → take_pair (drop at l) ≡ next (get_or l at 0 + 256 * get_or l (at + 1) 0) (drop (at + 1 + 1) l)
  take-two h =
      let h0 : at < length l = omega arith in
      let h1 : suc at < length l = omega arith in
      rw (add-one (at + 1), add-one at) (ap take_pair (drop-cons l at 0 h0 ∙ ap (λ (r : List ℕ). get_or l at 0 ∷ r) (drop-cons l (suc at) 0 h1)))

  pub no-two : length l ≤ at + 1 → take_pair (drop at l) ≡ stop 11
  no-two h = go (drop at l) (omega (arith, lib.ListN.length-drop at l))
    where
      go : (r : List ℕ) → length r ≤ 1 → take_pair r ≡ stop 11
      go [] k = refl
      go (x ∷ []) k = refl
      go (x ∷ y ∷ r) k = absurd (omega arith)

-- ── a cell's test ──
abbrev pub unfit_of : ℕ → Bool → ℕ → Bool
unfit_of w t v = t && (eqb v 0 || leb (2 ^ w) v)

-- ── a bucket, one cell after the other ──
-- what is left of a bucket: the test of its byte, and what stands behind each cell
abbrev pub behind3 : ℕ → ℕ → ℕ → ℕ → List ℕ → Parsed (List ℕ)
behind3 a b c d rest = next (a ∷ b ∷ c ∷ d ∷ []) rest

abbrev pub behind2 : ℕ → ℕ → ℕ → ℕ → ℕ → List ℕ → Parsed (List ℕ)
behind2 w m a b c rest = and_then (read_cell w (bit3 m) rest) (behind3 a b c)

abbrev pub behind1 : ℕ → ℕ → ℕ → ℕ → List ℕ → Parsed (List ℕ)
behind1 w m a b rest = and_then (read_cell w (bit2 m) rest) (behind2 w m a b)

abbrev pub behind0 : ℕ → ℕ → ℕ → List ℕ → Parsed (List ℕ)
behind0 w m a rest = and_then (read_cell w (bit1 m) rest) (behind1 w m a)

abbrev pub all_cells : ℕ → ℕ → List ℕ → Parsed (List ℕ)
all_cells w m rest = and_then (read_cell w (bit0 m) rest) (behind0 w m)

abbrev pub behind_marks : ℕ → ℕ → List ℕ → Parsed (List ℕ)
behind_marks w m rest = refuse_if (leb 16 m) 13 (all_cells w m rest)

pub bucket-opened : (w : ℕ) (l : List ℕ) → read_bucket w l ≡ and_then (take_byte l) (behind_marks w)
unfolding read_bucket read_cells
bucket-opened w l = refl

-- ── where a bucket ends: the ends of its cells, one after the other ──
abbrev pub ends3 : ℕ → ℕ → List ℕ → Parsed (Unit {0})
ends3 w m rest = end_of (read_cell w (bit3 m) rest)

abbrev pub ends2 : ℕ → ℕ → List ℕ → Parsed (Unit {0})
ends2 w m rest = and_then (end_of (read_cell w (bit2 m) rest)) (λ u more. ends3 w m more)

abbrev pub ends1 : ℕ → ℕ → List ℕ → Parsed (Unit {0})
ends1 w m rest = and_then (end_of (read_cell w (bit1 m) rest)) (λ u more. ends2 w m more)

abbrev pub ends0 : ℕ → ℕ → List ℕ → Parsed (Unit {0})
ends0 w m rest = and_then (end_of (read_cell w (bit0 m) rest)) (λ u more. ends1 w m more)

end-then : {A B : Type 0} (p : Parsed A) (f : A → List ℕ → Parsed B) (g : List ℕ → Parsed (Unit {0})) → ((a : A) (rest : List ℕ) → end_of (f a rest) ≡ g rest)
    → end_of (and_then p f) ≡ and_then (end_of p) (λ u rest. g rest)
end-then (stop n) f g h = refl
end-then (next a rest) f g h = h a rest

cells-end : (w m : ℕ) (l : List ℕ) → end_of (all_cells w m l) ≡ ends0 w m l
cells-end w m l =
    end-then (read_cell w (bit0 m) l) (behind0 w m) (ends1 w m) (λ a r1.
    end-then (read_cell w (bit1 m) r1) (behind1 w m a) (ends2 w m) (λ b r2.
    end-then (read_cell w (bit2 m) r2) (behind2 w m a b) (ends3 w m) (λ c r3.
    last (read_cell w (bit3 m) r3) (behind3 a b c) (λ d rest. refl))))
  where
    last : (p : Parsed ℕ) (f : ℕ → List ℕ → Parsed (List ℕ)) → ((d : ℕ) (rest : List ℕ) → end_of (f d rest) ≡ next tt rest) → end_of (and_then p f) ≡ end_of p
    last (stop n) f h = refl
    last (next d rest) f h = h d rest

-- a bucket whose byte was asked for: it is not there, marks more than four cells, or the cells follow
module _ (w : ℕ) (l : List ℕ) (at : ℕ) {f : Found (ℕ × ℕ)} (q : field_is l f ≡ take_byte (drop at l)) where
  opened : (g : Found (ℕ × ℕ)) → f ≡ g → read_bucket w (drop at l) ≡ and_then (field_is l g) (behind_marks w)
  opened g e = bucket-opened w (drop at l) ∙ ap (λ (p : Parsed ℕ). and_then p (behind_marks w)) (sym q ∙ ap (field_is l) e)

  pub no-bucket : f ≡ None → stop 11 ≡ end_of (read_bucket w (drop at l))
  no-bucket e = sym (ap end_of (opened None e))

  module _ {m to : ℕ} (e : f ≡ Some (m, to)) where
    tested : (b : Bool) → leb 16 m ≡ b → read_bucket w (drop at l) ≡ refuse_if b 13 (all_cells w m (drop to l))
    tested b h = opened (Some (m, to)) e ∙ ap (λ (c : Bool). refuse_if c 13 (all_cells w m (drop to l))) h

    pub high-marks : 16 ≤ m → stop 13 ≡ end_of (read_bucket w (drop at l))
    high-marks h = sym (ap end_of (tested true (le-leb 16 m h)))

    pub low-marks : m < 16 → end_of (read_bucket w (drop at l)) ≡ ends0 w m (drop to l)
    low-marks h = ap end_of (tested false (lt-leb 16 m h)) ∙ cells-end w m (drop to l)

-- behind a cell that ends, and at one that does not
pub goes_on : {p : Parsed (Unit {0})} {rest : List ℕ} (then : List ℕ → Parsed (Unit {0})) → next tt rest ≡ p → then rest ≡ and_then p (λ u more. then more)
goes_on then e = ap (λ (x : Parsed (Unit {0})). and_then x (λ u more. then more)) e

pub stops_here : {p : Parsed (Unit {0})} {n : ℕ} (then : List ℕ → Parsed (Unit {0})) → stop n ≡ p → stop n ≡ and_then p (λ u more. then more)
stops_here then e = ap (λ (x : Parsed (Unit {0})). and_then x (λ u more. then more)) e

-- ── a bucket by its marks: where its cells stand, and what they are ──
abbrev pub second : ℕ → ℕ → ℕ
second at m = at + 1 + cond (bit0 m) 2 0

abbrev pub third : ℕ → ℕ → ℕ
third at m = second at m + cond (bit1 m) 2 0

abbrev pub fourth : ℕ → ℕ → ℕ
fourth at m = third at m + cond (bit2 m) 2 0

abbrev pub cells_of : List ℕ → ℕ → ℕ → List ℕ
cells_of l at m = cell_from l (at + 1) (bit0 m) ∷ cell_from l (second at m) (bit1 m) ∷ cell_from l (third at m) (bit2 m) ∷ cell_from l (fourth at m) (bit3 m) ∷ []

-- as the code goes from one to the next
pub places-are : (at m p q r : ℕ) → p ≡ cond (bit0 m) 2 0 → q ≡ cond (bit1 m) 2 0 → r ≡ cond (bit2 m) 2 0
    → (at + 1 + p ≡ second at m) × (at + 1 + p + q ≡ third at m) × (at + 1 + p + q + r ≡ fourth at m)
places-are at m p q r e f g = (omega arith, omega arith, omega arith)

pub places-end : (at m : ℕ) → fourth at m + cond (bit3 m) 2 0 ≡ at + bucket_size m
places-end at m = omega arith

-- a marked cell that stands in the bytes, by its test; one that fits, or is not marked
module _ {B : Type 0} (w : ℕ) (l : List ℕ) (at : ℕ) (then : ℕ → List ℕ → Parsed B) where
  cell-read : at + 2 ≤ length l → (b : Bool) → unfit_of w true (pair_from l at) ≡ b
      → and_then (read_cell w true (drop at l)) then ≡ and_then (refuse_if b 14 (next (pair_from l at) (drop (at + 2) l))) then
  cell-read h b u =
      let n : at + 1 + 1 ≡ at + 2 = omega arith in
      ap (λ (p : Parsed ℕ). and_then (and_then p (λ x rest. refuse_if (eqb x 0 || leb (2 ^ w) x) 14 (next x rest))) then)
      (take-two l at (omega arith) ∙ ap (λ (k : ℕ). next (pair_from l at) (drop k l)) n)
      ∙ ap (λ (c : Bool). and_then (refuse_if c 14 (next (pair_from l at) (drop (at + 2) l))) then) u

  cell-known : (t : Bool) → at + 2 ≤ length l → unfit_of w t (pair_from l at) ≡ false → and_then (read_cell w t (drop at l)) then ≡ then (cell_from l at t) (drop (at + cond t 2 0) l)
  cell-known true h u = cell-read h false u
  cell-known false h u = ap (λ (k : ℕ). then 0 (drop k l)) (let n : at ≡ at + 0 = omega arith in n)

-- a bucket whose byte is there, by its test
bucket-tested : (w : ℕ) (l : List ℕ) (at : ℕ) → at < length l → (b : Bool) → leb 16 (get_or l at 0) ≡ b
    → read_bucket w (drop at l) ≡ refuse_if b 13 (all_cells w (get_or l at 0) (drop (at + 1) l))
bucket-tested w l at h b e =
    bucket-opened w (drop at l)
    ∙ ap (λ (p : Parsed ℕ). and_then p (behind_marks w)) (take-byte l at h)
    ∙ ap (λ (c : Bool). refuse_if c 13 (all_cells w (get_or l at 0) (drop (at + 1) l))) e

-- where nine bytes are left, every test may be made, whatever is marked
module _ (w : ℕ) (l : List ℕ) (at : ℕ) (room : at + 9 ≤ length l) where
  abbrev m : ℕ
  m = get_or l at 0

  abbrev u0 : Bool
  u0 = unfit_of w (bit0 m) (pair_from l (at + 1))

  abbrev u1 : Bool
  u1 = unfit_of w (bit1 m) (pair_from l (second at m))

  abbrev u2 : Bool
  u2 = unfit_of w (bit2 m) (pair_from l (third at m))

  abbrev u3 : Bool
  u3 = unfit_of w (bit3 m) (pair_from l (fourth at m))

  good-bucket : leb 16 m ≡ false → u0 ≡ false → u1 ≡ false → u2 ≡ false → u3 ≡ false → read_bucket w (drop at l) ≡ next (cells_of l at m) (drop (at + bucket_size m) l)
  good-bucket low e0 e1 e2 e3 =
      let b0 = cond-le (bit0 m) 2 in
      let b1 = cond-le (bit1 m) 2 in
      let b2 = cond-le (bit2 m) 2 in
      bucket-tested w l at (omega arith) false low
      ∙ cell-known w l (at + 1) (behind0 w m) (bit0 m) (omega arith) e0
      ∙ cell-known w l (second at m) (behind1 w m (cell_from l (at + 1) (bit0 m))) (bit1 m) (omega arith) e1
      ∙ cell-known w l (third at m) (behind2 w m (cell_from l (at + 1) (bit0 m)) (cell_from l (second at m) (bit1 m))) (bit2 m) (omega arith) e2
      ∙ cell-known w l (fourth at m) (behind3 (cell_from l (at + 1) (bit0 m)) (cell_from l (second at m) (bit1 m)) (cell_from l (third at m) (bit2 m))) (bit3 m) (omega arith) e3
      ∙ ap (λ (k : ℕ). next (cells_of l at m) (drop k l)) (places-end at m)

  pub good-said : (r : Bool) → r ≡ not ((leb 16 m || (u0 || u1)) || (u2 || u3)) → GoodAt w l at r
  good-said false e = tt
  good-said true e =
      let none : ((leb 16 m || (u0 || u1)) || (u2 || u3)) ≡ false = not-true ((leb 16 m || (u0 || u1)) || (u2 || u3)) (sym e) in
      let low = or-false-left (leb 16 m || (u0 || u1)) (u2 || u3) none in
      let high = or-false-right (leb 16 m || (u0 || u1)) (u2 || u3) none in
      let firsts = or-false-right (leb 16 m) (u0 || u1) low in
      ap end_of (good-bucket (or-false-left (leb 16 m) (u0 || u1) low) (or-false-left u0 u1 firsts) (or-false-right u0 u1 firsts) (or-false-left u2 u3 high) (or-false-right u2 u3 high))

-- ── a bucket that has passed ──
stops-never : {p : Parsed (List ℕ)} {n : ℕ} → GivesCells p → p ≡ stop n → ⊥
stops-never h e = subst GivesCells e h

-- a whole that passes, and has come to a cell
record Come (whole : Parsed (List ℕ)) (w : ℕ) (t : Bool) (l : List ℕ) (at : ℕ) (then : ℕ → List ℕ → Parsed (List ℕ)) : Type 0 where
  pub is : whole ≡ and_then (read_cell w t (drop at l)) then
  pub within : at ≤ length l
  pub passed : GivesCells whole

module _ {whole : Parsed (List ℕ)} {w : ℕ} {t : Bool} {l : List ℕ} {at : ℕ} {then : ℕ → List ℕ → Parsed (List ℕ)} (k : Come whole w t l at then) where
  -- the cell stands whole in the bytes, and they are its value
  come-cell : (at + cond t 2 0 ≤ length l) × (whole ≡ then (cell_from l at t) (drop (at + cond t 2 0) l))
  come-cell = go t k.is
    where
      fit : at + 2 ≤ length l → (b : Bool) → unfit_of w true (pair_from l at) ≡ b → whole ≡ and_then (read_cell w true (drop at l)) then → whole ≡ then (pair_from l at) (drop (at + 2) l)
      fit h true u e = absurd (stops-never k.passed (e ∙ cell-read w l at then h true u))
      fit h false u e = e ∙ cell-read w l at then h false u

      go : (b : Bool) → whole ≡ and_then (read_cell w b (drop at l)) then → (at + cond b 2 0 ≤ length l) × (whole ≡ then (cell_from l at b) (drop (at + cond b 2 0) l))
      go false e = (omega (arith, k.within), e ∙ ap (λ (n : ℕ). then 0 (drop n l)) (let z : at ≡ at + 0 = omega arith in z))
      go true e = elim (dec_le (at + 2) (length l)) [
        | yes h ↦ (h, fit h (unfit_of w true (pair_from l at)) refl e)
        | no h ↦ absurd
            (stops-never k.passed
            (e ∙ ap (λ (p : Parsed ℕ). and_then (and_then p (λ x rest. refuse_if (eqb x 0 || leb (2 ^ w) x) 14 (next x rest))) then) (no-two l at (omega arith))))
      ]

  come-next : (u : Bool) (more : ℕ → List ℕ → Parsed (List ℕ)) → ((rest : List ℕ) → then (cell_from l at t) rest ≡ and_then (read_cell w u rest) more) → Come whole w u l (at + cond t 2 0) more
  come-next u more f = record { is = come-cell.1 ∙ f (drop (at + cond t 2 0) l); within = come-cell.0; passed = k.passed }

-- the byte that marks the cells
module _ (w : ℕ) (l : List ℕ) (at : ℕ) (h : GivesCells (read_bucket w (drop at l))) where
  pub marks-in : at < length l
  marks-in = elim (dec_le (length l) at) [
    | yes e ↦ absurd (stops-never h (bucket-opened w (drop at l) ∙ ap (λ (p : Parsed ℕ). and_then p (behind_marks w)) (no_byte l at e)))
    | no e ↦ omega arith
  ]

  come-first : Come (read_bucket w (drop at l)) w (bit0 (get_or l at 0)) l (at + 1) (behind0 w (get_or l at 0))
  come-first = record { is = low (leb 16 (get_or l at 0)) refl; within = omega (arith, marks-in); passed = h }
    where
      low : (b : Bool) → leb 16 (get_or l at 0) ≡ b → read_bucket w (drop at l) ≡ all_cells w (get_or l at 0) (drop (at + 1) l)
      low true q = absurd (stops-never h (bucket-tested w l at marks-in true q))
      low false q = bucket-tested w l at marks-in false q

-- the whole bucket, and where its cells stand
pub record Passed (w : ℕ) (l : List ℕ) (at : ℕ) : Type 0 where
  pub is : read_bucket w (drop at l) ≡ next (cells_of l at (get_or l at 0)) (drop (at + bucket_size (get_or l at 0)) l)
  pub inside-second : second at (get_or l at 0) ≤ length l
  pub inside-third : third at (get_or l at 0) ≤ length l
  pub inside-fourth : fourth at (get_or l at 0) ≤ length l
  pub inside : at + bucket_size (get_or l at 0) ≤ length l

pub bucket_passed : (w : ℕ) (l : List ℕ) (at : ℕ) → GivesCells (read_bucket w (drop at l)) → Passed w l at
bucket_passed w l at h =
    let m : ℕ = get_or l at 0 in
    let x : ℕ = cell_from l (at + 1) (bit0 m) in
    let y : ℕ = cell_from l (second at m) (bit1 m) in
    let b = come-next (come-first w l at h) (bit1 m) (behind1 w m x) (λ rest. refl) in
    let c = come-next b (bit2 m) (behind2 w m x y) (λ rest. refl) in
    let d = come-next c (bit3 m) (behind3 x y (cell_from l (third at m) (bit2 m))) (λ rest. refl) in
    record {
      is = (come-cell d).1 ∙ ap (λ (k : ℕ). next (cells_of l at m) (drop k l)) (places-end at m);
      inside-second = b.within;
      inside-third = c.within;
      inside-fourth = d.within;
      inside = omega (arith, (come-cell d).0);
    }

-- two bytes are there at each place where nine are left, and none have to be where not
pub passed-rooms : (ahead : Bool) {w : ℕ} {l : List ℕ} {at : ℕ} → at + cond ahead 9 0 ≤ length l → Passed w l at
    → (second at (get_or l at 0) + cond ahead 2 0 ≤ length l) × (third at (get_or l at 0) + cond ahead 2 0 ≤ length l) × (fourth at (get_or l at 0) + cond ahead 2 0 ≤ length l)
passed-rooms true {w} {l} {at} h P =
    let m = get_or l at 0 in
    let b0 = cond-le (bit0 m) 2 in
    let b1 = cond-le (bit1 m) 2 in
    let b2 = cond-le (bit2 m) 2 in
    (omega arith, omega arith, omega arith)
passed-rooms false h P = (omega (arith, P.inside-second), omega (arith, P.inside-third), omega (arith, P.inside-fourth))

-- ── buckets ──
-- a part of four cells put into the table: what stands up to its end
take_part : (t part : List ℕ) (i : ℕ) → i + 4 ≤ length t → length part ≡ 4 → take (i + 4) (put_mid i (i + 4 - i) t part) ≡ take i t ++ part
take_part t part i h four =
    ap (take (i + 4)) (sym (append_assoc (take i t) part (post_of i (i + 4 - i) t)))
    ∙ take_at (take i t ++ part) (post_of i (i + 4 - i) t) (i + 4) (length-append (take i t) part ∙ omega (arith, length-take-le i t (omega arith)))

end-in-front : (f : List ℕ) (p : Parsed (List ℕ)) → end_of (in_front f p) ≡ end_of p
end-in-front f (stop n) = refl
end-in-front f (next c end) = refl

module _ (w n : ℕ) (l : List ℕ) (h : 0 < n) where
  one_more : read_buckets w n l ≡ and_then (read_bucket w l) (λ four rest. in_front four (read_buckets w (n - 1) rest))
  one_more = go n h
    where
      opened : (m : ℕ) → read_buckets w (suc m) l ≡ and_then (read_bucket w l) (λ four rest. in_front four (read_buckets w m rest))
      opened m = unfold read_buckets in refl

      go : (k : ℕ) → 0 < k → read_buckets w k l ≡ and_then (read_bucket w l) (λ four rest. in_front four (read_buckets w (k - 1) rest))
      go zero z = absurd (omega arith)
      go (suc m) z =
          let e : suc m - 1 ≡ m = omega arith in
          rw e (opened m)

  pub bucket-then : (four rest : List ℕ) → read_bucket w l ≡ next four rest → read_buckets w n l ≡ in_front four (read_buckets w (n - 1) rest)
  bucket-then four rest e = one_more ∙ ap (λ (p : Parsed (List ℕ)). and_then p (λ four rest. in_front four (read_buckets w (n - 1) rest))) e

  pub bucket-stops : (k : ℕ) → read_bucket w l ≡ stop k → read_buckets w n l ≡ stop k
  bucket-stops k e = one_more ∙ ap (λ (p : Parsed (List ℕ)). and_then p (λ four rest. in_front four (read_buckets w (n - 1) rest))) e

  -- the first pass: it stops, or has one bucket more
  pub check-stops : (k : ℕ) → stop k ≡ end_of (read_bucket w l) → read_buckets w n l ≡ stop k
  check-stops k e = go (read_bucket w l) refl e
    where
      go : (r : Parsed (List ℕ)) → read_bucket w l ≡ r → stop k ≡ end_of r → read_buckets w n l ≡ stop k
      go (stop m) q f =
          let same : m ≡ k = cc in
          bucket-stops m q ∙ ap stop same
      go (next four rest) q f = absurd (let z : ◌≡◌ {A = ℕ} 0 1 = cc in omega arith)

  pub check-turn : (rest : List ℕ) → next tt rest ≡ end_of (read_bucket w l) → end_of (read_buckets w (n - 1) rest) ≡ end_of (read_buckets w n l)
  check-turn rest e = go (read_bucket w l) refl e
    where
      go : (r : Parsed (List ℕ)) → read_bucket w l ≡ r → next tt rest ≡ end_of r → end_of (read_buckets w (n - 1) rest) ≡ end_of (read_buckets w n l)
      go (stop m) q f = absurd (let z : ◌≡◌ {A = ℕ} 0 1 = cc in omega arith)
      go (next four end) q f =
          let same : rest ≡ end = cc in
          ap (λ (x : List ℕ). end_of (read_buckets w (n - 1) x)) same ∙ sym (ap end_of (bucket-then four end q) ∙ end-in-front four (read_buckets w (n - 1) end))

  -- the second pass meets no refusal
  pub passes-first : GivesCells (read_buckets w n l) → GivesCells (read_bucket w l)
  passes-first p = go (read_bucket w l) refl
    where
      go : (r : Parsed (List ℕ)) → read_bucket w l ≡ r → GivesCells r
      go (stop k) e = subst GivesCells (bucket-stops k e) p
      go (next four rest) e = tt

  -- and has one bucket more in the table
  store-turn : (at i end : ℕ) (bytes before part : List ℕ) → l ≡ drop at bytes → i + 4 ≤ length before → length part ≡ 4
      → read_bucket w (drop at bytes) ≡ next part (drop end bytes)
      → in_front (take (i + 4) (put_mid i (i + 4 - i) before part)) (read_buckets w (n - 1) (drop end bytes)) ≡ in_front (take i before) (read_buckets w n l)
  store-turn at i end bytes before part e h four k =
      ap (λ (x : List ℕ). in_front x (read_buckets w (n - 1) (drop end bytes))) (take_part before part i h four)
      ∙ in-front-append (take i before) part (read_buckets w (n - 1) (drop end bytes))
      ∙ ap (in_front (take i before)) (sym (bucket-then part (drop end bytes) (ap (read_bucket w) e ∙ k)))

gives-behind : (f : List ℕ) (p : Parsed (List ℕ)) → GivesCells (in_front f p) → GivesCells p
gives-behind f (stop n) h = h
gives-behind f (next c end) h = tt

-- what is left to read of a whole that passes
passes-rest : (f : List ℕ) (p whole : Parsed (List ℕ)) → in_front f p ≡ whole → GivesCells whole → GivesCells p
passes-rest f p whole e h = gives-behind f p (subst GivesCells (sym e) h)

-- each bucket has a byte at least
buckets-room : (w n : ℕ) (l : List ℕ) (at : ℕ) → at ≤ length l → GivesCells (read_buckets w n (drop at l)) → at + n ≤ length l
buckets-room w zero l at h p = omega arith
buckets-room w (suc n) l at h p =
    let one : 0 < suc n = omega arith in
    let less : suc n - 1 ≡ n = omega arith in
    let k = bucket_passed w l at (passes-first w (suc n) (drop at l) one p) in
    let behind = at + bucket_size (get_or l at 0) in
    let rest : GivesCells (read_buckets w (suc n - 1) (drop behind l)) =
    gives-behind (cells_of l at (get_or l at 0)) (read_buckets w (suc n - 1) (drop behind l)) (subst GivesCells (bucket-then w (suc n) (drop at l) one _ _ k.is) p) in
    omega (arith, buckets-room w n l behind k.inside (subst (λ (j : ℕ). GivesCells (read_buckets w j (drop behind l))) less rest))

pub none_more : (w : ℕ) (l : List ℕ) → read_buckets w 0 l ≡ next [] l
unfolding read_buckets
none_more w l = refl

store-end : (w left i : ℕ) (l table : List ℕ) (all : Parsed (List ℕ)) → left ≤ 0 → in_front (take i table) (read_buckets w left l) ≡ all → i + 4 * left ≡ length table → table ≡ cells_read all
store-end w left i l table all h e k =
    let z : left ≡ 0 = omega arith in
    sym (ap cells_read (sym e ∙ ap (in_front (take i table)) (ap (λ (n : ℕ). read_buckets w n l) z ∙ none_more w l)) ∙ append-nil (take i table) ∙ take_all i table (omega arith))

pub four_same : {a b c d x y z w : ℕ} → a ≡ x → b ≡ y → c ≡ z → d ≡ w → a ∷ b ∷ c ∷ d ∷ [] ≡ x ∷ y ∷ z ∷ w ∷ []
four_same e f g h = rw (e, f, g, h) refl

-- ── the second pass ──
-- the table so far, in front of what is left to read of a whole that passes
pub record Upto (bytes : List ℕ) (whole : Parsed (List ℕ)) (w : ℕ) (table : List ℕ) (at i left : ℕ) : Type 0 where
  pub is : in_front (take i table) (read_buckets w left (drop at bytes)) ≡ whole
  pub size : i + 4 * left ≡ length table
  pub passes : GivesCells whole

module _ {bytes : List ℕ} {whole : Parsed (List ℕ)} {w : ℕ} {table : List ℕ} {at i left : ℕ} (U : Upto bytes whole w table at i left) where
  module _ (more : 0 < left) where
    gives : GivesCells (read_buckets w left (drop at bytes))
    gives = passes-rest (take i table) (read_buckets w left (drop at bytes)) whole U.is U.passes

    -- a bucket that passes, within the bytes, and eight bytes behind it where as many buckets are left
    pub upto-passes : GivesCells (read_bucket w (drop at bytes))
    upto-passes = passes-first w left (drop at bytes) more gives

    pub upto-inside : at < length bytes
    upto-inside = marks-in w bytes at upto-passes

    pub upto-ahead : at + left ≤ length bytes
    upto-ahead = buckets-room w left bytes at (omega (arith, upto-inside)) gives

    pub upto-room : i + 4 ≤ length table
    upto-room = omega (arith, U.size)

    -- the part of its four cells
    pub upto-part : length (mid_of i (i + 4 - i) table) ≡ 4
    upto-part = mid_len i (i + 4) table upto-room ∙ omega arith

    pub upto-more : (part : List ℕ) (end : ℕ) {j n : ℕ} → j ≡ i + 4 → n ≡ left - 1 → length part ≡ length (mid_of i (i + 4 - i) table) → read_bucket w (drop at bytes) ≡ next part (drop end bytes)
        → Upto bytes whole w (put_mid i (i + 4 - i) table part) end j n
    upto-more part end e f long k = rw (e, f) (record {
      is = store-turn w left (drop at bytes) more at i end bytes table part refl upto-room (long ∙ upto-part) k ∙ U.is;
      size = omega (arith, U.size, same_len_mid i (i + 4 - i) table part long);
      passes = U.passes;
    })

  pub upto-end : left ≤ 0 → table ≡ cells_read whole
  upto-end h = store-end w left i (drop at bytes) table whole h U.is U.size

-- the four cells of a part, stored one after the other
pub stored : (t : List ℕ) (a b c d : ℕ) → length t ≡ 4 → set (set (set (set t 0 a) 1 b) 2 c) 3 d ≡ a ∷ b ∷ c ∷ d ∷ []
stored [] a b c d h = absurd (omega arith)
stored (x ∷ []) a b c d h = absurd (omega arith)
stored (x ∷ y ∷ []) a b c d h = absurd (omega arith)
stored (x ∷ y ∷ z ∷ []) a b c d h = absurd (omega arith)
stored (x ∷ y ∷ z ∷ w ∷ []) a b c d h = refl
stored (x ∷ y ∷ z ∷ w ∷ v ∷ t) a b c d h = absurd (omega arith)

-- ── what stands behind the header ──
some_left : (l : List ℕ) (at : ℕ) → at < length l → bytes_left_over (drop at l) ≡ true
some_left l at h = ap bytes_left_over (drop-cons l at 0 h)

none_left : (l : List ℕ) (at : ℕ) → length l ≤ at → bytes_left_over (drop at l) ≡ false
none_left l at h = ap bytes_left_over (drop_of_length-le l h)

module _ (s : Settings) (cells : Parsed (List ℕ)) where
  abbrev body : Parsed (Done Settings (List ℕ))
  body = and_then cells (after_buckets s)

  -- it stops where the buckets do, or where something stands behind them
  pub end-stops : {n : ℕ} → stop n ≡ end_of cells → some n ≡ stop_of body
  end-stops {n} e = go cells e
    where
      go : (p : Parsed (List ℕ)) → stop n ≡ end_of p → some n ≡ stop_of (and_then p (after_buckets s))
      go (stop m) f =
          let same : n ≡ m = cc in
          ap some same
      go (next c end) f = cc

  module _ (l : List ℕ) (end : ℕ) (e : next tt (drop end l) ≡ end_of cells) where
    ended : (b : Bool) → bytes_left_over (drop end l) ≡ b → cond b (some 15) none ≡ stop_of body
    unfolding after_buckets
    ended b k = go cells e
      where
        over : (c r : List ℕ) (t : Bool) → bytes_left_over r ≡ t → cond t (some 15) none ≡ stop_of (refuse_if (bytes_left_over r) 15 (next (done s c) r))
        over c r true q = rw q refl
        over c r false q = rw q refl

        go : (p : Parsed (List ℕ)) → next tt (drop end l) ≡ end_of p → cond b (some 15) none ≡ stop_of (and_then p (after_buckets s))
        go (stop m) f = cc
        go (next c r) f =
            let same : drop end l ≡ r = cc in
            over c r b (sym (ap bytes_left_over same) ∙ k)

    pub end-left : end < length l → some 15 ≡ stop_of body
    end-left h = ended true (some_left l end h)

    pub end-done : length l ≤ end → none ≡ stop_of body
    end-done h = ended false (none_left l end h)

  -- a body that does not stop gave its cells, and left nothing
  pub record Read (b : Parsed (Done Settings (List ℕ))) : Type 0 where
    pub gives : GivesCells cells
    pub is : b ≡ next (done s (cells_read cells)) []

  pub body-read : none ≡ stop_of body → Read body
  unfolding after_buckets
  body-read e = go cells refl e
    where
      over : (c r : List ℕ) → none ≡ stop_of (refuse_if (bytes_left_over r) 15 (next (done s c) r)) → refuse_if (bytes_left_over r) 15 (next (done s c) r) ≡ next (done s c) []
      over c [] f = refl
      over c (b ∷ r) f = cc

      go : (p : Parsed (List ℕ)) → cells ≡ p → none ≡ stop_of (and_then p (after_buckets s)) → Read (and_then p (after_buckets s))
      go (stop m) q f = cc
      go (next c r) q f = record { gives = subst GivesCells (sym q) tt; is = over c r f ∙ ap (λ (x : Parsed (List ℕ)). next (done s (cells_read x)) []) (sym q) }

  body-stopped : {n : ℕ} → some n ≡ stop_of body → body ≡ stop n
  body-stopped {n} e = go body e
    where
      go : (p : Parsed (Done Settings (List ℕ))) → some n ≡ stop_of p → p ≡ stop n
      go (stop m) f =
          let k : m ≡ n = cc in
          ap stop k
      go (next d end) f = cc

-- behind any checks of the settings
module _ (s : Settings) (rest : List ℕ) (checks : Settings → List Check) where
  abbrev its_cells : Parsed (List ℕ)
  its_cells = read_buckets s.width s.buckets rest

  pub checks-met : {n : ℕ} → some n ≡ first_met (checks s) → after_header checks s rest ≡ stop n
  unfolding after_header
  checks-met e = ap (λ (o : Option ℕ). checked o (body s its_cells)) (sym e)

  module _ (p : none ≡ first_met (checks s)) where
    checks-passed : after_header checks s rest ≡ body s its_cells
    unfolding after_header
    checks-passed = ap (λ (o : Option ℕ). checked o (body s its_cells)) (sym p)

    pub after-stops : {n : ℕ} → some n ≡ stop_of (body s its_cells) → after_header checks s rest ≡ stop n
    after-stops e = checks-passed ∙ body-stopped s its_cells e

    pub after_read : none ≡ stop_of (body s its_cells) → after_header checks s rest ≡ next (done s (cells_read its_cells)) []
    after_read e = checks-passed ∙ (body-read s its_cells e).is

-- ── the whole: the header, and what stands behind it ──
pub ends_as : (t : List ℕ) {p q : Parsed (Done Settings (List ℕ))} → p ≡ q → keeping t (answer_of q) ≡ keeping t (answer_of p)
ends_as t e = ap (λ (x : Parsed (Done Settings (List ℕ))). keeping t (answer_of x)) (sym e)

pub file-read : (l t : List ℕ) (h : Parsed Settings) {r : Outcome Settings (List ℕ)} → h ≡ read_header l → r ≡ keeping t (answer_of (and_then h (after_header (into t)))) → r ≡ read_file l t
unfolding read_file read_all
file-read l t h e q = q ∙ ap (λ (p : Parsed Settings). keeping t (answer_of (and_then p (after_header (into t))))) e

-- a file without a table
module _ (checks : Settings → List Check) (l : List ℕ) where
  pub examine-stops : {n : ℕ} → read_header l ≡ stop n → read_all checks l ≡ stop n
  unfolding read_all
  examine-stops e = ap (λ (p : Parsed Settings). and_then p (after_header checks)) e

  pub examine-on : {s : Settings} {rest : List ℕ} → read_header l ≡ next s rest → read_all checks l ≡ after_header checks s rest
  unfolding read_all
  examine-on e = ap (λ (p : Parsed Settings). and_then p (after_header checks)) e
