-- Which number a file is answered with where several things are wrong.
-- Assumes nothing.
use mathlib.Core.Path.{◌≡◌, refl, ap, ◌∙◌}
use mathlib.Core.Bool.{Bool, true, false, cond, not, ◌||◌}
use mathlib.Core.Option.{Option, none, some}
use mathlib.Core.List.{List, [], ◌∷◌, ◌++◌}
use Prim.Native.Nat.{ℕ, zero, suc, ◌+◌, ◌*◌, ◌/◌, ◌^◌, ◌≤◌, ◌<◌}
use native.Mathlib.Decide.{dec_le}
use native.Mathlib.Omega.{arith}
use borrow.Author.Tests.{le-leb, lt-leb}
use lib.Dec.{eqb, leb}
use lib.ListN.{length, take, drop, length-drop}
use Rattle.lemmas.specs.Bytes.{number_from}
use Rattle.refusals.specs.Checks.{Check, first_met}
use Rattle.refusals.specs.Outcomes.{refused, Done}
use Rattle.refusals.proofs.Cursor.{start, met, passed}
use Rattle.index.specs.declared.Settings.{Settings}
use Rattle.calls.specs.Calls.{table_checks}
use Rattle.calls.proofs.Laws.{table-check-laws}
use Rattle.file_form.specs.Bytes.{bit0, bit1, bit2, bit3}
use Rattle.file_form.specs.Parsed.{Parsed, stop, next, and_then, refuse_if, checked}
use Rattle.file_form.specs.Fields.{bit, any_of, take_number, field, take_fields}
use Rattle.file_form.specs.Header.{sizes, settings_from, defaults, map_checks, misfits, misfit}
use Rattle.file_form.specs.Reader.{fitting, read_fields, settings_after_map, read_header, read_cell, read_cells, read_bucket, read_buckets, after_buckets, after_header}
use Rattle.file_form.specs.Reader.{read_all, into, read_file}
use Rattle.file_form.specs.AnswerOrder.{fields_length, ReadOrder, AnswerOrder}
use Rattle.file_form.proofs.Parses.{onward, split, same_next}
use Rattle.file_form.proofs.Maps.{map-passes}

-- a part that stopped stops the rest
stopped : {A B : Type 0} (p : Parsed A) (f : A → List ℕ → Parsed B) (n : ℕ) → p ≡ stop n → and_then p f ≡ stop n
stopped p f n e = ap (λ (q : Parsed _). and_then q f) e

told : (bytes c : List ℕ) (n : ℕ) → read_all (into c) bytes ≡ stop n → (read_file bytes c).answer ≡ refused n
unfolding read_file
told bytes c n e = rw e refl

-- ── the header ──
no_byte : read_header [] ≡ stop 11
unfolding read_header
no_byte = refl

module _ (map : ℕ) (rest : List ℕ) where
  by_map : (n : ℕ) → first_met (map_checks map) ≡ some n → read_header (map ∷ rest) ≡ stop n
  unfolding read_header settings_after_map
  by_map n e = rw e refl

  upper : 64 ≤ map → read_header (map ∷ rest) ≡ stop 12
  unfolding map_checks
  upper h = by_map 12 (met (start (map_checks map)) (le-leb 64 map h))

  module _ (h : map < 64) where
    uneven : bit 5 map ≡ false → read_header (map ∷ rest) ≡ stop 23
    unfolding map_checks
    uneven b = by_map 23 (met (passed (start (map_checks map)) (lt-leb 64 map h)) (ap not b))

    lower : bit 5 map ≡ true → (n : ℕ) → read_fields map rest ≡ stop n → read_header (map ∷ rest) ≡ stop n
    unfolding read_header settings_after_map
    lower b n e = rw (map-passes map h b) e

-- a number of which not every byte is there, and one that is whole
cut-number : (n : ℕ) (l : List ℕ) → length l < n → take_number n l ≡ stop 11
cut-number n l h = rw (lt-leb n (length l) h) refl

whole-number : (n : ℕ) (l : List ℕ) → n ≤ length l → take_number n l ≡ next (number_from (take n l)) (drop n l)
whole-number n l h = rw (le-leb n (length l) h) refl

-- fields of any sizes, and bytes that end before them
short : (ns : List ℕ) (m : ℕ) (ds l : List ℕ) → length ds ≡ length ns → length l < fields_length ns m → take_fields ns m ds l ≡ stop 11
short [] m ds l e h = absurd (omega arith)
short (n ∷ ns) m [] l e h = absurd (omega arith)
short (n ∷ ns) m (d ∷ ds) l e h = go (bit 0 m) refl (λ k g. short ns (m / 2) ds k (omega arith) g)
  where
    go : (t : Bool) → bit 0 m ≡ t → ((k : List ℕ) → length k < fields_length ns (m / 2) → take_fields ns (m / 2) ds k ≡ stop 11)
        → and_then (field t d (take_number n) l) (λ v r. and_then (take_fields ns (m / 2) ds r) (λ vs end. next (v ∷ vs) end)) ≡ stop 11
    go false q more = stopped (take_fields ns (m / 2) ds l) (λ vs end. next (d ∷ vs) end) 11 (more l (omega (arith, ap (λ (t : Bool). cond t n 0) q)))
    go true q more = elim (dec_le n (length l)) [
      | no g ↦ stopped (take_number n l) _ 11 (cut-number n l (omega arith))
      | yes g ↦ onward (take_number n l) _ _ _ (whole-number n l g)
          ∙ stopped (take_fields ns (m / 2) ds (drop n l)) (λ vs end. next (number_from (take n l) ∷ vs) end) 11
          (more (drop n l) (omega (arith, length-drop n l, g, ap (λ (t : Bool). cond t n 0) q)))
    ]

module _ (map : ℕ) (rest : List ℕ) (h : map < 64) (b : bit 5 map ≡ true) where
  cut : length rest < fields_length sizes map → read_header (map ∷ rest) ≡ stop 11
  unfolding read_fields
  cut l = lower map rest h b 11 (stopped (take_fields sizes map defaults rest) (fitting map) 11 (short sizes map defaults rest refl l))

  unfit : (values more : List ℕ) → take_fields sizes map defaults rest ≡ next values more → any_of (misfits map (settings_from values)) ≡ true → read_header (map ∷ rest) ≡ stop 12
  unfolding read_fields fitting misfit
  unfit values more e q =
      lower map rest h b 12
      (onward (take_fields sizes map defaults rest) (fitting map) values more e
      ∙ ap (λ (t : Bool). refuse_if t 12 (next (settings_from values) more)) q)

-- ── a bucket ──
no_marks : (w : ℕ) → read_bucket w [] ≡ stop 11
unfolding read_bucket
no_marks w = refl

marks : (w b : ℕ) (more : List ℕ) → 16 ≤ b → read_bucket w (b ∷ more) ≡ stop 13
unfolding read_bucket
marks w b more h = ap (λ (t : Bool). refuse_if t 13 (read_cells w b more)) (le-leb 16 b h)

-- its cells, in their order
module _ (w b n : ℕ) (l : List ℕ) (h : b < 16) where
  cells : read_bucket w (b ∷ l) ≡ read_cells w b l
  unfolding read_bucket
  cells = ap (λ (t : Bool). refuse_if t 13 (read_cells w b l)) (lt-leb 16 b h)

  first : read_cell w (bit0 b) l ≡ stop n → read_bucket w (b ∷ l) ≡ stop n
  unfolding read_cells
  first e = cells ∙ stopped (read_cell w (bit0 b) l) _ n e

  module _ (v : ℕ) (r : List ℕ) (e : read_cell w (bit0 b) l ≡ next v r) where
    second : read_cell w (bit1 b) r ≡ stop n → read_bucket w (b ∷ l) ≡ stop n
    unfolding read_cells
    second f = cells ∙ onward (read_cell w (bit0 b) l) _ v r e ∙ stopped (read_cell w (bit1 b) r) _ n f

    module _ (v' : ℕ) (r' : List ℕ) (f : read_cell w (bit1 b) r ≡ next v' r') where
      third : read_cell w (bit2 b) r' ≡ stop n → read_bucket w (b ∷ l) ≡ stop n
      unfolding read_cells
      third g =
          cells ∙ onward (read_cell w (bit0 b) l) _ v r e ∙ onward (read_cell w (bit1 b) r) _ v' r' f
          ∙ stopped (read_cell w (bit2 b) r') _ n g

      fourth : (v'' : ℕ) (r'' : List ℕ) → read_cell w (bit2 b) r' ≡ next v'' r'' → read_cell w (bit3 b) r'' ≡ stop n → read_bucket w (b ∷ l) ≡ stop n
      unfolding read_cells
      fourth v'' r'' g k =
          cells ∙ onward (read_cell w (bit0 b) l) _ v r e ∙ onward (read_cell w (bit1 b) r) _ v' r' f
          ∙ onward (read_cell w (bit2 b) r') _ v'' r'' g ∙ stopped (read_cell w (bit3 b) r'') _ n k

-- a cell that is marked
print : (w low high : ℕ) (more : List ℕ) → (eqb (low + 256 * high) 0 || leb (2 ^ w) (low + 256 * high)) ≡ true → read_cell w true (low ∷ high ∷ more) ≡ stop 14
print w low high more e = ap (λ (t : Bool). refuse_if t 14 (next (low + 256 * high) more)) e

cut_print : (w : ℕ) (l : List ℕ) → length l < 2 → read_cell w true l ≡ stop 11
cut_print w [] h = refl
cut_print w (low ∷ []) h = refl
cut_print w (low ∷ high ∷ l) h = absurd (omega arith)

-- behind k buckets that are sound
behind : (w k m : ℕ) (l cells at : List ℕ) (n : ℕ) → k < m → read_buckets w k l ≡ next cells at → read_bucket w at ≡ stop n → read_buckets w m l ≡ stop n
unfolding read_buckets
behind w k zero l cells at n h e b = absurd (omega arith)
behind w zero (suc m) l cells at n h e b = stopped (read_bucket w l) _ n (ap (read_bucket w) (same_next e).1 ∙ b)
behind w (suc k) (suc m) l cells at n h e b =
    let less : k < m = omega arith in
    let s1 = split _ _ cells at e in
    let s2 = split _ _ cells at s1.then in
    let end = same_next s2.then in
    let more = behind w k m s1.rest s2.value s2.rest n less s2.first (ap (read_bucket w) end.1 ∙ b) in
    onward (read_bucket w l) _ s1.value s1.rest s1.first ∙ stopped (read_buckets w m s1.rest) (λ cs r. next (s1.value ++ cs) r) n more

-- ── behind a header that is sound ──
module _ (checks : Settings → List Check) (bytes rest : List ℕ) (s : Settings) (head : read_header bytes ≡ next s rest) where
  abbrev body : Parsed (Done Settings (List ℕ))
  body = and_then (read_buckets s.width s.buckets rest) (after_buckets s)

  goes_on : (o : Option ℕ) → first_met (checks s) ≡ o → read_all checks bytes ≡ checked o body
  unfolding read_all after_header
  goes_on o e = onward (read_header bytes) (after_header checks) s rest head ∙ ap (λ (x : Option ℕ). checked x body) e

  module _ (passes : first_met (checks s) ≡ none) where
    by-bucket : (cells at : List ℕ) (k n : ℕ) → k < s.buckets → read_buckets s.width k rest ≡ next cells at → read_bucket s.width at ≡ stop n → read_all checks bytes ≡ stop n
    by-bucket cells at k n h e b =
        goes_on none passes ∙ stopped (read_buckets s.width s.buckets rest) (after_buckets s) n (behind s.width k s.buckets rest cells at n h e b)

    by-more : (cells more : List ℕ) (b : ℕ) → read_buckets s.width s.buckets rest ≡ next cells (b ∷ more) → read_all checks bytes ≡ stop 15
    unfolding after_buckets
    by-more cells more b e = goes_on none passes ∙ onward (read_buckets s.width s.buckets rest) (after_buckets s) cells (b ∷ more) e

pub read-order : (checks : Settings → List Check) → ReadOrder checks
unfolding read_all
read-order checks = record {
  header = λ bytes n e. stopped (read_header bytes) (after_header checks) n e;
  settings = λ bytes rest s n head e. goes_on checks bytes rest s head (some n) e;
  buckets = λ bytes rest cells at s k n head p h e b. by-bucket checks bytes rest s head p cells at k n h e b;
  left_over = λ bytes rest cells more s b head p e. by-more checks bytes rest s head p cells more b e;
}

-- the reader's checks, and a table of the right length
by-header : (bytes c : List ℕ) (n : ℕ) → read_header bytes ≡ stop n → (read_file bytes c).answer ≡ refused n
by-header bytes c n e = told bytes c n ((read-order (into c)).header bytes n e)

by-check : (bytes c rest : List ℕ) (s : Settings) (n : ℕ) → read_header bytes ≡ next s rest → first_met (table_checks s c) ≡ some n → (read_file bytes c).answer ≡ refused n
by-check bytes c rest s n head e = told bytes c n ((read-order (into c)).settings bytes rest s n head e)

pub answer-order : AnswerOrder
answer-order = record {
  no_byte = λ c. by-header [] c 11 no_byte;
  map_bits = λ m rest c h. by-header (m ∷ rest) c 12 (upper m rest h);
  uneven = λ m rest c h b. by-header (m ∷ rest) c 23 (uneven m rest h b);
  fields = λ m rest c h b l. by-header (m ∷ rest) c 11 (cut m rest h b l);
  misfits = λ m rest c values more h b e q. by-header (m ∷ rest) c 12 (unfit m rest h b values more e q);
  settings = λ bytes c rest s n head e. by-check bytes c rest s n head ((table-check-laws s c).by_settings n e);
  table = λ bytes c rest s head e h. by-check bytes c rest s 5 head ((table-check-laws s c).by_size e h);
  buckets = λ bytes c rest cells at s k n head S h e b. told bytes c n ((read-order (into c)).buckets bytes rest cells at s k n head ((table-check-laws s c).passes S) h e b);
  no_marks = no_marks;
  marks = marks;
  first = λ w b n l h e. first w b n l h e;
  second = λ w b n v l r h e f. second w b n l h v r e f;
  third = λ w b n v v' l r r' h e f g. third w b n l h v r e v' r' f g;
  fourth = λ w b n v v' v'' l r r' r'' h e f g k. fourth w b n l h v r e v' r' f v'' r'' g k;
  print = print;
  cut_print = cut_print;
  left_over = λ bytes c rest cells more s b head S e. told bytes c 15 ((read-order (into c)).left_over bytes rest cells more s b head ((table-check-laws s c).passes S) e);
}
