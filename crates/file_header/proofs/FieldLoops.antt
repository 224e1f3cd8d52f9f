-- The header's loops: one more bit, byte or field, and the rest from there.
-- Assumes nothing.
use mathlib.Core.Path.{◌≡◌, refl, sym, ap, ap₂, ◌∙◌}
use mathlib.Core.Logic.{◌≢◌}
use mathlib.Core.Bool.{Bool, true, false, cond, not, ◌&&◌}
use mir.Val.{bool_byte}
use mathlib.Core.Option.{Option, none, some}
use mathlib.Core.List.{List, [], ◌∷◌, ◌++◌, append-nil}
use Prim.Native.Nat.{ℕ, zero, suc, ◌+◌, ◌*◌, ◌-◌, ◌/◌, ◌≤◌, ◌<◌}
use native.Mathlib.Numerals.{add-one}
use native.Mathlib.Omega.{arith}
use borrow.Author.Tests.{leb-true, eq-eqb, ne_eqb, le-leb, lt-leb}
use lib.Dec.{eqb, leb}
use lib.ListN.{length, take, drop, get_or, set, length-drop, drop_of_length-le}
use lib.Seq.{drop-cons, sets, take_all, take-suc-set, drop-set-lt, drop-drop}
use Rattle.lemmas.specs.Stores.{Put}
use Rattle.lemmas.proofs.Stores.{Left, left-all, left-turn}
use Rattle.lemmas.specs.Bytes.{AllBytes, bytes_of, number_from}
use Rattle.lemmas.proofs.Bytes.{all-bytes, drop-bytes}
use Rattle.file_form.specs.Parsed.{Parsed, stop, next, and_then, refuse_if, checked}
use Rattle.file_form.specs.Fields.{bit, spelled, Fit, field_bytes, take_number, field, take_fields}
use Rattle.file_form.specs.Header.{sizes, values_of, settings_from, defaults, map_of, map_checks}
use Rattle.file_form.specs.Reader.{take_byte, fitting, read_fields, settings_after_map, read_header}
use Rattle.refusals.specs.Checks.{first_met}
use Rattle.index.specs.declared.Settings.{Settings}
use Rattle.file_form.specs.Writer.{header}
use Rattle.file_form.proofs.Laws.{header-laws, in_front, in-front-append}
use Rattle.file_header.specs.Answers.{HeaderPut}
use Rattle.std.specs.Prelude.{Some, None, Option as Found}
use Rattle.file_header.specs.Internal.{number_is}

-- ── written ──
-- a field of so many bytes, where its bit stands
pub times-bit : (b : Bool) (n : ℕ) → n * bool_byte b ≡ cond b n 0
times-bit true n = omega arith
times-bit false n = omega arith

-- each of these sizes is 8 at most
abbrev pub all_small : List ℕ → Bool
all_small [] = true
all_small (n ∷ l) = leb n 8 && all_small l

pub small-at : (l : List ℕ) (i : ℕ) → all_small l ≡ true → get_or l i 0 ≤ 8
small-at [] i e = omega arith
small-at (n ∷ l) i e = go i (leb n 8) refl e (λ j f. small-at l j f)
  where
    go : (i : ℕ) (b : Bool) → leb n 8 ≡ b → (b && all_small l) ≡ true → ((j : ℕ) → all_small l ≡ true → get_or l j 0 ≤ 8) → get_or (n ∷ l) i 0 ≤ 8
    go i false q f h = cc
    go zero true q f h = leb-true n 8 q
    go (suc i) true q f h = h i f

-- a field's, where it stands
pub field_size : {k n : ℕ} (b : Bool) → n ≤ 8 → k ≡ bool_byte b → n * k ≤ 8
field_size {k} {n} b h e = go b e
  where
    go : (t : Bool) → k ≡ bool_byte t → n * k ≤ 8
    go true e = rw e (omega arith)
    go false e = rw e (omega arith)

-- one field more
pub field-next : {k : ℕ} (vs : List ℕ) (m i : ℕ) → length vs ≡ 5 → i < 5 → k ≡ bool_byte (bit 0 m)
    → field_bytes (drop i sizes) m (drop i vs) ≡ bytes_of (get_or sizes i 0 * k) (get_or vs i 0) ++ field_bytes (drop (i + 1) sizes) (m / 2) (drop (i + 1) vs)
field-next {k} vs m i e h f =
    let g : i < length vs = omega arith in
    let n = ap (λ (j : ℕ). get_or sizes i 0 * j) f ∙ times-bit (bit 0 m) (get_or sizes i 0) in
    rw (n, add-one, drop-cons sizes i 0 h, drop-cons vs i 0 g) refl

-- behind the map, which is stored, all fields are left
pub header-left : (s : Settings) (o : List ℕ) {b : ℕ} {vs : List ℕ} → b ≡ map_of s → vs ≡ values_of s → Left o (set o 0 b) 0 1 (header s) (field_bytes sizes b vs)
unfolding header
header-left s o {b} {vs} e f = left-turn (left-all o 0 (header s)) _ first (parts ∙ ap₂ (λ (m : ℕ) (l : List ℕ). (m ∷ []) ++ field_bytes sizes m l) (sym e) (sym f))
  where
    first : Put o (set o 0 b) 0 (b ∷ []) 1
    first = record { output = refl; place = refl }

    parts : header s ≡ (map_of s ∷ []) ++ field_bytes sizes (map_of s) (values_of s)
    parts = refl

-- an output that has no room for the header, and one that has
module _ (s : Settings) (o : List ℕ) where
  abbrev put-where : Bool → List ℕ
  put-where room = cond room (sets o 0 (header s)) o

  pub no_room : {n : ℕ} → n ≡ length (header s) → length o < n → HeaderPut s o o n
  no_room e h = record { output = sym (ap put-where (lt-leb (length (header s)) (length o) (omega arith))); count = e }

  pub room : {e : List ℕ} {n : ℕ} → length (header s) ≤ length o → Put o e 0 (header s) n → HeaderPut s o e n
  room h k = record { output = k.output ∙ sym (ap put-where (le-leb (length (header s)) (length o) h)); count = omega (arith, k.place) }

-- ── read ──
module _ (l : List ℕ) where
  module _ (at n : ℕ) where
    pub number_short : length l - at < n → take_number n (drop at l) ≡ stop 11
    number_short h = ap (λ (t : Bool). cond t (next (number_from (take n (drop at l))) (drop n (drop at l))) (stop 11)) (lt-leb n (length (drop at l)) (omega (arith, length-drop at l)))

    pub number-taken : n ≤ length l - at → take_number n (drop at l) ≡ next (number_from (take n (drop at l))) (drop (at + n) l)
    number-taken h =
        ap (λ (t : Bool). cond t (next (number_from (take n (drop at l))) (drop n (drop at l))) (stop 11)) (le-leb n (length (drop at l)) (omega (arith, length-drop at l)))
        ∙ ap (next (number_from (take n (drop at l)))) (drop-drop n at l)

-- one field more, put in the place of its default
module _ (ns : List ℕ) (m : ℕ) (ds : List ℕ) (i : ℕ) (long : length ds ≡ length ns) (h : i < length ns) where
  within : i < length ds
  within = omega arith

  abbrev field_here : List ℕ → Parsed ℕ
  field_here l = field (bit 0 m) (get_or ds i 0) (take_number (get_or ns i 0)) l

  abbrev then_from : ℕ → ℕ → List ℕ → Parsed (List ℕ)
  then_from k v rest = in_front (v ∷ []) (take_fields (drop k ns) (m / 2) (drop k ds) rest)

  opened : (l : List ℕ) → take_fields (drop i ns) m (drop i ds) l ≡ and_then (field_here l) (then_from (i + 1))
  opened l = ap₂ (λ (a b : List ℕ). take_fields a m b l) (drop-cons ns i 0 h) (drop-cons ds i 0 within) ∙ ap (λ (k : ℕ). and_then (field_here l) (then_from k)) (sym (add-one i))

  pub fields-stop : (l : List ℕ) → stop 11 ≡ field_here l → stop 11 ≡ in_front (take i ds) (take_fields (drop i ns) m (drop i ds) l)
  fields-stop l e = sym (ap (in_front (take i ds)) (opened l ∙ ap (λ (p : Parsed ℕ). and_then p (then_from (i + 1))) (sym e)))

  pub fields-turn : (l rest : List ℕ) (v : ℕ) → next v rest ≡ field_here l
      → in_front (take (i + 1) (set ds i v)) (take_fields (drop (i + 1) ns) (m / 2) (drop (i + 1) (set ds i v)) rest) ≡ in_front (take i ds) (take_fields (drop i ns) m (drop i ds) l)
  fields-turn l rest v e =
      let one_more : take (i + 1) (set ds i v) ≡ take i ds ++ (v ∷ []) = ap (λ (k : ℕ). take k (set ds i v)) (add-one i) ∙ take-suc-set ds i v within in
      ap₂ (λ (a b : List ℕ). in_front a (take_fields (drop (i + 1) ns) (m / 2) b rest)) one_more (drop-set-lt (i + 1) ds i v (omega arith))
      ∙ in-front-append (take i ds) (v ∷ []) (take_fields (drop (i + 1) ns) (m / 2) (drop (i + 1) ds) rest)
      ∙ ap (in_front (take i ds)) (sym (opened l ∙ ap (λ (p : Parsed ℕ). and_then p (then_from (i + 1))) (sym e)))

pub fields-done : (ns : List ℕ) (m : ℕ) (vs : List ℕ) (i : ℕ) (l : List ℕ) → length vs ≡ length ns → length ns ≤ i
    → next vs l ≡ in_front (take i vs) (take_fields (drop i ns) m (drop i vs) l)
fields-done ns m vs i l e h =
    let all : take i vs ≡ vs = take_all i vs (omega arith) in
    rw (drop_of_length-le ns h, all, append-nil) refl

-- ── the header ──
-- its first byte is a number of one byte
module _ (l : List ℕ) where
  by_number : read_header l ≡ and_then (take_number 1 l) settings_after_map
  unfolding read_header
  by_number = ap (λ (p : Parsed ℕ). and_then p settings_after_map) (go l)
    where
      go : (k : List ℕ) → take_byte k ≡ take_number 1 k
      go [] = refl
      go (b ∷ rest) =
          let e : b + 256 * 0 ≡ b = omega arith in
          sym (ap (λ (t : Bool). cond t (next (b + 256 * 0) rest) (stop 11)) (le-leb 1 (suc (length rest)) (omega arith)) ∙ ap (λ (x : ℕ). next x rest) e)

  module _ {n : Found (ℕ × ℕ)} (q : number_is l n ≡ take_number 1 l) where
    pub map_read : {v at : ℕ} → n ≡ Some (v, at) → read_header l ≡ settings_after_map v (drop at l)
    map_read t = by_number ∙ ap (λ (p : Parsed ℕ). and_then p settings_after_map) (sym q ∙ ap (number_is l) t)

    pub map-short : n ≡ None → stop 11 ≡ read_header l
    map-short t = sym (by_number ∙ ap (λ (p : Parsed ℕ). and_then p settings_after_map) (sym q ∙ ap (number_is l) t))

-- the map is tested, and the fields follow
module _ (m : ℕ) (rest : List ℕ) where
  pub map-refused : {n : ℕ} → some n ≡ first_met (map_checks m) → stop n ≡ settings_after_map m rest
  unfolding settings_after_map
  map-refused e = ap (λ (o : Option ℕ). checked o (read_fields m rest)) e

  pub map-onward : none ≡ first_met (map_checks m) → read_fields m rest ≡ settings_after_map m rest
  unfolding settings_after_map
  map-onward e = ap (λ (o : Option ℕ). checked o (read_fields m rest)) e

pub fields-short : (m : ℕ) (rest : List ℕ) → stop 11 ≡ take_fields sizes m defaults rest → stop 11 ≡ read_fields m rest
unfolding read_fields
fields-short m rest e = ap (λ (p : Parsed (List ℕ)). and_then p (fitting m)) e

-- the fields behind a map that passed have been read
pub record Taken (m : ℕ) (rest vs end : List ℕ) : Type 0 where
  pub passed : first_met (map_checks m) ≡ none
  pub bytes : AllBytes rest
  pub read : next vs end ≡ take_fields sizes m defaults rest

-- the values so far, continued by what the fields from i on give, are what all fields give
pub record Upto (l : List ℕ) (map from m i at : ℕ) (vs : List ℕ) : Type 0 where
  pub is : in_front (take i vs) (take_fields (drop i sizes) m (drop i vs) (drop at l)) ≡ take_fields sizes map defaults (drop from l)
  pub long : length vs ≡ 5
  pub inside : at ≤ length l

pub taken : {l : List ℕ} {map from m i at : ℕ} {vs : List ℕ} → Upto l map from m i at vs → first_met (map_checks map) ≡ none → ((x : ℕ) → get_or l x 0 < 256) → 5 ≤ i
    → Taken map (drop from l) vs (drop at l)
taken {l} {map} {from} {m} {i} {at} {vs} U p b h = record {
  passed = p;
  bytes = drop-bytes from l (all-bytes l b);
  read = fields-done sizes m vs i (drop at l) U.long h ∙ U.is;
}

module _ {m : ℕ} {rest vs end : List ℕ} (t : Taken m rest vs end) where
  pub values-fit : Fit sizes (spelled (length sizes) (λ i. get_or vs i 0))
  values-fit = header-laws.fit m rest vs end t.bytes (sym t.read)

  module _ (s : Settings) (k : ℕ) (made : s ≡ settings_from vs) (map : k ≡ map_of s) where
    by_map : refuse_if (not (eqb m k)) 12 (next s end) ≡ read_fields m rest
    by_map =
        ap₂ (λ (x : ℕ) (y : Settings). refuse_if (not (eqb m x)) 12 (next y end)) (map ∙ ap map_of made) made
        ∙ sym (header-laws.settled m rest vs end t.bytes t.passed (sym t.read))

    pub map_other : m ≢ k → stop 12 ≡ read_fields m rest
    map_other h = ap (λ (b : Bool). refuse_if (not b) 12 (next s end)) (sym (ne_eqb m k h)) ∙ by_map

    pub map_same : m ≡ k → next s end ≡ read_fields m rest
    map_same h = ap (λ (b : Bool). refuse_if (not b) 12 (next s end)) (sym (eq-eqb m k h)) ∙ by_map
