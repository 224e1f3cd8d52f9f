-- Fields behind a map, of any sizes: what is written is read back, and what is read is what would be written.
-- Assumes nothing.
use mathlib.Core.Path.{◌≡◌, refl, sym, ap, ap₂, ◌∙◌, subst}
use mathlib.Core.Bool.{Bool, true, false, cond, not, ◌||◌}
use mathlib.Core.List.{List, [], ◌∷◌, ◌++◌, append_assoc}
use Prim.Native.Nat.{ℕ, zero, suc, ◌+◌, ◌*◌, ◌/◌, ◌%◌, ◌^◌, ◌<◌}
use native.Mathlib.Nat.{pow-suc, mod-eq_of_lt}
use native.Mathlib.Omega.{arith}
use borrow.Author.Tests.{eq-eqb, ne_eqb, eqb-true, eqb-false, le-leb, leb-true}
use lib.Dec.{eqb, leb}
use lib.ListN.{length, take, drop, get_or, length-append, take-append-drop}
use lib.Seq.{take_at, drop_at, length-take-le}
use Rattle.lemmas.specs.Bytes.{AllBytes, bytes_of, number_from}
use Rattle.lemmas.proofs.Bytes.{bytes-length, number-bytes, bytes-number, number-below, take-bytes, drop-bytes}
use Rattle.file_form.specs.Bytes.{one}
use Rattle.file_form.specs.Parsed.{stop, next, and_then}
use Rattle.file_form.specs.Fields.{bit, from_bits, any_of, spelled, Fit, part_size, field_bytes, take_number, field, take_fields}
use Rattle.file_form.proofs.Marks.{one-le, one-is, is_one}
use Rattle.file_form.proofs.Parses.{onward, split, same_next, Back, back-then}

-- ── the map ──
module _ (b : Bool) (bs : List Bool) where
  pub bit-from : bit 0 (from_bits (b ∷ bs)) ≡ b
  bit-from =
      let e : (one b + 2 * from_bits bs) % 2 ≡ one b = omega (arith, one-le b) in
      ap (λ (x : ℕ). eqb x 1) e ∙ one-is b

  pub half-from : from_bits (b ∷ bs) / 2 ≡ from_bits bs
  half-from = omega (arith, one-le b)

-- any bit of it
pub bit_at : (front : List Bool) (b : Bool) (bs : List Bool) → bit (length front) (from_bits (front ++ (b ∷ bs))) ≡ b
bit_at [] b bs = bit-from b bs
bit_at (a ∷ front) b bs = ap (bit (length front)) (half-from a (front ++ (b ∷ bs))) ∙ bit_at front b bs

-- an even number, k bits further up: added to a map it leaves bit k as it was
abbrev pub raised : ℕ → ℕ → ℕ
raised zero x = 2 * x
raised (suc k) x = 2 * raised k x

pub bit-under : (k x m : ℕ) → bit k (m + raised k x) ≡ bit k m
bit-under zero x m =
    let e : (m + 2 * x) % 2 ≡ m % 2 = omega arith in
    ap (λ (y : ℕ). eqb y 1) e
bit-under (suc k) x m =
    let e : (m + 2 * raised k x) / 2 ≡ m / 2 + raised k x = omega arith in
    ap (bit k) e ∙ bit-under k x (m / 2)

pub from_low : (bs : List Bool) → from_bits bs < 2 ^ length bs
from_low [] = omega arith
from_low (b ∷ bs) = omega (arith, one-le b, from_low bs, pow-suc 2 (length bs))

-- ── a field that is absent has its default ──
abbrev pub Defaulted : ℕ → List ℕ → List ℕ → Type 0
Defaulted m [] [] = Unit {0}
Defaulted m [] (v ∷ vs) = ⊥
Defaulted m (d ∷ ds) [] = ⊥
Defaulted m (d ∷ ds) (v ∷ vs) = (bit 0 m ≡ false → v ≡ d) × Defaulted (m / 2) ds vs

-- the same by the bits of which the map is made; there may be more bits than fields
abbrev pub Absent : List Bool → List ℕ → List ℕ → Type 0
Absent bs [] [] = Unit {0}
Absent bs [] (v ∷ vs) = ⊥
Absent bs (d ∷ ds) [] = ⊥
Absent [] (d ∷ ds) (v ∷ vs) = ⊥
Absent (b ∷ bs) (d ∷ ds) (v ∷ vs) = (b ≡ false → v ≡ d) × Absent bs ds vs

pub absent-defaulted : (bs : List Bool) (ds vs : List ℕ) → Absent bs ds vs → Defaulted (from_bits bs) ds vs
absent-defaulted bs [] [] h = tt
absent-defaulted bs [] (v ∷ vs) h = absurd h
absent-defaulted bs (d ∷ ds) [] h = absurd h
absent-defaulted [] (d ∷ ds) (v ∷ vs) h = absurd h
absent-defaulted (b ∷ bs) (d ∷ ds) (v ∷ vs) h =
    (λ e. h.0 (sym (bit-from b bs) ∙ e), subst (λ (x : ℕ). Defaulted x ds vs) (sym (half-from b bs)) (absent-defaulted bs ds vs h.1))

-- ── values that fit ──
pub fit_length : (ns vs : List ℕ) → Fit ns vs → length vs ≡ length ns
fit_length [] [] h = refl
fit_length [] (v ∷ vs) h = absurd h
fit_length (n ∷ ns) [] h = absurd h
fit_length (n ∷ ns) (v ∷ vs) h = ap suc (fit_length ns vs h.1)

pub spelled_same : (k : ℕ) (l : List ℕ) → length l ≡ k → spelled k (λ i. get_or l i 0) ≡ l
spelled_same zero [] e = refl
spelled_same zero (x ∷ l) e = absurd (omega arith)
spelled_same (suc k) [] e = absurd (omega arith)
spelled_same (suc k) (x ∷ l) e = ap (λ (m : List ℕ). x ∷ m) (spelled_same k l (omega arith))

-- ── written, then read ──
number_read : (n v : ℕ) (rest : List ℕ) → v < 2 ^ (8 * n) → take_number n (bytes_of n v ++ rest) ≡ next v rest
number_read n v rest h =
    let l = bytes-length n v in
    let room : leb n (length (bytes_of n v ++ rest)) ≡ true = le-leb n (length (bytes_of n v ++ rest)) (omega (arith, length-append (bytes_of n v) rest)) in
    rw (room, take_at (bytes_of n v) rest n l, drop_at (bytes_of n v) rest n l, number-bytes n v, mod-eq_of_lt h) refl

field-read : (t : Bool) (n v d : ℕ) (rest : List ℕ) → v < 2 ^ (8 * n) → (t ≡ false → v ≡ d) → field t d (take_number n) (bytes_of (cond t n 0) v ++ rest) ≡ next v rest
field-read true n v d rest h e = number_read n v rest h
field-read false n v d rest h e = ap (λ (x : ℕ). next x rest) (sym (e refl))

pub fields_read : (ns : List ℕ) (m : ℕ) (ds vs rest : List ℕ) → Fit ns vs → Defaulted m ds vs → take_fields ns m ds (field_bytes ns m vs ++ rest) ≡ next vs rest
fields_read [] m ds [] rest h k = refl
fields_read [] m ds (v ∷ vs) rest h k = absurd h
fields_read (n ∷ ns) m ds [] rest h k = absurd h
fields_read (n ∷ ns) m [] (v ∷ vs) rest h k = absurd k
fields_read (n ∷ ns) m (d ∷ ds) (v ∷ vs) rest h k =
    ap (take_fields (n ∷ ns) m (d ∷ ds)) (append_assoc (bytes_of (part_size m n) v) (field_bytes ns (m / 2) vs) rest)
    ∙ onward _ _ v (field_bytes ns (m / 2) vs ++ rest) (field-read (bit 0 m) n v d (field_bytes ns (m / 2) vs ++ rest) h.0 k.0)
    ∙ onward _ _ vs rest (fields_read ns (m / 2) ds vs rest h.1 k.1)

-- ── read, then written ──
-- a field that was read
record FieldBack (t : Bool) (n d : ℕ) (l : List ℕ) (v : ℕ) (rest : List ℕ) : Type 0 where
  pub back : Back l (bytes_of (cond t n 0) v) rest
  pub default : t ≡ false → v ≡ d
  pub low : d < 2 ^ (8 * n) → v < 2 ^ (8 * n)

number-back : (n : ℕ) (l : List ℕ) (v : ℕ) (rest : List ℕ) → AllBytes l → take_number n l ≡ next v rest → Back l (bytes_of n v) rest × (v < 2 ^ (8 * n))
number-back n l v rest a e = go (leb n (length l)) refl e
  where
    go : (b : Bool) → leb n (length l) ≡ b → cond b (next (number_from (take n l)) (drop n l)) (stop 11) ≡ next v rest → Back l (bytes_of n v) rest × (v < 2 ^ (8 * n))
    go false h e = absurd (let z : ◌≡◌ {A = ℕ} 0 1 = cc in omega arith)
    go true h e =
        let q = same_next e in
        let k : length (take n l) ≡ n = length-take-le n l (leb-true n (length l) h) in
        let same : bytes_of n (number_from (take n l)) ≡ take n l = subst (λ (x : ℕ). bytes_of x (number_from (take n l)) ≡ take n l) k (bytes-number (take n l) (take-bytes n l a)) in
        let low : number_from (take n l) < 2 ^ (8 * n) = subst (λ (x : ℕ). number_from (take n l) < 2 ^ (8 * x)) k (number-below (take n l) (take-bytes n l a)) in (
          record {
            same = ap₂ (λ (x : ℕ) (y : List ℕ). bytes_of n x ++ y) (sym q.0) (sym q.1) ∙ ap (λ (x : List ℕ). x ++ drop n l) same ∙ take-append-drop n l;
            left = subst AllBytes q.1 (drop-bytes n l a);
          },
          subst (λ (x : ℕ). x < 2 ^ (8 * n)) q.0 low,
        )

field_back : (t : Bool) (n d : ℕ) (l : List ℕ) (v : ℕ) (rest : List ℕ) → AllBytes l → field t d (take_number n) l ≡ next v rest → FieldBack t n d l v rest
field_back true n d l v rest a e =
    let k = number-back n l v rest a e in
    record { back = k.0; default = λ z. absurd (let y : ◌≡◌ {A = ℕ} 0 1 = cc in omega arith); low = λ h. k.1 }
field_back false n d l v rest a e =
    let q = same_next e in
    record { back = record { same = sym q.1; left = subst AllBytes q.1 a }; default = λ z. sym q.0; low = λ h. subst (λ (x : ℕ). x < 2 ^ (8 * n)) q.0 h }

pub record FieldsBack (ns : List ℕ) (m : ℕ) (ds l vs rest : List ℕ) : Type 0 where
  pub back : Back l (field_bytes ns m vs) rest
  pub default : Defaulted m ds vs
  pub fit : Fit ns vs

pub fields_back : (ns : List ℕ) (m : ℕ) (ds l vs rest : List ℕ) → Fit ns ds → AllBytes l → take_fields ns m ds l ≡ next vs rest → FieldsBack ns m ds l vs rest
fields_back [] m [] l vs rest h a e =
    let q = same_next e in
    subst (λ (x : List ℕ). FieldsBack [] m [] l x rest) q.0 (record { back = record { same = sym q.1; left = subst AllBytes q.1 a }; default = tt; fit = tt })
fields_back [] m (d ∷ ds) l vs rest h a e = absurd h
fields_back (n ∷ ns) m [] l vs rest h a e = absurd h
fields_back (n ∷ ns) m (d ∷ ds) l vs rest h a e =
    let s = split (field (bit 0 m) d (take_number n) l) (λ v r. and_then (take_fields ns (m / 2) ds r) (λ ws end. next (v ∷ ws) end)) vs rest e in
    let k = field_back (bit 0 m) n d l s.value s.rest a s.first in
    let t = split (take_fields ns (m / 2) ds s.rest) (λ ws end. next (s.value ∷ ws) end) vs rest s.then in
    let q = same_next t.then in
    let f = fields_back ns (m / 2) ds s.rest t.value t.rest h.1 k.back.left t.first in
    subst (λ (x : List ℕ). FieldsBack (n ∷ ns) m (d ∷ ds) l x rest) q.0 (subst (λ (x : List ℕ). FieldsBack (n ∷ ns) m (d ∷ ds) l (s.value ∷ t.value) x) q.1
    (record { back = back-then (bytes_of (part_size m n) s.value) (field_bytes ns (m / 2) t.value) k.back f.back; default = (k.default, f.default); fit = (k.low h.0, f.fit) }))

-- ── a map that is not the one of its bits ──
abbrev pub differ : Bool → Bool → Bool
differ t b = cond t (not b) b

-- for each bit whether it differs from the map's
abbrev pub Differing : ℕ → List Bool → List Bool → Type 0
Differing m [] [] = Unit {0}
Differing m [] (u ∷ us) = ⊥
Differing m (b ∷ bs) [] = ⊥
Differing m (b ∷ bs) (u ∷ us) = (u ≡ differ (bit 0 m) b) × Differing (m / 2) bs us

same_half : (m k c : ℕ) → c ≡ m % 2 → eqb (m / 2) k ≡ eqb m (c + 2 * k)
same_half m k c e = go (eqb (m / 2) k) refl
  where
    go : (t : Bool) → eqb (m / 2) k ≡ t → t ≡ eqb m (c + 2 * k)
    go true h = sym (eq-eqb m (c + 2 * k) (omega (arith, eqb-true (m / 2) k h)))
    go false h = sym (ne_eqb m (c + 2 * k) (λ z. eqb-false (m / 2) k h (omega arith)))

bit-step : (m k : ℕ) (t b : Bool) → one t ≡ m % 2 → (differ t b || not (eqb (m / 2) k)) ≡ not (eqb m (one b + 2 * k))
bit-step m k true true e = ap not (same_half m k 1 e)
bit-step m k true false e = sym (ap not (ne_eqb m (0 + 2 * k) (λ z. omega arith)))
bit-step m k false true e = sym (ap not (ne_eqb m (1 + 2 * k) (λ z. omega arith)))
bit-step m k false false e = ap not (same_half m k 0 e)

pub differing-map : (m : ℕ) (bs us : List Bool) → m < 2 ^ length bs → Differing m bs us → any_of us ≡ not (eqb m (from_bits bs))
differing-map m [] [] h d = sym (ap not (eq-eqb m 0 (omega arith)))
differing-map m [] (u ∷ us) h d = absurd d
differing-map m (b ∷ bs) [] h d = absurd d
differing-map m (b ∷ bs) (u ∷ us) h d =
    ap₂ ◌||◌ d.0 (differing-map (m / 2) bs us (omega (arith, pow-suc 2 (length bs))) d.1)
    ∙ bit-step m (from_bits bs) (bit 0 m) b (is_one (m % 2) (omega arith))
