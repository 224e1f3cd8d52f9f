-- The reader: a bucket's number and the filling from the bytes, and its two loops. The cells of the buckets so far, continued by what the
-- rest of the stream gives, are what the whole stream gives.
-- Assumes nothing.
use mathlib.Core.Path.{◌≡◌, refl, sym, ap, ap₂, ◌∙◌, subst}
use mathlib.Core.Bool.{Bool, true, false, not, ◌||◌, or-false, or_assoc}
use mathlib.Core.Logic.{◌≢◌}
use mathlib.Core.Option.{Option, none, some}
use mathlib.Core.List.{List, [], ◌∷◌, ◌++◌, append_assoc, append-nil}
use Prim.Native.Nat.{ℕ, suc, ◌+◌, ◌*◌, ◌-◌, ◌/◌, ◌%◌, ◌^◌, ◌≤◌, ◌<◌}
use native.Mathlib.Decide.{dec_le}
use native.Mathlib.Nat.{add-zero, mul-suc, mul-le-mul, div-one, div-eq_of_lt}
use native.Mathlib.Numerals.{add-one}
use native.Mathlib.Omega.{arith}
use borrow.Author.Tests.{le-leb, lt-leb, eq-eqb, ne_eqb}
use lib.Dec.{eqb, leb, ltb}
use lib.ListN.{length, get_or, take, drop, length-append, length-drop}
use lib.Pow.{shr-shr, field, mod-mod-pow}
use lib.Seq.{get_or-drop, take_all}
use Rattle.lemmas.specs.Bytes.{AllBytes, number_from}
use Rattle.lemmas.proofs.Bytes.{number-drop, number-below}
use Rattle.refusals.specs.Checks.{check, first_met}
use Rattle.refusals.specs.Outcomes.{Answer, refused, given, unless, outcome, keeping}
use Rattle.refusals.proofs.Cursor.{by-check, by-none}
use Rattle.calls.specs.Cells.{filled_count}
use Rattle.packed_form.specs.Writer.{bucket_bits}
use Rattle.packed_form.specs.Reader.{bucket_from, descends, code_checks, onward, unpack, with_count}
use Rattle.calls.proofs.Laws.{filled-laws}
use Rattle.packed_form.proofs.Laws.{packed-laws}
use Rattle.packed.specs.declared.Unpacker.{Unpacker}
use Rattle.packed.specs.Internal.{Allowed, bytes_for, stream_from, code_in, count_in, Passes, CellsRead, CellsCounted, CellsStored, Unpacked}
use Rattle.packed.proofs.Bytes.{allowed, half-bits, half-fits, halved, bucket-within, ahead_within, put_front}

-- ── the number of bucket b, from a word in which it lies ──
pub code_read : {w : ℕ} → Allowed w → (b at skip : ℕ) → 8 * at + skip ≡ bucket_bits w * b → skip ≤ 4
    → (bytes : List ℕ) → AllBytes bytes → {word : ℕ} → word ≡ number_from (drop at bytes) % 2 ^ 64
    → word / 2 ^ skip % 2 ^ (4 * (w - 1)) ≡ code_in w (number_from bytes) b
unfolding bucket_bits
code_read {w} W b at skip place few bytes all {word} e =
    let size : ℕ = 4 * (w - 1) in
    let x : ℕ = number_from bytes in
    let y : ℕ = x / 2 ^ (8 * at) in
    let j : ℕ = 64 - skip in
    let k : ℕ = j - size in
    let s2 : 64 ≡ j + skip = omega arith in
    let s3 : j ≡ k + size = omega (arith, W.high) in
    let f : word ≡ y % 2 ^ (j + skip) = e ∙ ap₂ (λ (z n : ℕ). z % 2 ^ n) (sym (number-drop at bytes all)) s2 in
    ap (λ (z : ℕ). z / 2 ^ skip % 2 ^ size) f
    ∙ ap (λ (z : ℕ). z % 2 ^ size) (field y j skip)
    ∙ ap (λ (n : ℕ). y / 2 ^ skip % 2 ^ n % 2 ^ size) s3
    ∙ mod-mod-pow (y / 2 ^ skip) k size
    ∙ ap (λ (z : ℕ). z % 2 ^ size) (shr-shr x (8 * at) skip ∙ ap (λ (n : ℕ). x / 2 ^ n) place)

-- the places of a pair
pub first-place : (w p : ℕ) → 8 * ((w - 1) * p) + 0 ≡ bucket_bits w * (2 * p)
first-place w p = omega (arith, half-bits w (2 * p), halved w p 0)

pub second-place : (w p : ℕ) → 8 * ((w - 1) * p + (w - 1) / 2) + (w - 1) % 2 * 4 ≡ bucket_bits w * (2 * p + 1)
second-place w p = omega (arith, half-bits w (2 * p + 1), halved w p 1)

-- ── the input ──
-- of the length that m buckets take
pub record Input (w m : ℕ) (bytes : List ℕ) : Type 0 where
  pub width : Allowed w
  pub some : 1 ≤ m
  pub few : m ≤ 65536
  pub size : length bytes ≡ bytes_for w m

pub input-of : (u : Unpacker) → Input u.width.bits u.buckets u.bytes.now
input-of u = record { width = allowed u.width; some = u.some; few = u.few; size = u.size }

module _ {w m : ℕ} {bytes : List ℕ} (I : Input w m bytes) where
  abbrev halves : ℕ
  halves = (w - 1) * m

  length-is : length bytes ≡ (4 * halves + 7) / 8
  length-is = I.size ∙ ap (λ (z : ℕ). (z + 7) / 8) (half-bits w m)

  pub some_bytes : 1 ≤ length bytes
  some_bytes =
      let e : 1 * 1 ≤ halves = mul-le-mul {n₁ = 1} {m₁ = 1} (omega (arith, I.width.low)) I.some in
      omega (arith, length-is)

  pub pair_inside : {p : ℕ} → p < (m - 4) / 2 → (w - 1) * p + (w - 1) / 2 + 8 ≤ length bytes
  pair_inside h = omega (arith, I.size, ahead_within I.width m {many = (m - 4) / 2} (omega arith) h)

  pub bucket_inside : {b : ℕ} → b < m → ((w - 1) * b < 2 ^ 64) × ((w - 1) * b / 2 ≤ length bytes)
  bucket_inside {b} h = (omega (arith, half-fits w b I.width.high (omega (arith, I.few))), omega (arith, I.size, bucket-within w m b h))

  -- ── the filling ──
  module _ (all : AllBytes bytes) where
    abbrev behind : ℕ
    behind = stream_from w (number_from bytes) m

    pub filling-none : halves % 2 ≡ 0 → false ≡ not (eqb behind 0)
    filling-none e =
        let f : 4 * halves ≡ 8 * length bytes = omega (arith, length-is) in
        let z : behind ≡ 0 = ap (λ (n : ℕ). number_from bytes / 2 ^ n) (half-bits w m ∙ f) ∙ div-eq_of_lt (number-below bytes all) in
        sym (ap not (eq-eqb behind 0 z))

    pub filling-last : halves % 2 ≢ 0 → leb 16 (get_or bytes (length bytes - 1) 0) ≡ not (eqb behind 0)
    filling-last n =
        let at : ℕ = length bytes - 1 in
        let v : ℕ = get_or bytes at 0 in
        let f : 4 * halves ≡ 8 * at + 4 = omega (arith, length-is) in
        let one : length (drop at bytes) ≡ 1 = omega (arith, length-drop at bytes, some_bytes) in
        let g : behind ≡ v / 16 =
        ap (λ (k : ℕ). number_from bytes / 2 ^ k) (half-bits w m ∙ f) ∙ sym (shr-shr (number_from bytes) (8 * at) 4)
        ∙ ap (λ (z : ℕ). z / 16) (number-drop at bytes all ∙ last_byte (drop at bytes) one ∙ get_or-drop at bytes 0 0 ∙ ap (λ (k : ℕ). get_or bytes k 0) (add-zero at)) in
        rw g (tested v)
      where
        last_byte : (l : List ℕ) → length l ≡ 1 → number_from l ≡ get_or l 0 0
        last_byte [] e = absurd (omega arith)
        last_byte (v ∷ []) e = omega arith
        last_byte (v ∷ u ∷ l) e = absurd (omega arith)

        tested : (v : ℕ) → leb 16 v ≡ not (eqb (v / 16) 0)
        tested v = elim (dec_le 16 v) [
          | yes h ↦ le-leb 16 v h ∙ sym (ap not (ne_eqb (v / 16) 0 (omega arith)))
          | no h ↦ lt-leb 16 v (omega arith) ∙ sym (ap not (eq-eqb (v / 16) 0 (omega arith)))
        ]

-- ── a bucket's four cells ──
pub four-descend : (l : List ℕ) → length l ≡ 4
    → (ltb (get_or l 1 0) (get_or l 0 0) || ltb (get_or l 2 0) (get_or l 1 0) || ltb (get_or l 3 0) (get_or l 2 0)) ≡ descends l
four-descend (a ∷ b ∷ c ∷ d ∷ []) e = rw (or_assoc, or-false) refl
four-descend [] e = absurd (omega arith)
four-descend (a ∷ []) e = absurd (omega arith)
four-descend (a ∷ b ∷ []) e = absurd (omega arith)
four-descend (a ∷ b ∷ c ∷ []) e = absurd (omega arith)
four-descend (a ∷ b ∷ c ∷ d ∷ x ∷ l) e = absurd (omega arith)

four-length : (w code : ℕ) → length (bucket_from w code) ≡ 4
unfolding bucket_from
four-length w code = refl

-- ── a stream from bucket b on ──
onward-none : (u : Answer (List ℕ)) → onward [] u ≡ u
onward-none (refused n) = refl
onward-none (given l) = refl

onward-twice : (l k : List ℕ) (u : Answer (List ℕ)) → onward (l ++ k) u ≡ onward l (onward k u)
onward-twice l k (refused n) = refl
onward-twice l k (given m) = ap given (append_assoc l k m)

module _ (w m x : ℕ) where
  abbrev from : ℕ → ℕ
  from b = stream_from w x b

  abbrev coming : ℕ → Answer (List ℕ)
  coming b = unpack w (m - b) (from b)

  coming-all : coming 0 ≡ unpack w m x
  coming-all =
      let e : m - 0 ≡ m = omega arith in
      let f : bucket_bits w * 0 ≡ 0 = omega arith in
      ap₂ (unpack w) e (ap (λ (k : ℕ). x / 2 ^ k) f ∙ div-one x)

  from_next : (b : ℕ) → from b / 2 ^ bucket_bits w ≡ from (b + 1)
  from_next b =
      let e : bucket_bits w * (b + 1) ≡ bucket_bits w * b + bucket_bits w = ap (λ (z : ℕ). bucket_bits w * z) (add-one b) ∙ mul-suc (bucket_bits w) b in
      shr-shr x (bucket_bits w * b) (bucket_bits w) ∙ ap (λ (k : ℕ). x / 2 ^ k) (sym e)

  coming-next : (b code : ℕ) → b < m → code ≡ from b % 2 ^ bucket_bits w → coming b ≡ unless (first_met (code_checks w code)) (onward (bucket_from w code) (coming (b + 1)))
  unfolding unpack
  coming-next b code h e =
      let k : m - b ≡ suc (m - (b + 1)) = omega arith in
      ap (λ (n : ℕ). unpack w n (from b)) k
      ∙ ap₂ (λ (c y : ℕ). unless (first_met (code_checks w c)) (onward (bucket_from w c) (unpack w (m - (b + 1)) y))) (sym e) (from_next b)

  coming-none : (b : ℕ) → b ≡ m → coming b ≡ unless (first_met (check 20 (not (eqb (from m) 0)) ∷ [])) (given [])
  unfolding unpack
  coming-none b e =
      let k : m - m ≡ 0 = omega arith in
      ap coming e ∙ ap (λ (n : ℕ). unpack w n (from m)) k

-- the cells of the first b buckets
read_none : (w m x : ℕ) → CellsRead w m x 0 []
read_none w m x = record { upto = omega arith; size = refl; onwards = onward-none (coming w m x 0) ∙ coming-all w m x }

module _ {w m x b : ℕ} {l : List ℕ} (R : CellsRead w m x b l) where
  module _ (more : b < m) {code : ℕ} (here : code ≡ code_in w x b) where
    here-is : (o : Option ℕ) → first_met (code_checks w code) ≡ o → onward l (unless o (onward (bucket_from w code) (coming w m x (b + 1)))) ≡ unpack w m x
    here-is o e = ap (onward l) (sym (coming-next w m x b code more here ∙ ap (λ (o : Option ℕ). unless o (onward (bucket_from w code) (coming w m x (b + 1)))) e)) ∙ R.onwards

    read-refused : (n : ℕ) → first_met (code_checks w code) ≡ some n → refused n ≡ unpack w m x
    read-refused n e = here-is (some n) e

    read_more : first_met (code_checks w code) ≡ none → CellsRead w m x (b + 1) (l ++ bucket_from w code)
    read_more e = record {
      upto = omega arith;
      size = omega (arith, length-append l (bucket_from w code), four-length w code, R.size);
      onwards = onward-twice l (bucket_from w code) (coming w m x (b + 1)) ∙ here-is none e;
    }

  -- past the last bucket the filling decides
  read-end : b ≡ m → (set : Bool) → set ≡ not (eqb (from w m x m) 0) → onward l (unless (first_met (check 20 set ∷ [])) (given [])) ≡ unpack w m x
  read-end all set said = ap (λ (t : Bool). onward l (unless (first_met (check 20 t ∷ [])) (given []))) said ∙ ap (onward l) (sym (coming-none w m x b all)) ∙ R.onwards

  read_all : b ≡ m → false ≡ not (eqb (from w m x m) 0) → given l ≡ unpack w m x
  read_all all said = ap given (sym (append-nil l)) ∙ read-end all false said

-- ── the first pass counts the filled cells of the buckets so far ──
pub counted_none : (w m x : ℕ) → CellsCounted w m x 0 0
counted_none w m x = record { cells = []; read = read_none w m x; counted = refl }

module _ {w m x count b : ℕ} (I : CellsCounted w m x count b) where
  pub counted-fits : m ≤ 65536 → count < 2 ^ 64
  counted-fits few = omega (arith, I.counted, filled-laws.most I.cells, I.read.size, I.read.upto)

  module _ (more : b < m) {code : ℕ} (here : code ≡ code_in w x b) where
    abbrev said : Answer ℕ
    said = unless (first_met (code_checks w code)) (given (filled_count (bucket_from w code)))

    pub counted-refused : (n : ℕ) → refused n ≡ said → refused n ≡ count_in (unpack w m x)
    counted-refused n e = ap count_in (read-refused I.read more here n (by-check (first_met (code_checks w code)) _ e))

    module _ (n : ℕ) (e : given n ≡ said) where
      passed : (first_met (code_checks w code) ≡ none) × (n ≡ filled_count (bucket_from w code))
      passed = by-none (first_met (code_checks w code)) e

      pub counted-more : CellsCounted w m x (count + n) (b + 1)
      counted-more = record {
        cells = I.cells ++ bucket_from w code;
        read = read_more I.read more here passed.0;
        counted = omega (arith, I.counted, passed.1, filled-laws.append I.cells (bucket_from w code));
      }

  module _ (all : m ≤ b) {set : Bool} (said : set ≡ not (eqb (from w m x m) 0)) where
    done : b ≡ m
    done = omega (arith, I.read.upto)

    pub counted-filling : set ≡ true → refused 20 ≡ count_in (unpack w m x)
    counted-filling e = ap count_in (read-end I.read done true (sym e ∙ said))

    pub counted-all : set ≡ false → given count ≡ count_in (unpack w m x)
    counted-all e = ap given I.counted ∙ ap count_in (read_all I.read done (sym e ∙ said))

-- ── the second pass stores the cells of a stream that passes ──
pub stored-none : (w m x : ℕ) (table : List ℕ) → length table ≡ 4 * m → CellsStored w m x table 0
stored-none w m x table e = record { size = e; read = read_none w m x }

module _ {w m x : ℕ} {table : List ℕ} {b : ℕ} (passes : Passes (unpack w m x)) (I : CellsStored w m x table b) where
  module _ (more : b < m) {code : ℕ} (here : code ≡ code_in w x b) where
    stored-passes : first_met (code_checks w code) ≡ none
    stored-passes = go (first_met (code_checks w code)) refl
      where
        go : (o : Option ℕ) → first_met (code_checks w code) ≡ o → first_met (code_checks w code) ≡ none
        go none e = e
        go (some n) e = absurd (subst Passes (sym (read-refused I.read more here n e)) passes)

    pub stored_row : code % 4096 < 3876
    stored_row = (packed-laws.bucket_passed w code stored-passes).0

    pub stored_more : (at : ℕ) {next : List ℕ} → at ≡ 4 * b → next ≡ take at table ++ (bucket_from w code ++ drop (at + 4) table) → length next ≡ length table
        → CellsStored w m x next (b + 1)
    stored_more at {next} place wrote kept =
        let k : 4 * (b + 1) ≡ at + 4 = omega arith in
        let e : take (4 * (b + 1)) next ≡ take (4 * b) table ++ bucket_from w code =
        rw (k, ← place) (put_front table (bucket_from w code) (drop (at + 4) table) next at 4 (four-length w code) (omega (arith, I.size)) wrote) in
        record {
          size = kept ∙ I.size;
          read = subst (CellsRead w m x (b + 1)) (sym e) (read_more I.read more here stored-passes);
        }

  pub stored-all : m ≤ b → given table ≡ unpack w m x
  stored-all all = ap given (sym (take_all (4 * b) table (omega (arith, I.size)))) ∙ go (not (eqb (from w m x m) 0)) refl
    where
      end : b ≡ m
      end = omega (arith, I.read.upto)

      go : (t : Bool) → t ≡ not (eqb (from w m x m) 0) → given (take (4 * b) table) ≡ unpack w m x
      go false e = read_all I.read end e
      go true e = absurd (subst Passes (sym (read-end I.read end true e)) passes)

-- ── both passes, by what the first answers ──
module _ (u : Answer (List ℕ)) (n : ℕ) where
  pub unpack-stops : (t : List ℕ) → refused n ≡ count_in u → Unpacked u t (refused n) t
  unpack-stops t e = go u e
    where
      go : (u : Answer (List ℕ)) → refused n ≡ count_in u → Unpacked u t (refused n) t
      go (refused k) f = ap (λ (x : Answer ℕ). outcome x t) f
      go (given l) f = cc

  pub unpack_passes : given n ≡ count_in u → Passes u
  unpack_passes e = go u e
    where
      go : (u : Answer (List ℕ)) → given n ≡ count_in u → Passes u
      go (refused k) f = cc
      go (given l) f = tt

  pub unpack-stores : (t : List ℕ) {o : List ℕ} → given n ≡ count_in u → given o ≡ u → Unpacked u t (given n) o
  unpack-stores t {o} e f = ap (λ (x : Answer ℕ). outcome x o) (e ∙ ap count_in (sym f)) ∙ ap (λ (v : Answer (List ℕ)). keeping t (with_count v)) f
