-- Parts of a file: what was read is what the writer would write of it, and the other way round.
-- Assumes nothing.
use mathlib.Core.Path.{◌≡◌, refl, sym, ap, ap₂, ◌∙◌, subst}
use mathlib.Core.Bool.{Bool, true, false, not, ◌||◌}
use mathlib.Core.Option.{Option, none, some}
use mathlib.Core.List.{List, [], ◌∷◌, ◌++◌, append_assoc}
use Prim.Native.Nat.{ℕ, ◌+◌, ◌*◌, ◌/◌, ◌%◌, ◌^◌, ◌<◌}
use native.Mathlib.Omega.{arith}
use borrow.Author.Tests.{eqb-true, lt-leb}
use lib.Dec.{eqb, leb}
use lib.Pow.{pow_pos}
use Rattle.lemmas.proofs.Bools.{or-false-left, or-false-right}
use Rattle.lemmas.specs.Bytes.{AllBytes}
use Rattle.file_form.specs.Bytes.{pair, where?}
use Rattle.file_form.specs.Writer.{filled, cell_bytes}
use Rattle.file_form.specs.Parsed.{Parsed, stop, next, and_then, refuse_if, checked}
use Rattle.file_form.specs.Reader.{take_byte, take_pair, read_cell}

-- ── taking a reading apart ──
-- a reading goes on from a part that gave a value
pub onward : {A B : Type 0} (p : Parsed A) (f : A → List ℕ → Parsed B) (a : A) (rest : List ℕ) → p ≡ next a rest → and_then p f ≡ f a rest
onward p f a rest e = ap (λ (q : Parsed _). and_then q f) e

-- a first part that gave a value, and the rest from there
pub record Split {A B : Type 0} (p : Parsed A) (f : A → List ℕ → Parsed B) (b : B) (end : List ℕ) : Type 0 where
  pub value : A
  pub rest : List ℕ
  pub first : p ≡ next value rest
  pub then : f value rest ≡ next b end

pub split : {A B : Type 0} (p : Parsed A) (f : A → List ℕ → Parsed B) (b : B) (end : List ℕ) → and_then p f ≡ next b end → Split p f b end
split (stop n) f b end e = absurd (let z : ◌≡◌ {A = ℕ} 0 1 = cc in omega arith)
split (next a rest) f b end e = record { value = a; rest = rest; first = refl; then = e }

pub same_next : {A : Type 0} {a b : A} {r t : List ℕ} → next a r ≡ next b t → (a ≡ b) × (r ≡ t)
same_next e = (cc, cc)

pub not-refused : {A : Type 0} (t : Bool) (n : ℕ) (p : Parsed A) (a : A) (end : List ℕ) → refuse_if t n p ≡ next a end → (t ≡ false) × (p ≡ next a end)
not-refused true n p a end e = absurd (let z : ◌≡◌ {A = ℕ} 0 1 = cc in omega arith)
not-refused false n p a end e = (refl, e)

pub not-checked : {A : Type 0} (o : Option ℕ) (p : Parsed A) (a : A) (end : List ℕ) → checked o p ≡ next a end → (o ≡ none) × (p ≡ next a end)
not-checked none p a end e = (refl, e)
not-checked (some n) p a end e = absurd (let z : ◌≡◌ {A = ℕ} 0 1 = cc in omega arith)

-- ── numbers of two bytes ──
pub take-pair : (x : ℕ) (rest : List ℕ) → take_pair (pair x ++ rest) ≡ next x rest
take-pair x rest =
    let e : x % 256 + 256 * (x / 256) ≡ x = omega arith in
    ap (λ (v : ℕ). next v rest) e

-- what was read, as the writer would write it, and that bytes are left
pub record Back (bytes written rest : List ℕ) : Type 0 where
  pub same : written ++ rest ≡ bytes
  pub left : AllBytes rest

pub back-then : {l mid rest : List ℕ} (a b : List ℕ) → Back l a mid → Back mid b rest → Back l (a ++ b) rest
back-then {l} {mid} {rest} a b k m = record { same = append_assoc a b rest ∙ ap (λ (x : List ℕ). a ++ x) m.same ∙ k.same; left = m.left }

pub byte-back : (l : List ℕ) (v : ℕ) (rest : List ℕ) → AllBytes l → take_byte l ≡ next v rest → Back l (v ∷ []) rest
byte-back [] v rest a e = absurd (let z : ◌≡◌ {A = ℕ} 0 1 = cc in omega arith)
byte-back (b ∷ l) v rest a e =
    let x : b ≡ v = cc in
    let r : l ≡ rest = cc in
    record { same = ap₂ ◌∷◌ (sym x) (sym r); left = subst AllBytes r a.1 }

pub pair-back : (l : List ℕ) (v : ℕ) (rest : List ℕ) → AllBytes l → take_pair l ≡ next v rest → Back l (pair v) rest
pair-back [] v rest a e = absurd (let z : ◌≡◌ {A = ℕ} 0 1 = cc in omega arith)
pair-back (x ∷ []) v rest a e = absurd (let z : ◌≡◌ {A = ℕ} 0 1 = cc in omega arith)
pair-back (x ∷ y ∷ l) v rest a e =
    let xy : x + 256 * y ≡ v = cc in
    let r : l ≡ rest = cc in
    let lx : x < 256 = a.0 in
    let low : v % 256 ≡ x = omega arith in
    let high : v / 256 ≡ y = omega arith in
    record { same = ap₂ (λ (p : ℕ) (q : List ℕ). p ∷ q) low (ap₂ ◌∷◌ high (sym r)); left = subst AllBytes r a.1.1 }

-- ── cells ──
pub cell-read : (w v : ℕ) (rest : List ℕ) → v < 2 ^ w → read_cell w (filled v) (cell_bytes v ++ rest) ≡ next v rest
cell-read w v rest h = go (eqb v 0) refl
  where
    go : (b : Bool) → eqb v 0 ≡ b → read_cell w (not b) (where? (not b) (pair v) ++ rest) ≡ next v rest
    go true e = ap (λ (x : ℕ). next x rest) (sym (eqb-true v 0 e))
    go false e =
        ap (λ (p : Parsed ℕ). and_then p (λ x r. refuse_if (eqb x 0 || leb (2 ^ w) x) 14 (next x r))) (take-pair v rest)
        ∙ rw (e, lt-leb (2 ^ w) v h) refl

-- a cell that was read: marked exactly if it is not empty, and below 2^w
pub record CellBack (w : ℕ) (marked : Bool) (v : ℕ) (l rest : List ℕ) : Type 0 where
  pub mark : marked ≡ filled v
  pub small : leb (2 ^ w) v ≡ false
  pub back : Back l (cell_bytes v) rest

pub cell-back : (w : ℕ) (marked : Bool) (l : List ℕ) (v : ℕ) (rest : List ℕ) → AllBytes l → read_cell w marked l ≡ next v rest → CellBack w marked v l rest
cell-back w true l v rest a e =
    let s = split (take_pair l) (λ x r. refuse_if (eqb x 0 || leb (2 ^ w) x) 14 (next x r)) v rest e in
    let n = not-refused (eqb s.value 0 || leb (2 ^ w) s.value) 14 (next s.value s.rest) v rest s.then in
    let same : s.value ≡ v = cc in
    let more : s.rest ≡ rest = cc in
    let zero? : eqb v 0 ≡ false = ap (λ (x : ℕ). eqb x 0) (sym same) ∙ or-false-left (eqb s.value 0) (leb (2 ^ w) s.value) n.0 in
    record {
      mark = sym (ap not zero?);
      small = ap (leb (2 ^ w)) (sym same) ∙ or-false-right (eqb s.value 0) (leb (2 ^ w) s.value) n.0;
      back = subst (λ (b : Bool). Back l (where? (not b) (pair v)) rest) (sym zero?) (pair-back l v rest a (s.first ∙ ap₂ next same more));
    }
cell-back w false l v rest a e =
    let z : 0 ≡ v = cc in
    let r : l ≡ rest = cc in
    subst (λ (x : ℕ). CellBack w false x l rest) z (record { mark = refl; small = lt-leb (2 ^ w) 0 (pow_pos w); back = record { same = sym r; left = subst AllBytes r a } })
