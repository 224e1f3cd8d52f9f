-- Numbers one after the other: four of them, parts stored in a row, and what is left of a whole.
-- Assumes nothing.
use mathlib.Core.Path.{◌≡◌, refl, sym, ap, ap₂, ◌∙◌}
use mathlib.Core.List.{List, [], ◌∷◌, ◌++◌, append_assoc}
use Prim.Native.Nat.{ℕ, zero, suc, ◌+◌, ◌≤◌, ◌<◌}
use native.Mathlib.Numerals.{add-one}
use native.Mathlib.Omega.{arith}
use lib.ListN.{length, get_or, drop, set, length-append}
use lib.Seq.{sets, sets-eq, length-sets, drop-cons, set_at}
use Rattle.lemmas.specs.Stores.{Put, PutBefore}

pub drop-four : (l : List ℕ) (i : ℕ) → i + 4 ≤ length l → drop i l ≡ get_or l i 0 ∷ get_or l (i + 1) 0 ∷ get_or l (i + 2) 0 ∷ get_or l (i + 3) 0 ∷ drop (i + 4) l
drop-four l i h =
    let e1 : i + 1 ≡ suc i = omega arith in
    let e2 : i + 2 ≡ suc (suc i) = omega arith in
    let e3 : i + 3 ≡ suc (suc (suc i)) = omega arith in
    let e4 : i + 4 ≡ suc (suc (suc (suc i))) = omega arith in
    rw (
      e1,
      e2,
      e3,
      e4,
      drop-cons l i 0 (omega arith),
      drop-cons l (suc i) 0 (omega arith),
      drop-cons l (suc (suc i)) 0 (omega arith),
      drop-cons l (suc (suc (suc i))) 0 (omega arith),
    ) refl

pub sets-append : (l : List ℕ) (i : ℕ) (a b : List ℕ) → sets l i (a ++ b) ≡ sets (sets l i a) (i + length a) b
sets-append l i [] b =
    let e : i + 0 ≡ i = omega arith in
    rw e refl
sets-append l i (x ∷ a) b =
    let e : i + suc (length a) ≡ suc i + length a = omega arith in
    rw e (sets-append (set l i x) (suc i) a b)

pub put-nothing : (o : List ℕ) (at : ℕ) → Put o o at [] at
put-nothing o at = record { output = refl; place = omega arith }

-- two parts from the start on, and what was there behind them
pub put-from-start : {o e f : List ℕ} {q : ℕ} {a : List ℕ} (b : List ℕ) → Put o e 0 a q → f ≡ sets e q b → length (a ++ b) ≤ length o → f ≡ (a ++ b) ++ drop (length (a ++ b)) o
put-from-start {o} {e} {f} {q} {a} b k g h =
    let zero-add : 0 + length (a ++ b) ≡ length (a ++ b) = omega arith in
    g ∙ ap₂ (λ (x : List ℕ) (y : ℕ). sets x y b) k.output k.place ∙ sym (sets-append o 0 a b)
    ∙ sets-eq (a ++ b) o 0 (omega arith) ∙ ap (λ (x : ℕ). (a ++ b) ++ drop x o) zero-add

pub put-length : {o e : List ℕ} {at q : ℕ} {a : List ℕ} → Put o e at a q → length e ≡ length o
put-length {o} {e} {at} {q} {a} k = ap length k.output ∙ length-sets o at a

-- one number more, behind those that were put to the front
pub put-next : (v p : List ℕ) (i x : ℕ) → length v ≡ i → i < length p → set (v ++ drop i p) i x ≡ (v ++ (x ∷ [])) ++ drop (i + 1) p
put-next v p i x e h =
    rw (drop-cons p i 0 h)
    (set_at v (get_or p i 0) (drop (suc i) p) x i e
    ∙ sym (append_assoc v (x ∷ []) (drop (suc i) p))
    ∙ ap (λ (k : ℕ). (v ++ (x ∷ [])) ++ drop k p) (sym (add-one i)))

-- ── stores that leave something behind them to be stored over ──
pub put-before : {n : ℕ} {o e : List ℕ} {at r : ℕ} {a : List ℕ} → Put o e at a r → PutBefore n o e at a r
put-before {n} {o} {e} {at} {r} {a} k = record {
  output = λ more h. ap₂ (λ (l : List ℕ) (j : ℕ). sets l j more) k.output k.place ∙ sym (sets-append o at a more);
  place = k.place;
}

pub before-then : {n : ℕ} {o e f : List ℕ} {at q r : ℕ} {a b : List ℕ} → PutBefore n o e at a q → PutBefore n e f q b r → PutBefore n o f at (a ++ b) r
before-then {n} {o} {e} {f} {at} {q} {r} {a} {b} k m = record {
  output = λ more h. m.output more h ∙ k.output (b ++ more) (omega (arith, length-append b more)) ∙ ap (sets o at) (sym (append_assoc a b more));
  place = omega (arith, k.place, m.place, length-append a b);
}

-- two places stored, and stored over
pub stored-over : (o : List ℕ) (i x y u v : ℕ) → set (set (set (set o i x) (suc i) y) i u) (suc i) v ≡ set (set o i u) (suc i) v
stored-over [] i x y u v = refl
stored-over (a ∷ []) zero x y u v = refl
stored-over (a ∷ b ∷ o) zero x y u v = refl
stored-over (a ∷ o) (suc i) x y u v = ap (λ (l : List ℕ). a ∷ l) (stored-over o i x y u v)

-- what is left to store of a whole
pub record Left (o e : List ℕ) (from at : ℕ) (all rest : List ℕ) : Type 0 where
  pub output : sets e at rest ≡ sets o from all
  pub place : at + length rest ≡ from + length all
  pub long : length e ≡ length o

pub left-all : (o : List ℕ) (from : ℕ) (all : List ℕ) → Left o o from from all all
left-all o from all = record { output = refl; place = refl; long = refl }

module _ {o e : List ℕ} {from at : ℕ} {all rest : List ℕ} (k : Left o e from at all rest) where
  pub left-room : (a more : List ℕ) → rest ≡ a ++ more → from + length all ≤ length o → at + length a ≤ length e
  left-room a more s h = omega (arith, k.place, k.long, ap length s, length-append a more)

  -- a part more, and the rest from there
  pub left-before : {n : ℕ} {f a : List ℕ} {r : ℕ} (more : List ℕ) → PutBefore n e f at a r → rest ≡ a ++ more → n ≤ length more → Left o f from r all more
  left-before {n} {f} {a} {r} more p s h = record {
    output = p.output more h ∙ ap (sets e at) (sym s) ∙ k.output;
    place = omega (arith, p.place, k.place, ap length s, length-append a more);
    long = sym (length-sets f r more) ∙ ap length (p.output more h) ∙ length-sets e at (a ++ more) ∙ k.long;
  }

  pub left-turn : {f a : List ℕ} {r : ℕ} (more : List ℕ) → Put e f at a r → rest ≡ a ++ more → Left o f from r all more
  left-turn more p s = left-before {n = 0} more (put-before p) s (omega arith)

  -- the last part
  pub left-fits : from + length all ≤ length o → at + length rest ≤ length e
  left-fits h = omega (arith, k.place, k.long)

  pub left-last : {f : List ℕ} {r : ℕ} → Put e f at rest r → Put o f from all r
  left-last p = record {
    output = p.output ∙ k.output;
    place = p.place ∙ k.place;
  }

  pub left-none : rest ≡ [] → Put o e from all at
  left-none s = record { output = sym (ap (sets e at) s) ∙ k.output; place = omega (arith, k.place, ap length s) }
