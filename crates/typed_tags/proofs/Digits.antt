-- Tags as they are typed: digits pair by pair, the output byte by byte, and what the call leaves.
-- Assumes nothing.
use mathlib.Core.Path.{◌≡◌, refl, sym, ap, ◌∙◌}
use mathlib.Core.Bool.{Bool, true, false, cond, ◌&&◌, and-false, and-eq-true_iff}
use mathlib.Core.List.{List, [], ◌∷◌, ◌++◌, append_assoc}
use mathlib.Core.Option.{none, some}
use Prim.Native.Nat.{ℕ, zero, suc, ◌+◌, ◌*◌, ◌/◌, ◌≤◌, ◌<◌}
use native.Mathlib.Numerals.{add-one}
use native.Mathlib.Omega.{arith}
use borrow.Author.Tests.{leb-true}
use lib.Dec.{eqb}
use lib.ListN.{length, get_or, take, drop, set}
use Rattle.std.proofs.lemmas.List.{length-append, length-drop, get_or-drop, get_or_append_left, drop-drop}
use lib.Seq.{drop-append_seam, length-take-le, take_all, take-suc, drop-cons, set_at}
use Rattle.digits.specs.Digits.{hex_value, hex_digit}
use Rattle.typed_tags.specs.Tags.{also, hex_bytes}
use Rattle.typed_tags.specs.Internal.{hex_passes, hex_pairs}
use Rattle.std.specs.Prelude.{◌%◌}
use Rattle.std.specs.List.{list_all}

-- ── digits that pass, and those that do not ──
pair : (a b : ℕ) (l : List ℕ) → hex_passes (a ∷ b ∷ l) ≡ ((hex_digit a && hex_digit b) && hex_passes l)
pair a b l = go (hex_digit a) (hex_digit b)
  where
    more : eqb (suc (suc (length l)) % 2) 0 ≡ eqb (length l % 2) 0
    more = ap (λ (k : ℕ). eqb k 0) (omega arith)

    go : (p q : Bool) → (eqb (suc (suc (length l)) % 2) 0 && (p && (q && list_all hex_digit l))) ≡ ((p && q) && hex_passes l)
    go true true = ap (λ (t : Bool). t && list_all hex_digit l) more
    go true false = and-false _
    go false q = and-false _

pub bytes-of : (l : List ℕ) → hex_bytes l ≡ cond (hex_passes l) (some (hex_pairs l)) none
unfolding hex_bytes hex_pairs
bytes-of [] = refl
bytes-of (a ∷ []) = refl
bytes-of (a ∷ b ∷ l) = rw (pair a b l, bytes-of l) (go (hex_digit a && hex_digit b) (hex_passes l) (16 * hex_value a + hex_value b) (hex_pairs l))
  where
    go : (p q : Bool) (n : ℕ) (m : List ℕ) → also p n (cond q (some m) none) ≡ cond (p && q) (some (n ∷ m)) none
    go true true n m = refl
    go true false n m = refl
    go false q n m = refl

-- ── the pairs of digits that pass ──
pub pairs-length : (l : List ℕ) → length (hex_pairs l) ≡ length l / 2
unfolding hex_pairs
pairs-length [] = refl
pairs-length (a ∷ []) = refl
pairs-length (a ∷ b ∷ l) = omega (arith, pairs-length l)

-- two digits, and the byte that they stand for
abbrev pub Stands : ℕ → ℕ → ℕ → Type 0
Stands high low b = (hex_value high ≤ 15) × (hex_value low ≤ 15) × (16 * hex_value high + hex_value low ≡ b)

parts : (a b : ℕ) (l : List ℕ) → hex_passes (a ∷ b ∷ l) ≡ true → (hex_value a ≤ 15) × (hex_value b ≤ 15) × (hex_passes l ≡ true)
parts a b l e =
    let all = (and-eq-true_iff (hex_digit a && hex_digit b) (hex_passes l)).0 (sym (pair a b l) ∙ e) in
    let both = (and-eq-true_iff (hex_digit a) (hex_digit b)).0 all.0 in
    (leb-true (hex_value a) 15 both.0, leb-true (hex_value b) 15 both.1, all.1)

pair-at : (l : List ℕ) (i : ℕ) → hex_passes l ≡ true → i < length l / 2 → Stands (get_or l (2 * i) 0) (get_or l (2 * i + 1) 0) (get_or (hex_pairs l) i 0)
unfolding hex_pairs
pair-at [] i e h = absurd (omega arith)
pair-at (a ∷ []) i e h = absurd (omega arith)
pair-at (a ∷ b ∷ l) zero e h = let p = parts a b l e in (p.0, p.1, refl)
pair-at (a ∷ b ∷ l) (suc i) e h =
    let x : 2 * suc i ≡ suc (suc (2 * i)) = omega arith in
    let y : 2 * suc i + 1 ≡ suc (suc (2 * i + 1)) = omega arith in
    rw (y, x) (pair-at l i (parts a b l e).2 (omega arith))

-- the next two digits, and what is left after them
pub next-pair : (l p r : List ℕ) (i : ℕ) → hex_passes l ≡ true → length p ≡ 2 → drop (2 * i) l ≡ p ++ r
    → (i < length l / 2) × (r ≡ drop (2 * (i + 1)) l) × Stands (get_or p 0 0) (get_or p 1 0) (get_or (hex_pairs l) i 0)
next-pair l p r i passes n e = (within, left, rw (first, second) (pair-at l i passes within))
  where
    within : i < length l / 2
    within = omega (arith, length-drop (2 * i) l, length-append p r, ap length e)

    left : r ≡ drop (2 * (i + 1)) l
    left =
        sym (ap (drop 2) e ∙ ap (λ (k : ℕ). drop k (p ++ r)) (sym n) ∙ drop-append_seam p r)
        ∙ drop-drop 2 (2 * i) l ∙ ap (λ (k : ℕ). drop k l) (omega arith)

    there : (k : ℕ) → k < 2 → get_or p k 0 ≡ get_or l (2 * i + k) 0
    there k h = sym (get_or_append_left p r 0 k (omega arith)) ∙ sym (ap (λ (m : List ℕ). get_or m k 0) e) ∙ get_or-drop (2 * i) l k 0

    first : get_or p 0 0 ≡ get_or l (2 * i) 0
    first = there 0 (omega arith) ∙ ap (λ (k : ℕ). get_or l k 0) (omega arith)

    second : get_or p 1 0 ≡ get_or l (2 * i + 1) 0
    second = there 1 (omega arith)

-- ── bytes to the start of the output ──
module _ (t out : List ℕ) (i : ℕ) where
  pub laid_next : i < length t → i < length out → set (take i t ++ drop i out) i (get_or t i 0) ≡ take (i + 1) t ++ drop (i + 1) out
  laid_next h k =
      rw (add-one, drop-cons out i 0 k, take-suc t i 0 h)
      (set_at (take i t) (get_or out i 0) (drop (suc i) out) (get_or t i 0) i (length-take-le i t (omega arith))
      ∙ sym (append_assoc (take i t) (get_or t i 0 ∷ []) (drop (suc i) out)))

  pub laid-all : i ≡ length t → take i t ++ drop i out ≡ t ++ drop i out
  laid-all e = ap (λ (s : List ℕ). s ++ drop i out) (take_all i t (omega arith))

-- what a tag in digits goes by
pub ruleset decoding = (bytes-of, pairs-length)
