-- The pass over the cells: how many are filled, and the largest.
-- Assumes nothing.
use mathlib.Core.Path.{◌≡◌, refl, sym, ap, ◌∙◌}
use mathlib.Core.Bool.{Bool, true, false, cond, not, ◌||◌, or_assoc}
use mathlib.Core.List.{List, [], ◌∷◌, ◌++◌}
use Prim.Native.Nat.{ℕ, suc, ◌+◌, ◌≤◌, max}
use native.Mathlib.Omega.{arith}
use mir.Val.{bool_byte}
use borrow.Author.Tests.{lt-leb}
use lib.Dec.{eqb, leb}
use Rattle.std.specs.Ordering.{nat_cmp, ord_max}
use Rattle.std.proofs.lemmas.Grind.{common_steps}
use lib.ListN.{length}
use Rattle.lemmas.proofs.Numbers.{max-wide}
use Rattle.calls.specs.Cells.{filled_count}
use Rattle.calls.specs.WrittenForms.{any_from}
use Rattle.file_length.specs.Internal.{Seen}
use mathlib.Core.Option.{none}
use Prim.Native.Nat.{◌*◌}
use Rattle.refusals.specs.Checks.{first_met}
use Rattle.index.specs.declared.Settings.{Settings}
use Rattle.index.proofs.Laws.{laws}
use Rattle.calls.specs.Calls.{table_checks}
use Rattle.calls.proofs.Laws.{table-check-laws}
use Rattle.file_form.specs.Writer.{header, file_of}
use Rattle.file_form.proofs.Laws.{header-laws}
use Rattle.file_form.proofs.Sizes.{size-laws, file-length-laws}

larger : (a b : ℕ) → ord_max nat_cmp a b ≡ max a b
larger a b = grind (arith, common_steps)

-- ── two parts of the cells ──
any-parts : (n : ℕ) (a b : List ℕ) → any_from n (a ++ b) ≡ (any_from n a || any_from n b)
any-parts n [] b = refl
any-parts n (v ∷ a) b = ap (λ (t : Bool). leb n v || t) (any-parts n a b) ∙ sym (or_assoc (leb n v) (any_from n a) (any_from n b))

count-parts : (a b : List ℕ) → filled_count (a ++ b) ≡ filled_count a + filled_count b
count-parts [] b = omega arith
count-parts (v ∷ a) b = omega (arith, count-parts a b)

pub count-few : (a : List ℕ) → filled_count a ≤ length a
count-few [] = omega arith
count-few (v ∷ a) = go (eqb v 0) (count-few a)
  where
    go : (t : Bool) → filled_count a ≤ length a → cond t 0 1 + filled_count a ≤ suc (length a)
    go true h = omega arith
    go false h = omega arith

-- what has been seen of the cells before these
pub record SeenBefore (all : List ℕ) (top filled : ℕ) (rest : List ℕ) : Type 0 where
  pub top_is : (n : ℕ) → 1 ≤ n → (leb n top || any_from n rest) ≡ any_from n all
  pub filled_is : filled + filled_count rest ≡ filled_count all

pub seen-none : (c : List ℕ) → SeenBefore c 0 0 c
seen-none c = record { top_is = λ n h. ap (λ (t : Bool). t || any_from n c) (lt-leb n 0 h); filled_is = omega arith }

pub seen-all : {c rest : List ℕ} {top filled : ℕ} → SeenBefore c top filled rest → rest ≡ [] → Seen c (top, filled)
seen-all {c} {rest} {top} {filled} S e = record {
  top = λ n h. sym (S.top_is n h) ∙ ap (λ (l : List ℕ). leb n top || any_from n l) e ∙ or-none (leb n top);
  filled = omega (arith, S.filled_is, ap filled_count e);
}
  where
    or-none : (t : Bool) → (t || false) ≡ t
    or-none true = refl
    or-none false = refl

module _ {all : List ℕ} {top filled : ℕ} {rest : List ℕ} (S : SeenBefore all top filled rest) where
  pub seen-more : (a b : List ℕ) {high few t n : ℕ} → rest ≡ a ++ b → Seen a (high, few) → t ≡ ord_max nat_cmp top high → n ≡ few → SeenBefore all t (filled + n) b
  seen-more a b {high} {few} {t} {n} e A q r = record {
    top_is = λ k h. ap (λ (x : ℕ). leb k x || any_from k b) (q ∙ larger top high)
        ∙ ap (λ (x : Bool). x || any_from k b) (max-wide k top high ∙ ap (λ (x : Bool). leb k top || x) (sym (A.top k h)))
        ∙ or_assoc (leb k top) (any_from k a) (any_from k b)
        ∙ ap (λ (x : Bool). leb k top || x) (sym (ap (any_from k) e ∙ any-parts k a b))
        ∙ S.top_is k h;
    filled_is = omega (arith, A.filled, ap filled_count e, count-parts a b, S.filled_is);
  }

-- one cell
pub seen-one : (v : ℕ) → Seen (v ∷ []) (v, bool_byte (not (eqb v 0)))
seen-one v = record { top = λ n h. or-none (leb n v); filled = go (eqb v 0) }
  where
    or-none : (t : Bool) → (t || false) ≡ t
    or-none true = refl
    or-none false = refl

    go : (t : Bool) → bool_byte (not t) ≡ cond t 0 1 + 0
    go true = omega arith
    go false = omega arith

pub bit_small : {n : ℕ} (t : Bool) → n ≡ bool_byte t → n ≤ 1
bit_small {n} t e = omega (arith, e, go t)
  where
    go : (b : Bool) → bool_byte b ≤ 1
    go true = omega arith
    go false = omega arith

pub length-none : (l : List ℕ) → length l ≡ 0 → l ≡ []
length-none [] e = refl
length-none (x ∷ l) e = absurd (omega arith)

-- ── the whole file ──
pub record Counted (s : Settings) (c : List ℕ) : Type 0 where
  pub parts : length (header s) + s.buckets + 2 * filled_count c ≡ length (file_of s c)
  pub most : length (file_of s c) ≤ 16 + 9 * 65536

pub counted : (s : Settings) (c : List ℕ) → first_met (table_checks s c) ≡ none → Counted s c
counted s c e =
    let S = (table-check-laws s c).sound e in
    let n = size-laws.body s.buckets c S.size in
    let F = file-length-laws s c in
    record { parts = omega (arith, n, F.parts); most = omega (arith, n, F.parts, header-laws.most s, count-few c, S.size, (laws s S.settings).few_buckets) }
