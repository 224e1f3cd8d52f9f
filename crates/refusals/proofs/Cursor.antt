-- A cursor over a list of checks, as code goes through it: a check that is met gives its number, one that is passed goes on to the next.
-- Assumes nothing.
use mathlib.Core.Path.{◌≡◌, refl, sym, ap, ◌∙◌}
use mathlib.Core.Logic.{◌≢◌}
use mathlib.Core.Bool.{Bool, true, false, cond}
use mathlib.Core.Option.{Option, none, some}
use mathlib.Core.List.{List, [], ◌∷◌, ◌++◌}
use Prim.Native.Nat.{ℕ}
use native.Mathlib.Omega.{arith}
use Rattle.refusals.specs.Checks.{Check, first_met, number_of, Numbered}
use Rattle.refusals.specs.Outcomes.{Answer, refused, given, unless, Done, outcome, keeping}
use Rattle.refusals.specs.Laws.{Reached}

-- ── one check ──
pub start : (l : List Check) → Reached l l
start l = record { decides = refl }

pub met : {all left : List Check} {c : Check} → Reached all (c ∷ left) → c.met ≡ true → first_met all ≡ some c.number
met {all} {left} {c} r e = r.decides ∙ ap (λ (b : Bool). cond b (some c.number) (first_met left)) e

pub passed : {all left : List Check} {c : Check} → Reached all (c ∷ left) → c.met ≡ false → Reached all left
passed {all} {left} {c} r e = record { decides = r.decides ∙ ap (λ (b : Bool). cond b (some c.number) (first_met left)) e }

pub none_left : {all : List Check} → Reached all [] → first_met all ≡ none
none_left r = r.decides

-- ── several checks, which another function makes ──
-- the first of two lists that has something
abbrev or_else : Option ℕ → Option ℕ → Option ℕ
or_else none o = o
or_else (some n) o = some n

joined : (l m : List Check) → first_met (l ++ m) ≡ or_else (first_met l) (first_met m)
joined [] m = refl
joined (c ∷ l) m = go c.met (joined l m)
  where
    go : (b : Bool) → first_met (l ++ m) ≡ or_else (first_met l) (first_met m) → cond b (some c.number) (first_met (l ++ m)) ≡ or_else (cond b (some c.number) (first_met l)) (first_met m)
    go true e = refl
    go false e = e

module _ (l left : List Check) where
  pub all-met : {all : List Check} {n : ℕ} → Reached all (l ++ left) → first_met l ≡ some n → first_met all ≡ some n
  all-met r e = r.decides ∙ joined l left ∙ ap (λ (o : Option ℕ). or_else o (first_met left)) e

  pub all-passed : {all : List Check} → Reached all (l ++ left) → first_met l ≡ none → Reached all left
  all-passed r e = record { decides = r.decides ∙ joined l left ∙ ap (λ (o : Option ℕ). or_else o (first_met left)) e }

  -- and back: what a whole list that is passed tells of its parts
  pub parts-passed : first_met (l ++ left) ≡ none → (first_met l ≡ none) × (first_met left ≡ none)
  parts-passed e = go (first_met l) (sym (joined l left) ∙ e)
    where
      go : (o : Option ℕ) → or_else o (first_met left) ≡ none → (o ≡ none) × (first_met left ≡ none)
      go none f = (refl, f)
      go (some n) f = absurd (let z : ◌≡◌ {A = ℕ} 0 1 = cc in omega arith)

pub not-met : (c : Check) (left : List Check) → first_met (c ∷ left) ≡ none → (c.met ≡ false) × (first_met left ≡ none)
not-met c left e = go c.met e
  where
    go : (b : Bool) → cond b (some c.number) (first_met left) ≡ none → (b ≡ false) × (first_met left ≡ none)
    go true f = absurd (let z : ◌≡◌ {A = ℕ} 0 1 = cc in omega arith)
    go false f = (refl, f)

-- ── the number that a checking call answers ──
pub number-some : (o : Option ℕ) → number_of o ≢ 0 → o ≡ some (number_of o)
number-some none h = absurd (h refl)
number-some (some n) h = refl

numbered-none : (l : List Check) → Numbered l → number_of (first_met l) ≡ 0 → first_met l ≡ none
numbered-none [] N e = refl
numbered-none (c ∷ l) N e = go c.met e (numbered-none l N.1)
  where
    go : (b : Bool) → number_of (cond b (some c.number) (first_met l)) ≡ 0 → (number_of (first_met l) ≡ 0 → first_met l ≡ none) → cond b (some c.number) (first_met l) ≡ none
    go true f r = absurd (omega (arith, N.0))
    go false f r = r f

pub numbered-both : (l m : List Check) → Numbered l → Numbered m → Numbered (l ++ m)
numbered-both [] m N M = M
numbered-both (c ∷ l) m N M = (N.0, numbered-both l m N.1 M)

module _ {n : ℕ} (l : List Check) (e : n ≡ number_of (first_met l)) where
  pub number-met : n ≢ 0 → first_met l ≡ some n
  number-met h = number-some (first_met l) (λ z. h (e ∙ z)) ∙ ap some (sym e)

  pub number_passed : Numbered l → n ≡ 0 → first_met l ≡ none
  number_passed N h = numbered-none l N (sym e ∙ h)

-- ── what the call comes to ──
module _ {A : Type 0} {o : Option ℕ} (a : Answer A) where
  pub is-refused : {n : ℕ} → o ≡ some n → refused n ≡ unless o a
  is-refused e = sym (ap (λ (x : Option ℕ). unless x a) e)

  pub goes_on : o ≡ none → a ≡ unless o a
  goes_on e = sym (ap (λ (x : Option ℕ). unless x a) e)

module _ {A : Type 0} (o : Option ℕ) where
  -- and back: what the answer tells of the checks
  pub by-check : {k : ℕ} (a : A) → refused k ≡ unless o (given a) → o ≡ some k
  by-check {k = k} a e = go o e
    where
      go : (o : Option ℕ) → refused k ≡ unless o (given a) → o ≡ some k
      go none f = absurd (let z : ◌≡◌ {A = ℕ} 0 1 = cc in omega arith)
      go (some n) f = cc

  pub by-none : {a b : A} → given b ≡ unless o (given a) → (o ≡ none) × (b ≡ a)
  by-none {a} {b} e = go o e
    where
      go : (o : Option ℕ) → given b ≡ unless o (given a) → (o ≡ none) × (b ≡ a)
      go none f = (refl, cc)
      go (some n) f = absurd (let z : ◌≡◌ {A = ℕ} 0 1 = cc in omega arith)

module _ {A B : Type 0} {o : Option ℕ} (b : B) (a : Answer (Done A B)) where
  pub call-refused : {n : ℕ} → o ≡ some n → outcome (refused n) b ≡ keeping b (unless o a)
  call-refused e = sym (ap (λ (x : Option ℕ). keeping b (unless x a)) e)

  pub call-goes-on : o ≡ none → keeping b a ≡ keeping b (unless o a)
  call-goes-on e = sym (ap (λ (x : Option ℕ). keeping b (unless x a)) e)

-- ── a call by its list of checks: those that another function made, or one ──
module _ {A B : Type 0} (b : B) (a : Answer (Done A B)) where
  pub number-refuses : (l more : List Check) {n : ℕ} → n ≡ number_of (first_met l) → n ≢ 0 → outcome (refused n) b ≡ keeping b (unless (first_met (l ++ more)) a)
  number-refuses l more e h = call-refused b a (all-met l more (start (l ++ more)) (number-met l e h))
