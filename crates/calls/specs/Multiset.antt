-- Lists of classes as multisets: how many copies of a class there are, one copy taken out, and when two lists are the same.
-- Assumes nothing.
use Rattle.std.specs.Prelude.{◌≡◌, ℕ, ◌+◌}
use Rattle.std.proofs.Common.{ap}
use mathlib.Core.List.{List, [], ◌∷◌, List-discrete}
use Rattle.std.proofs.Math.Decide.{ℕ_discrete}
use Rattle.lemmas.specs.Sums.{total}
use Rattle.index.specs.Candidates.{Class}

-- two classes are the same or not
pub dec_class : (k x : Class) → Dec (k ≡ x)
dec_class k x = go (ℕ_discrete k.print x.print) (List-discrete ℕ_discrete k.set x.set)
  where
    go : Dec (k.print ≡ x.print) → Dec (k.set ≡ x.set) → Dec (k ≡ x)
    go (yes p) (yes q) = yes (λ i. record { print = p i; set = q i })
    go (no n) d = no (λ e. n (ap (λ (y : Class). y.print) e))
    go (yes p) (no n) = no (λ e. n (ap (λ (y : Class). y.set) e))

-- how many copies of a class the entries have
abbrev pub one_if : {k x : Class} → Dec (k ≡ x) → ℕ
one_if {k} {x} (yes e) = 1
one_if {k} {x} (no n) = 0

unfoldable pub count : Class → List Class → ℕ
count k [] = 0
count k (x ∷ l) = one_if (dec_class k x) + count k l

-- the entries with one copy of a class taken out
abbrev pub without : {k x : Class} → Dec (k ≡ x) → List Class → List Class → List Class
without {k} {x} (yes e) l r = l
without {k} {x} (no n) l r = x ∷ r

unfoldable pub erase : Class → List Class → List Class
erase k [] = []
erase k (x ∷ l) = without (dec_class k x) l (erase k l)

-- the same multiset: every weight of classes has the same sum over both
abbrev pub Same : List Class → List Class → Type 0
Same l m = (w : Class → ℕ) → total w l ≡ total w m
