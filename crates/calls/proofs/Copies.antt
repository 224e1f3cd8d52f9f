-- The copies in a candidate set: counted bucket by bucket they are the entries of the class.
-- Assumes nothing.
use mathlib.Core.Path.{◌≡◌, sym, ap, ◌∙◌, subst}
use mathlib.Core.Logic.{◌⊎◌, inl, inr, ◌≢◌}
use mathlib.Core.Bool.{cond}
use mathlib.Core.Option.{none}
use mathlib.Core.List.{List}
use Prim.Native.Nat.{ℕ, ◌+◌, ◌*◌, ◌/◌, ◌≤◌, ◌<◌}
use native.Mathlib.Omega.{arith}
use lib.Dec.{eqb}
use Rattle.lemmas.specs.Count.{hit, occ, ◌among◌}
use Rattle.lemmas.specs.Sums.{sum_to, total, total_once}
use Rattle.lemmas.proofs.Count.{zero-cases, hit-cases, hit-of, hit-ne}
use Rattle.lemmas.proofs.Sums.{sum-eq, sum-zero, sum-by-fours, once-in, once-out, once-alike, once-total}
use Rattle.index.specs.Candidates.{candidates, candidate_set, Class, class_at}
use Rattle.index.specs.Laws.{Laws}
use Rattle.index.specs.declared.Settings.{Settings}
use Rattle.calls.specs.Cells.{cell, scan, copies_at}
use Rattle.calls.specs.Calls.{copies_in}
use Rattle.calls.specs.Demand.{entries}
use Rattle.calls.specs.Laws.{Finds}
use Rattle.calls.proofs.Classes.{one_at, one-refl, one-cases, class_same, own-class}
use Rattle.calls.proofs.Weights.{weight_at, weight-empty, weight-filled, total-entries}

module _ (s : Settings) (L : Laws s) (c : List ℕ) (p b : ℕ) (l : b < s.buckets) where
  abbrev set : List ℕ
  set = candidate_set s p b

  -- what the set counts, the list of candidates counts with each bucket once
  once-set : total_once s.buckets (copies_at c p) set ≡ copies_in s c p b
  unfolding copies_in
  once-set = omega (arith, once-total s.buckets (copies_at c p) set (L.ascends p b) (λ x h. L.below p b x l ((L.members p b x l).0 h)))

  pub listed_once : total_once s.buckets (copies_at c p) (candidates s p b) ≡ copies_in s c p b
  listed_once = sym (once-alike s.buckets (copies_at c p) set (candidates s p b) (λ x. L.members p b x l)) ∙ once-set

  -- ── cell by cell ──
  abbrev term : ℕ → ℕ
  term i = cond (eqb (occ (i / 4) set) 0) 0 (hit (cell c i) p)

  four-terms : (x : ℕ) → term (4 * x) + term (4 * x + 1) + term (4 * x + 2) + term (4 * x + 3) ≡ cond (eqb (occ x set) 0) 0 (copies_at c p x)
  unfolding scan
  four-terms x = elim (zero-cases (occ x set)) [
    | inl e ↦ omega (arith, out (4 * x) (omega arith) e, out (4 * x + 1) (omega arith) e, out (4 * x + 2) (omega arith) e, out (4 * x + 3) (omega arith) e, once-out (occ x set) (copies_at c p x) e)
    | inr g ↦ omega (arith, into (4 * x) (omega arith) g, into (4 * x + 1) (omega arith) g, into (4 * x + 2) (omega arith) g, into (4 * x + 3) (omega arith) g, once-in (occ x set) (copies_at c p x) g)
  ]
    where
      out : (i : ℕ) → i / 4 ≡ x → occ x set ≡ 0 → term i ≡ 0
      out i d e = once-out (occ (i / 4) set) (hit (cell c i) p) (ap (λ (y : ℕ). occ y set) d ∙ e)

      into : (i : ℕ) → i / 4 ≡ x → 1 ≤ occ x set → term i ≡ hit (cell c i) p
      into i d g = once-in (occ (i / 4) set) (hit (cell c i) p) (omega (arith, ap (λ (y : ℕ). occ y set) d))

  copies-cells : sum_to (4 * s.buckets) term ≡ copies_in s c p b
  unfolding total_once
  copies-cells = sum-by-fours s.buckets term ∙ sum-eq s.buckets _ _ (λ x k. four-terms x) ∙ once-set

  -- no copies where no candidate has the fingerprint
  pub no_copies : Finds c p (candidates s p b) none → copies_in s c p b ≡ 0
  no_copies f = sym copies-cells ∙ sum-zero (4 * s.buckets) term (λ i m. elim (zero-cases (occ (i / 4) set)) [
    | inl o ↦ once-out (occ (i / 4) set) (hit (cell c i) p) o
    | inr g ↦ once-in (occ (i / 4) set) (hit (cell c i) p) g ∙ elim (hit-cases (cell c i) p) [ inl e ↦ absurd (f i ((L.members p b (i / 4) l).0 g) e) | inr z ↦ z ]
  ])

  -- ── an entry of the class is a cell of the set with the fingerprint ──
  module _ (n : p ≢ 0) where
    abbrev k : Class
    k = class_at s p b

    weighs : (i : ℕ) → i < 4 * s.buckets → weight_at s (one_at k) i (cell c i) ≡ term i
    weighs i m = go (hit-cases (cell c i) p) (zero-cases (occ (i / 4) set))
      where
        -- the bucket of an entry of the class is in its set
        own : k ≡ class_at s (cell c i) (i / 4) → (i / 4) among set
        own q = subst (λ (y : List ℕ). (i / 4) among y) (L.class_set p b) (subst (λ (x : Class). (i / 4) among x.set) (sym q) (own-class s L (cell c i) (i / 4) (omega arith)))

        other : k ≢ class_at s (cell c i) (i / 4) → weight_at s (one_at k) i (cell c i) ≡ 0
        other q = elim (zero-cases (cell c i)) [
          | inl e ↦ weight-empty s (one_at k) i (cell c i) e
          | inr g ↦ weight-filled s (one_at k) i (cell c i) (omega arith) ∙ elim (one-cases k (class_at s (cell c i) (i / 4))) [ inl e ↦ absurd (q e) | inr z ↦ z ]
        ]

        go : (cell c i ≡ p) ⊎ (hit (cell c i) p ≡ 0) → (occ (i / 4) set ≡ 0) ⊎ (1 ≤ occ (i / 4) set) → weight_at s (one_at k) i (cell c i) ≡ term i
        go (inl e) (inr g) = omega (
          arith,
          ap (weight_at s (one_at k) i) e,
          weight-filled s (one_at k) i p n,
          ap (one_at k) (class_same s L p b (i / 4) l ((L.members p b (i / 4) l).0 g)),
          one-refl k,
          once-in (occ (i / 4) set) (hit (cell c i) p) g,
          hit-of (cell c i) p e,
        )
        go (inl e) (inl o) = other (λ q. omega (arith, own q)) ∙ sym (once-out (occ (i / 4) set) (hit (cell c i) p) o)
        go (inr z) (inl o) = other (λ q. omega (arith, own q)) ∙ sym (once-out (occ (i / 4) set) (hit (cell c i) p) o)
        go (inr z) (inr g) = other (λ q. hit-ne (cell c i) p z (sym (sym (L.class_print p b) ∙ ap (λ (x : Class). x.print) q ∙ L.class_print (cell c i) (i / 4))))
            ∙ sym (once-in (occ (i / 4) set) (hit (cell c i) p) g ∙ z)

    pub copies-entries : total (one_at k) (entries s c) ≡ copies_in s c p b
    copies-entries = total-entries s (one_at k) c ∙ sum-eq (4 * s.buckets) (λ i. weight_at s (one_at k) i (cell c i)) term weighs ∙ copies-cells
