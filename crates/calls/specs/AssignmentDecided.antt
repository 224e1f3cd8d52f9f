-- Whether entries can be assigned, decided: each candidate of each entry is tried. That it decides the plain meaning is a theorem,
-- `dec_assignable` (proofs/AssignmentDecided), so that nothing here has to be believed.
-- Assumes nothing.
use Rattle.std.proofs.Common.{subst, sym, inl, inr, arith}
use Rattle.std.specs.Prelude.{List, [], ◌∷◌, ℕ, ◌+◌, ◌≤◌}
use Rattle.std.proofs.Math.Decide.{dec_lt, map_dec}
use Rattle.lemmas.specs.Count.{occ, ◌among◌}
use Rattle.lemmas.proofs.Count.{hit-cases, hit-refl}
use Rattle.index.specs.Candidates.{Class}
use Rattle.calls.specs.Assignment.{Fits}

-- an assignment beside the buckets already given
abbrev pub Room : List ℕ → List Class → Type 0
Room us ks = (bs : List ℕ) × Fits ks bs × ((x : ℕ) → occ x bs + occ x us ≤ 4)

module _ (ks : List Class) (us : List ℕ) (h : (x : ℕ) → occ x us ≤ 4) (rec : (vs : List ℕ) → ((x : ℕ) → occ x vs ≤ 4) → Dec (Room vs ks)) where
  give : (b : ℕ) → Dec (Room (b ∷ us) ks)
  give b = elim (dec_lt (occ b us) 4) [
    | yes l ↦ rec (b ∷ us) (λ x. elim (hit-cases x b) [ inl e ↦ subst (λ (v : ℕ). occ v (b ∷ us) ≤ 4) (sym e) (omega (arith, hit-refl b)) | inr z ↦ omega (arith, h x) ])
    | no n ↦ no (λ r. n (omega (arith, r.2 b, hit-refl b)))
  ]

  tries : (S : List ℕ) → Dec ((b : ℕ) × (b among S) × Room (b ∷ us) ks)
  tries [] = no (λ t. omega (arith, t.1))
  tries (b ∷ S) = go (give b) (tries S)
    where
      go : Dec (Room (b ∷ us) ks) → Dec ((a : ℕ) × (a among S) × Room (a ∷ us) ks) → Dec ((a : ℕ) × (a among b ∷ S) × Room (a ∷ us) ks)
      go (yes r) t = yes (b, omega (arith, hit-refl b), r)
      go (no n) (yes t) = yes (t.0, omega (arith, t.1), t.2)
      go (no n) (no m) = no (λ t. elim (hit-cases t.0 b)
          [ inl e ↦ n (subst (λ (v : ℕ). Room (v ∷ us) ks) e t.2) | inr z ↦ m (t.0, omega (arith, t.1), t.2) ])

dec_room : (ks : List Class) (us : List ℕ) → ((x : ℕ) → occ x us ≤ 4) → Dec (Room us ks)
dec_room [] us h = yes ([], tt, λ x. omega (arith, h x))
dec_room (k ∷ ks) us h = map_dec to back (tries ks us h (dec_room ks) k.set)
  where
    to : (b : ℕ) × (b among k.set) × Room (b ∷ us) ks → Room us (k ∷ ks)
    to t = (t.0 ∷ t.2.0, (t.1, t.2.1), λ x. omega (arith, t.2.2 x))

    back : Room us (k ∷ ks) → (b : ℕ) × (b among k.set) × Room (b ∷ us) ks
    back ([], f, o) = absurd f
    back (b ∷ bs, f, o) = (b, f.0, (bs, f.1, λ x. omega (arith, o x)))

-- entries beside none
pub decided : (ks : List Class) → Dec (Room [] ks)
decided ks = dec_room ks [] (λ x. omega arith)
