-- What a view shows, by its check.
-- Assumes nothing.
use mathlib.Core.Path.{◌≡◌, refl, sym, ap, ◌∙◌}
use mathlib.Core.Option.{Option, none, some}
use mathlib.Core.List.{List, []}
use Prim.Native.Nat.{ℕ, ◌+◌, ◌*◌, ◌-◌, ◌≤◌, ◌<◌}
use native.Mathlib.Decide.{dec_lt}
use native.Mathlib.Omega.{arith}
use lib.ListN.{length, take, drop}
use Rattle.refusals.specs.Checks.{first_met}
use Rattle.refusals.specs.Outcomes.{given, unless}
use Rattle.refusals.proofs.Cursor.{start, all-met, all-passed, parts-passed, number_passed}
use Rattle.index.specs.Candidates.{bucket_checks}
use Rattle.index.specs.declared.Settings.{Settings}
use Rattle.index.proofs.Checks.{check-laws}
use Rattle.calls.specs.Cells.{bucket_of}
use Rattle.calls.specs.Calls.{table_checks, view_checks, viewed, view_number, part_of}
use Rattle.calls.proofs.Laws.{table-check-laws}
use Rattle.calls.proofs.Positive.{positive-calls}

module _ (s : Settings) (c : List ℕ) (b : ℕ) where
  pub view-stopped : {n : ℕ} → some n ≡ first_met (table_checks s c) → some n ≡ first_met (view_checks s c b)
  unfolding view_checks
  view-stopped e = sym (all-met (table_checks s c) (bucket_checks s b) (start _) (sym e))

  module _ (passed : none ≡ first_met (table_checks s c)) where
    view-rest : first_met (view_checks s c b) ≡ first_met (bucket_checks s b)
    unfolding view_checks
    view-rest = (all-passed (table_checks s c) (bucket_checks s b) (start _) (sym passed)).decides

    pub view_out : s.buckets ≤ b → some 8 ≡ first_met (view_checks s c b)
    view_out h = sym (view-rest ∙ (check-laws s).bucket_refused b h)

    pub view_in : b < s.buckets → none ≡ first_met (view_checks s c b)
    view_in h = sym (view-rest ∙ (check-laws s).bucket_passes b h)

  -- the view, by its check
  pub view-none : {n : ℕ} → some n ≡ first_met (view_checks s c b) → [] ≡ viewed s c b
  unfolding viewed
  view-none e = ap (λ (o : Option ℕ). part_of (unless o (given (bucket_of c b)))) e

  -- no number is 0
  pub view-stays : {n : ℕ} → some n ≡ first_met (view_checks s c b) → view_number s c b ≡ 0 → ⊥
  unfolding view_number
  view-stays e z =
      let f = e ∙ number_passed (view_checks s c b) (sym z) ((positive-calls s c).view_numbered b) refl in
      let y : ◌≡◌ {A = ℕ} 0 1 = cc in omega arith

  module _ (e : none ≡ first_met (view_checks s c b)) where
    both-pass : (first_met (table_checks s c) ≡ none) × (first_met (bucket_checks s b) ≡ none)
    unfolding view_checks
    both-pass = parts-passed (table_checks s c) (bucket_checks s b) (sym e)

    below : b < s.buckets
    below = elim (dec_lt b s.buckets) [
      | yes g ↦ g
      | no g ↦ absurd (let f = sym both-pass.1 ∙ (check-laws s).bucket_refused b (omega arith) in let y : ◌≡◌ {A = ℕ} 0 1 = cc in omega arith)
    ]

    pub view-inside : 4 * b + 4 ≤ length c
    view-inside = omega (arith, ((table-check-laws s c).sound both-pass.0).size, below)

    pub view-some : take (4 * b + 4 - 4 * b) (drop (4 * b) c) ≡ viewed s c b
    unfolding viewed bucket_of
    view-some = ap (λ (k : ℕ). take k (drop (4 * b) c)) (four (4 * b)) ∙ ap (λ (o : Option ℕ). part_of (unless o (given (bucket_of c b)))) e
      where
        four : (a : ℕ) → a + 4 - a ≡ 4
        four a = omega arith
