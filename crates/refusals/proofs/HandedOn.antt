-- What a `?` hands on to the caller is the refusal that the call met.
-- Assumes nothing.
use Rattle.std.proofs.Common.{◌≡◌, ℕ, ap, ◌∙◌}
use mathlib.Core.Option.{Option, some}
use Rattle.std.specs.Prelude.{Result, Err, IsErrAnd, IfErr}
use Rattle.std.proofs.lemmas.Result.{err_from_is_err_and}
use Rattle.refusals.specs.Outcomes.{Answer, refused}
use Rattle.refusals.specs.Refusals.{number_told, refused_by, told}
use Rattle.refusals.specs.declared.Refusal.{Refusal}

module _ {A : Type 0} (r : Result A Refusal) (e : Refusal) (h : IsErrAnd r (λ y. y ≡ e)) where
  pub handed_on : r ≡ Err e
  handed_on = let p = err_from_is_err_and r h in p.1 ∙ ap Err p.2

  -- what is said of it
  pub said-on : (Q : Refusal → Type 0) → Q e → IfErr r Q
  said-on Q q = rw handed_on q

  -- as the answer of a call
  pub told-on : {a : Answer A} → refused (number_told e) ≡ a → told r ≡ a
  told-on q = ap told handed_on ∙ q

-- as the answer of a check
pub refused-on : (r : Result (Unit {0}) Refusal) (e : Refusal) → IsErrAnd r (λ y. y ≡ e) → {o : Option ℕ} → some (number_told e) ≡ o → refused_by r ≡ o
refused-on r e h q = ap refused_by (handed_on r e h) ∙ q
