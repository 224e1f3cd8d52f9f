use Rattle.std.proofs.Common.{ℕ, ◌/◌, ◌%◌, inl, inr, pos_of_ne-zero, sym, ap, ◌∙◌}
use borrow.Author.Tests.{eqb-true, eqb-false}
use Rattle.refusals.proofs.HandedOn.{told-on}
use Rattle.index.specs.Settings.{modulus}
use Rattle.index.specs.Hash.{fingerprint_of}
use Rattle.index.specs.declared.Settings.{Settings}
use Rattle.index.proofs.Answers.{as_passed, entry_refused, entry-bad, entry_given}
use Rattle.index.proofs.Computes.{print-of, home-of}
use Rattle.index.proofs.entry_of.Goals as goal
use Rattle.index.proofs.entry_of.Goals.{then-is_empty-via-then-is_empty, then-is_empty-via-else-is_empty+then-tag-gt-LONGEST_TAG}

pub returns-in_err-passed : goal.returns-in_err-passed
returns-in_err-passed c = told-on _ c.in_err-passed.field-0.0 c.from_residual.ensures.1 (entry_refused _ c.in_err-passed.ensures.refused _)

pub returns-then-is_empty : goal.returns-then-is_empty
returns-then-is_empty c =
    let p = c.in_ok-passed in
    entry-bad _ (as_passed p.passed p.ensures.same) _ (elim c.then-is_empty.branch [
      | then-is_empty-via-then-is_empty w ↦ inl (eqb-true _ 0 (sym c.is_empty.ensures ∙ w.if-is_empty.true))
      | then-is_empty-via-else-is_empty+then-tag-gt-LONGEST_TAG w ↦ inr w.if-tag-gt-LONGEST_TAG.true
    ])

pub returns : goal.returns
returns c =
    let p = c.in_ok-passed in
    let e = p.ensures.same in
    let h : ℕ = c.tag_hash-h.result in
    let print = c.fingerprint.ensures ∙ ap (λ (s : Settings). fingerprint_of s h) e in
    let home = c.reduce.ensures ∙ ap (λ (s : Settings). h / 4294967296 % modulus s) e in
    entry_given _ (as_passed p.passed e) _ (pos_of_ne-zero (eqb-false _ 0 (sym c.is_empty.ensures ∙ c.if-is_empty.false))) c.if-tag-gt-LONGEST_TAG.false
    (print-of _ _ c.tag_hash-h.ensures print) (home-of _ _ c.tag_hash-h.ensures home)
