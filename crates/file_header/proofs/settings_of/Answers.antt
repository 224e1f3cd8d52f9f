use mathlib.Core.Option.{Option}
use mathlib.Core.Path.{ap, ◌∙◌}
use Prim.Native.Nat.{ℕ}
use Rattle.refusals.specs.Outcomes.{given, unless}
use Rattle.refusals.proofs.HandedOn.{told-on}
use Rattle.file_form.specs.Reader.{named, header_answer}
use Rattle.file_header.proofs.settings_of.Goals as goal

pub returns-in_err-s : goal.returns-in_err-s
unfolding header_answer
returns-in_err-s c = told-on _ c.in_err-s.field-0.0 c.from_residual.ensures.1 (ap named c.in_err-s.ensures.is)

pub returns : goal.returns
unfolding header_answer
returns c = ap (λ (o : Option ℕ). unless o (given c.in_ok-s.s)) c.in_ok-check.ensures ∙ ap named c.in_ok-s.ensures.is

pub returns-in_err-check : goal.returns-in_err-check
unfolding header_answer
returns-in_err-check c =
    let s = c.in_ok-s.s in
    told-on _ c.in_err-check.field-0.0 c.from_residual-in_err-check.ensures.1 (ap (λ (o : Option ℕ). unless o (given s)) c.in_err-check.ensures ∙ ap named c.in_ok-s.ensures.is)
