use lib.ListN.{drop}
use mathlib.Core.Path.{sym, ◌∙◌}
use Rattle.refusals.proofs.HandedOn.{handed_on}
use Rattle.index.specs.Settings.{former_checks}
use Rattle.index.proofs.DegenerateMasks.{degenerate-laws}
use Rattle.holdfile.proofs.Reading.{checks-met, after-stops, after_read, examine-stops, examine-on}
use Rattle.holdfile.proofs.examine.Goals as goal

pub returns-in_err-s : goal.returns-in_err-s
returns-in_err-s c =
    rw (handed_on _ c.in_err-s.field-0.0 c.from_residual.ensures.1) (examine-stops former_checks c.args.bytes.now (sym c.in_err-s.ensures.is))

pub returns-in_err-former_check : goal.returns-in_err-former_check
returns-in_err-former_check c =
    let h = c.in_ok-s in
    let l = c.args.bytes.now in
    rw (handed_on _ c.in_err-former_check.field-0.0 c.from_residual-in_err-former_check.ensures.1)
    (examine-on former_checks l (sym h.ensures.is) ∙ checks-met h.s (drop h.at l) former_checks c.in_err-former_check.ensures)

pub invariant_of-body : goal.invariant_of-body
invariant_of-body c = record { narrow = ((degenerate-laws c.in_ok-s.s).laws (sym c.in_ok-former_check.ensures)).width_high }

pub returns-in_err-check : goal.returns-in_err-check
returns-in_err-check c =
    let h = c.in_ok-s in
    let l = c.args.bytes.now in
    rw (handed_on _ c.in_err-check.field-0.0 c.from_residual-in_err-check.ensures.1)
    (examine-on former_checks l (sym h.ensures.is) ∙ after-stops h.s (drop h.at l) former_checks c.in_ok-former_check.ensures (c.in_err-check.ensures h.s))

pub returns : goal.returns
returns c =
    let h = c.in_ok-s in
    let l = c.args.bytes.now in
    (h.ensures.inside, sym h.ensures.is, (_, examine-on former_checks l (sym h.ensures.is) ∙ after_read h.s (drop h.at l) former_checks c.in_ok-former_check.ensures (c.in_ok-check.ensures h.s)))
