use Rattle.std.proofs.Common.{◌∙◌, ap}
use Rattle.refusals.specs.Checks.{first_met}
use Rattle.refusals.specs.Refusals.{told}
use Rattle.index.specs.declared.Settings.{Settings}
use Rattle.calls.specs.Calls.{view_checks}
use Rattle.holdlist.specs.Numbers.{signed, itself}
use Rattle.holdlist.specs.Calls.{view_answer}
use Rattle.holdlist.proofs.Crossing.{crosses, checked}
use Rattle.holdlist.proofs.holdlist_view_check.Goals as goal

pub returns : goal.returns
unfolding view_answer
returns c =
    let a = c.args in
    let seen = c.view_check.ensures ∙ ap (λ (x : Settings). first_met (view_checks x a.table.now a.bucket)) c.lent_settings.ensures in
    crosses c.signed.type_inv (c.signed.ensures ∙ ap (λ r. signed itself (told r)) c.and.ensures ∙ checked c.view_check.result seen)
