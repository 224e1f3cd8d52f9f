use Rattle.std.proofs.Common.{◌∙◌, ap}
use Rattle.refusals.specs.Refusals.{told}
use Rattle.index.specs.Settings.{settings_refusal}
use Rattle.holdlist.specs.Numbers.{signed, itself}
use Rattle.holdlist.specs.Calls.{settings_answer}
use Rattle.holdlist.proofs.Crossing.{crosses, checked}
use Rattle.holdlist.proofs.holdlist_settings_check.Goals as goal

pub returns : goal.returns
unfolding settings_answer
returns c = crosses c.signed.type_inv (c.signed.ensures ∙ ap (λ r. signed itself (told r)) c.and.ensures ∙ checked c.check.result (c.check.ensures ∙ ap settings_refusal c.lent_settings.ensures))
