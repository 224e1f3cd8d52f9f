use lib.Dec.{leb}
use lib.ListN.{get_or}
use mathlib.Core.Bool.{Bool, not, ◌||◌}
use mathlib.Core.Path.{ap, ap₂, ◌∙◌}
use Rattle.file_form.specs.Bytes.{bit0, bit1, bit2, bit3}
use Rattle.holdfile.specs.Internal.{pair_from}
use Rattle.holdfile.proofs.Reading.{unfit_of, places-are, good-said}
use Rattle.holdfile.proofs.Body.good_at.Goals as goal

pub returns : goal.returns
returns c =
    let a = c.args in
    let l = a.self.bytes.now in
    let m = get_or l a.at 0 in
    let is = places-are a.at m _ _ _ c.print_size.ensures.0 c.print_size-2.ensures.0 c.print_size-3.ensures.0 in
    let e0 = c.unfit.ensures ∙ ap (unfit_of a.self.width (bit0 m)) c.pair_from-a.ensures in
    let e1 = c.unfit-2.ensures ∙ ap (unfit_of a.self.width (bit1 m)) (c.pair_from-b.ensures ∙ ap (pair_from l) is.0) in
    let e2 = c.unfit-3.ensures ∙ ap (unfit_of a.self.width (bit2 m)) (c.pair_from-c.ensures ∙ ap (pair_from l) is.1) in
    let e3 = c.unfit-4.ensures ∙ ap (unfit_of a.self.width (bit3 m)) (c.pair_from-d.ensures ∙ ap (pair_from l) is.2) in
    good-said a.self.width l a.at c.requires _
    (ap not (ap₂ (λ (x y : Bool). x || y) (ap₂ (λ (x y : Bool). leb 16 m || (x || y)) e0 e1) (ap₂ (λ (x y : Bool). x || y) e2 e3)))
