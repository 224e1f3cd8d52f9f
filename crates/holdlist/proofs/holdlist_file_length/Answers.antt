use Rattle.std.proofs.Common.{ap, sym, ◌∙◌, arith}
use Rattle.refusals.specs.Refusals.{told}
use Rattle.file_form.proofs.Sizes.{file-length-laws}
use Rattle.holdlist.proofs.holdlist_file_length.Goals as goal

pub signed_count-requires : goal.signed_count-requires
signed_count-requires c = λ n q. omega (arith, (file-length-laws _ _).most n (sym c.file_length.ensures ∙ ap told q))
