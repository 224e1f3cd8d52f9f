use mathlib.Core.Path.{◌∙◌}
use Rattle.lemmas.proofs.Bytes.{all-bytes}
use Rattle.packed.proofs.Bytes.{eight-from}
use Rattle.packed.proofs.word_at.Goals as goal

pub returns : goal.returns
returns c =
    let a = c.args in
    c.from_le_bytes.ensures
    ∙ eight-from a.bytes.now a.at (all-bytes a.bytes.now (λ i. (c.type_inv.bytes i).fits))
    c.byte_or.ensures c.byte_or-2.ensures c.byte_or-3.ensures c.byte_or-4.ensures c.byte_or-5.ensures c.byte_or-6.ensures c.byte_or-7.ensures c.byte_or-8.ensures
