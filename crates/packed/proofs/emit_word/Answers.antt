use mathlib.Core.List.{List, ◌++◌}
use mathlib.Core.Path.{ap, ◌∙◌}
use Prim.Native.Nat.{ℕ}
use lib.ListN.{drop}
use Rattle.packed.proofs.Bytes.{word-bytes}
use Rattle.packed.proofs.emit_word.Goals as goal

pub returns : goal.returns
returns c =
    let a = c.args in
    ap (λ (l : List ℕ). l ++ drop 8 a.part.now) (c.copy_from_slice.ensures.after ∙ c.to_le_bytes.ensures ∙ word-bytes a.word)
