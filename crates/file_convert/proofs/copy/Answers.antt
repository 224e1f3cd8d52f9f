use lib.ListN.{take, drop, get_or, set, length-take}
use lib.Seq.{take-suc}
use mathlib.Core.List.{List, ◌++◌}
use mathlib.Core.Path.{sym, ap, ◌∙◌}
use Prim.Native.Nat.{ℕ, ◌+◌}
use native.Mathlib.Numerals.{add-one}
use native.Mathlib.Omega.{arith}
use Rattle.lemmas.proofs.Stores.{put-next}
use Rattle.file_convert.proofs.copy.Goals as goal

pub loop-i-preserved : goal.loop-i-preserved
loop-i-preserved c =
    let l = c.args.bytes.now in
    let i = c.loop-i.i in
    ap (λ (p : List ℕ). set p i (get_or l i 0)) c.loop-i.invariant
    ∙ put-next (take i l) c.args.part.now i (get_or l i 0) (omega (arith, length-take i l)) (omega (arith, c.requires))
    ∙ ap (λ (p : List ℕ). p ++ drop (i + 1) c.args.part.now) (sym (ap (λ (k : ℕ). take k l) (add-one i) ∙ take-suc l i 0 (omega arith)))
