use lib.ListN.{drop, set}
use mathlib.Core.List.{List, ◌++◌}
use mathlib.Core.Path.{sym, ap, ap₂, ◌∙◌}
use Prim.Native.Nat.{ℕ, ◌+◌, ◌/◌, ◌%◌}
use native.Mathlib.Omega.{arith}
use Rattle.lemmas.proofs.Bytes.{bytes-length, bytes-next, byte-past}
use Rattle.lemmas.proofs.Stores.{put-next}
use Rattle.file_header.proofs.emit.Goals as goal

pub loop-i-preserved : goal.loop-i-preserved
loop-i-preserved c =
    let a = c.args in
    let i = c.loop-i.i in (
      ap (λ (x : ℕ). x / 256) c.loop-i.invariant.0 ∙ byte-past i a.v,
      ap₂ (λ (l : List ℕ) (x : ℕ). set l i (x % 256)) c.loop-i.invariant.1 c.loop-i.invariant.0
          ∙ put-next _ a.part.now i _ (bytes-length i a.v) (omega (arith, c.requires))
          ∙ ap (λ (l : List ℕ). l ++ drop (i + 1) a.part.now) (sym (bytes-next i a.v)),
    )
