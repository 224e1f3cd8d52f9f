use lib.ListN.{length, drop, replicate, set, length-replicate, replicate-append-replicate, drop_of_length-le}
use mathlib.Core.List.{List, ◌++◌, append-nil}
use mathlib.Core.Path.{◌≡◌, ap, ◌∙◌}
use Prim.Native.Nat.{ℕ, ◌+◌}
use native.Mathlib.Omega.{arith}
use Rattle.lemmas.proofs.Stores.{put-next}
use Rattle.refusals.proofs.HandedOn.{handed_on}
use Rattle.table.proofs.Guards.{clear-stopped, clear-done}
use Rattle.table.proofs.clear.Goals as goal

pub returns-in_err-table_check : goal.returns-in_err-table_check
returns-in_err-table_check c =
    rw (handed_on _ c.in_err-table_check.field-0.0 c.from_residual.ensures.1) (clear-stopped _ _ c.in_err-table_check.ensures)

pub loop-cell-preserved : goal.loop-cell-preserved
loop-cell-preserved c =
    let t = c.args.table.now in
    let i = c.loop-cell.cell-index in
    ap (λ (l : List ℕ). set l i 0) c.loop-cell.invariant
    ∙ put-next (replicate i 0) t i 0 (length-replicate i 0) (omega arith)
    ∙ ap (λ (l : List ℕ). l ++ drop (i + 1) t) (replicate-append-replicate i 1 0)

pub returns : goal.returns
returns c =
    let t = c.args.table.now in
    let all : c.loop-cell.cell-index ≡ length t = omega (arith, c.loop-cell-test.false, c.loop-cell.auto.table) in
    clear-done _ _ c.in_ok-table_check.ensures
    (c.loop-cell.invariant
    ∙ ap (λ (k : ℕ). replicate k 0 ++ drop k t) all
    ∙ ap (λ (l : List ℕ). replicate (length t) 0 ++ l) (drop_of_length-le t {i = length t} (omega arith)) ∙ append-nil (replicate (length t) 0))
