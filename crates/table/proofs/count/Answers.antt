use lib.ListN.{get_or}
use mathlib.Core.Path.{ap, sym, ◌∙◌}
use native.Mathlib.Omega.{arith}
use Rattle.calls.specs.Cells.{Scan}
use Rattle.calls.proofs.Laws.{scan-laws}
use Rattle.table.proofs.Scans.{at_among, listed-before, not-listed, counted_start, counted-again, counted-new}
use Rattle.table.proofs.count.Goals as goal
use Rattle.table.proofs.count.Goals.{then-not-listed, else-not-listed}

pub loop-at-init : goal.loop-at-init
loop-at-init c = counted_start _ _ _

pub scan-n-requires : goal.scan-n-requires
scan-n-requires c = c.requires.1 _ (at_among _ _ c.loop-at-test.true)

pub overflow_add-n : goal.overflow_add-n
overflow_add-n c =
    let most = scan-laws.most c.args.table.now c.args.p (get_or c.args.buckets.now c.loop-at.at 0) in
    omega (arith, c.loop-at.invariant.small, c.requires.0, c.loop-at-test.true, ap (λ (x : Scan). x.copies) c.scan-n.ensures, most)

pub loop-at-preserved : goal.loop-at-preserved
loop-at-preserved c =
    let h = c.loop-at-test.true in
    let m = c.requires.1 _ (at_among _ _ h) in
    elim c.if-not-listed.branch [
      | then-not-listed w ↦
          rw w.n-is (counted-new c.loop-at.invariant h m (not-listed _ _ (sym c.listed.ensures ∙ w.if-not-listed.true)) (ap (λ (x : Scan). x.copies) w.scan-n.ensures))
      | else-not-listed w ↦ rw w.n-is (counted-again c.loop-at.invariant h m (listed-before _ _ (sym c.listed.ensures ∙ w.if-not-listed.false)))
    ]
