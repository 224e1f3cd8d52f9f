use Rattle.calls.specs.Cells.{scan}
use Rattle.table.proofs.Scans.{scanned}
use Rattle.table.proofs.scan.Goals as goal

pub returns : goal.returns
unfolding scan
returns c =
    let a = c.args in
    scanned a.table.now a.p a.b c.copies.ensures c.lowest.ensures
