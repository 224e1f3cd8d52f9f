use Rattle.table.proofs.Scans.{at_among}
use Rattle.table.proofs.find.Goals as goal

pub scan-lowest-requires : goal.scan-lowest-requires
scan-lowest-requires c = c.requires _ (at_among _ _ c.loop-b-test.true)
