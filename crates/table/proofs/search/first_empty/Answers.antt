use Rattle.table.proofs.Scans.{at_among}
use Rattle.table.proofs.search.first_empty.Goals as goal

pub lowest_empty-requires : goal.lowest_empty-requires
lowest_empty-requires c = c.requires _ (at_among _ _ c.loop-b-test.true)
