use lib.Dec.{lit≤}
use Rattle.holdlist.proofs.Counts.{room, unpacked-counts}
use Rattle.holdlist.proofs.holdlist_packed_read.Goals as goal

pub signed_count-requires : goal.signed_count-requires
signed_count-requires c = room c.read.result 2 (lit≤ tt) c.read.auto.table c.well_formed.1.1.0.1 c.read.ensures (unpacked-counts _ _ _)
