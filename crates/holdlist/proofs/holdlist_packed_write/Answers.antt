use lib.Dec.{lit≤}
use Rattle.holdlist.proofs.Counts.{room, packed-counts}
use Rattle.holdlist.proofs.holdlist_packed_write.Goals as goal

pub signed_count-requires : goal.signed_count-requires
signed_count-requires c = room c.write.result 1 (lit≤ tt) c.write.auto.out c.well_formed.1.1.0.1 c.write.ensures (packed-counts _ _ _)
