use lib.Dec.{lit≤}
use Rattle.holdlist.proofs.Counts.{room, file-counts}
use Rattle.holdlist.proofs.holdlist_file_write.Goals as goal

pub signed_count-requires : goal.signed_count-requires
signed_count-requires c = room c.write.result 1 (lit≤ tt) c.write.auto.out c.well_formed.1.1.0.1 c.write.ensures (file-counts _ _ _)
