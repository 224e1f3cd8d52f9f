use lib.Dec.{lit≤}
use Rattle.holdlist.proofs.Counts.{room, converted-counts}
use Rattle.holdlist.proofs.holdlist_file_convert.Goals as goal

pub signed_count-requires : goal.signed_count-requires
signed_count-requires c = room c.convert.result 1 (lit≤ tt) c.convert.auto.out c.well_formed.1.0.1 c.convert.ensures (converted-counts _ _)
