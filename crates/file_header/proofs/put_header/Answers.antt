use native.Mathlib.Omega.{arith}
use Rattle.file_header.proofs.FieldLoops.{no_room, room}
use Rattle.file_header.proofs.put_header.Goals as goal

-- `file_header::put_header` meets its contract. Assumes nothing.
pub returns-then-out-n : goal.returns-then-out-n
returns-then-out-n c = no_room _ _ c.header_size-n.ensures c.if-out-n.true

pub returns : goal.returns
returns c = room _ _ (omega (arith, c.if-out-n.false, c.header_size-n.ensures)) c.store_header.ensures
