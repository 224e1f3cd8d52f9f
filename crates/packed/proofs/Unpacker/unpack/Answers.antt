use Rattle.refusals.proofs.HandedOn.{handed_on}
use Rattle.packed.proofs.Reading.{unpack-stops, unpack_passes, unpack-stores}
use Rattle.packed.proofs.Unpacker.unpack.Goals as goal

pub returns-in_err-count : goal.returns-in_err-count
returns-in_err-count c = rw (handed_on _ c.in_err-count.field-0.0 c.from_residual.ensures.1) (unpack-stops _ _ c.args.table.now c.in_err-count.ensures)

pub store-requires : goal.store-requires
store-requires c = record { size = c.requires; passes = unpack_passes _ _ c.in_ok-count.ensures }

pub returns : goal.returns
returns c = unpack-stores _ _ c.args.table.now c.in_ok-count.ensures c.store.ensures
