use Rattle.file_form.proofs.Laws.{header-laws}
use Rattle.file_header.proofs.header_size.Goals as goal

-- `file_header::header_size` meets its contract: the place behind the header is its length. Assumes nothing.
pub store_header-requires : goal.store_header-requires
store_header-requires c = header-laws.most c.args.s
