use lib.ListN.{drop}
use Rattle.lemmas.proofs.Stores.{Left}
use Rattle.file_form.specs.Fields.{field_bytes}
use Rattle.file_form.specs.Header.{sizes}
use Rattle.file_form.specs.Writer.{header}
use Rattle.file_header.proofs.store_header.Given as goal

-- what is left to store of the header are the fields from i on, whose bits are those of m
abbrev pub invariant-loop-i : goal.invariant-loop-i
invariant-loop-i l = Left l.fn.out l.out 0 l.at (header l.fn.s) (field_bytes (drop l.i sizes) l.m (drop l.i l.values))
