use Rattle.file_header.proofs.FieldLoops.{Upto}
use Rattle.file_header.proofs.fields_at.Given as goal

abbrev pub invariant-loop-i : goal.invariant-loop-i
invariant-loop-i l = Upto l.bytes l.map l.from l.m l.i l.at l.values
