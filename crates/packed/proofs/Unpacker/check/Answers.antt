use Rattle.refusals.proofs.HandedOn.{told-on}
use Rattle.packed.proofs.Reading.{counted-fits, counted-refused, counted-more, counted-filling, counted-all}
use Rattle.packed.proofs.Unpacker.check.Goals as goal

pub returns-in_err-count : goal.returns-in_err-count
returns-in_err-count c =
    told-on _ c.in_err-count.field-0.0 c.from_residual.ensures.1 (counted-refused c.loop-b.invariant c.loop-b-test.true c.code_at.ensures _ c.in_err-count.ensures)

pub overflow_add-count : goal.overflow_add-count
overflow_add-count c =
    record { fits = counted-fits (counted-more c.loop-b.invariant c.loop-b-test.true c.code_at.ensures _ c.in_ok-count.ensures) c.args.self.few }

pub loop-b-preserved : goal.loop-b-preserved
loop-b-preserved c = counted-more c.loop-b.invariant c.loop-b-test.true c.code_at.ensures _ c.in_ok-count.ensures

pub returns-then-filling_set : goal.returns-then-filling_set
returns-then-filling_set c = counted-filling c.loop-b.invariant c.loop-b-test.false c.filling_set.ensures c.if-filling_set.true

pub returns : goal.returns
returns c = counted-all c.loop-b.invariant c.loop-b-test.false c.filling_set.ensures c.if-filling_set.false
