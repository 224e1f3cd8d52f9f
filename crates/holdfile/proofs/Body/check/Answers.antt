use Rattle.refusals.proofs.HandedOn.{refused-on}
use Rattle.holdfile.proofs.Reading.{end-stops, end-left, end-done}
use Rattle.holdfile.proofs.Body.check.Goals as goal

pub returns-in_err-end : goal.returns-in_err-end
returns-in_err-end c = λ s. refused-on _ c.in_err-end.field-0.0 c.from_residual.ensures.1 (end-stops s _ c.in_err-end.ensures)

pub returns-then-end-self : goal.returns-then-end-self
returns-then-end-self c = λ s. end-left s _ c.args.self.bytes.now c.in_ok-end.end c.in_ok-end.ensures c.if-end-self.true

pub returns : goal.returns
returns c = λ s. end-done s _ c.args.self.bytes.now c.in_ok-end.end c.in_ok-end.ensures c.if-end-self.false
