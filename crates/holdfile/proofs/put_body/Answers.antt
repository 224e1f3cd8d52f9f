use lib.ListN.{length, length-append}
use mathlib.Core.Path.{◌≡◌, refl, ap, ◌∙◌}
use native.Mathlib.Omega.{arith}
use Rattle.holdfile.proofs.Writing.{ahead-room, ahead-turn, ahead-two, ahead-end}
use Rattle.holdfile.proofs.put_body.Goals as goal

pub put_bucket-at-requires : goal.put_bucket-at-requires
put_bucket-at-requires c =
    let s = c.in-Some.ensures.steps.1 in
    let I = c.loop-cells.invariant in
    let f = c.in-Some.cells.now in
    let more = c.next.new.self.rest.now in
    let four : length f ≡ 4 = s.1 ∙ I.size in
    let last : length c.split_at.result.1.now ≡ 8 = omega (arith, I.few, ap length s.0, length-append f more, c.split_at.ensures.back_len, c.saturating_sub.ensures) in
    (four, ahead-room I.ahead f more s.0 four 2 (ahead-two I.ahead f more s.0 four last) c.requires.1)

pub loop-cells-preserved : goal.loop-cells-preserved
loop-cells-preserved c =
    let s = c.in-Some.ensures.steps.1 in
    let I = c.loop-cells.invariant in
    let f = c.in-Some.cells.now in
    let more = c.next.new.self.rest.now in
    let four : length f ≡ 4 = s.1 ∙ I.size in
    let last : length c.split_at.result.1.now ≡ 8 = omega (arith, I.few, ap length s.0, length-append f more, c.split_at.ensures.back_len, c.saturating_sub.ensures) in
    record {
      ahead = ahead-turn I.ahead f more s.0 four 2 (ahead-two I.ahead f more s.0 four last) c.put_bucket-at.ensures;
      few = omega (arith, I.few, ap length s.0, length-append f more);
      size = c.in-Some.ensures.steps.0 ∙ I.size;
    }

pub put_bucket-at-requires-in-loop-cells-2 : goal.put_bucket-at-requires-in-loop-cells-2
put_bucket-at-requires-in-loop-cells-2 c =
    let s = c.in-Some-cells.ensures.steps.1 in
    let I = c.loop-cells-2.invariant in
    let four : length c.in-Some-cells.cells.now ≡ 4 = s.1 ∙ I.size in
    (four, ahead-room I.ahead c.in-Some-cells.cells.now c.next-in-loop-cells-2.new.self.rest.now s.0 four 0 (omega arith) c.requires.1)

pub loop-cells-2-preserved : goal.loop-cells-2-preserved
loop-cells-2-preserved c =
    let s = c.in-Some-cells.ensures.steps.1 in
    let I = c.loop-cells-2.invariant in
    let four : length c.in-Some-cells.cells.now ≡ 4 = s.1 ∙ I.size in
    record {
      ahead = ahead-turn I.ahead c.in-Some-cells.cells.now c.next-in-loop-cells-2.new.self.rest.now s.0 four 0 (omega arith) c.put_bucket-at-in-loop-cells-2.ensures;
      size = c.in-Some-cells.ensures.steps.0 ∙ I.size;
    }

pub returns : goal.returns
returns c =
    let I = c.loop-cells-2.invariant in
    ahead-end I.ahead (omega (arith, I.ahead.whole, I.size, c.in-None-cells.ensures.steps.1.0)) refl
