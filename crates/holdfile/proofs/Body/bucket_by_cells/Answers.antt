use mathlib.Core.Path.{sym, ap, ◌∙◌}
use Rattle.refusals.proofs.HandedOn.{handed_on}
use Rattle.holdfile.specs.Internal.{pass_is}
use Rattle.holdfile.proofs.Reading.{goes_on, stops_here, ends1, ends2, ends3, no-bucket, high-marks, low-marks}
use Rattle.holdfile.proofs.Body.bucket_by_cells.Goals as goal

pub returns-in_default : goal.returns-in_default
returns-in_default c = let b = c.args.self in no-bucket b.width b.bytes.now c.args.at c.byte_at.ensures c.in_default.is

pub returns-then-m-ge16 : goal.returns-then-m-ge16
returns-then-m-ge16 c = let b = c.args.self in high-marks b.width b.bytes.now c.args.at c.byte_at.ensures c.in-Some.is c.if-m-ge16.true

pub returns-in_err-second : goal.returns-in_err-second
returns-in_err-second c =
    let b = c.args.self in
    ap (pass_is b.bytes.now) (handed_on _ c.in_err-second.field-0.0 c.from_residual.ensures.1)
    ∙ stops_here (ends1 b.width c.in-Some.m) c.in_err-second.ensures
    ∙ sym (low-marks b.width b.bytes.now c.args.at c.byte_at.ensures c.in-Some.is c.if-m-ge16.false)

pub returns-in_err-third : goal.returns-in_err-third
returns-in_err-third c =
    let b = c.args.self in
    ap (pass_is b.bytes.now) (handed_on _ c.in_err-third.field-0.0 c.from_residual-in_err-third.ensures.1)
    ∙ stops_here (ends2 b.width c.in-Some.m) c.in_err-third.ensures
    ∙ goes_on (ends1 b.width c.in-Some.m) c.in_ok-second.ensures
    ∙ sym (low-marks b.width b.bytes.now c.args.at c.byte_at.ensures c.in-Some.is c.if-m-ge16.false)

pub returns-in_err-fourth : goal.returns-in_err-fourth
returns-in_err-fourth c =
    let b = c.args.self in
    ap (pass_is b.bytes.now) (handed_on _ c.in_err-fourth.field-0.0 c.from_residual-in_err-fourth.ensures.1)
    ∙ stops_here (ends3 b.width c.in-Some.m) c.in_err-fourth.ensures
    ∙ goes_on (ends2 b.width c.in-Some.m) c.in_ok-third.ensures
    ∙ goes_on (ends1 b.width c.in-Some.m) c.in_ok-second.ensures
    ∙ sym (low-marks b.width b.bytes.now c.args.at c.byte_at.ensures c.in-Some.is c.if-m-ge16.false)

pub returns : goal.returns
returns c =
    let b = c.args.self in
    c.cell_end-4.ensures
    ∙ goes_on (ends3 b.width c.in-Some.m) c.in_ok-fourth.ensures
    ∙ goes_on (ends2 b.width c.in-Some.m) c.in_ok-third.ensures
    ∙ goes_on (ends1 b.width c.in-Some.m) c.in_ok-second.ensures
    ∙ sym (low-marks b.width b.bytes.now c.args.at c.byte_at.ensures c.in-Some.is c.if-m-ge16.false)
