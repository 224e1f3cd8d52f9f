use Prim.Native.Nat.{ℕ, ◌+◌, ◌*◌, ◌-◌, ◌<◌}
use borrow.Rule.Slice.PartMut.{same_len_mid}
use mathlib.Core.Path.{◌∙◌}
use native.Mathlib.Omega.{arith}
use Rattle.holdfile.proofs.Reading.{upto-passes, upto-inside, upto-ahead, upto-part, upto-more, upto-end}
use Rattle.holdfile.proofs.Body.store.Goals as goal

pub store_bucket-at-requires : goal.store_bucket-at-requires
store_bucket-at-requires c =
    let U = c.loop-bucket.invariant.upto in
    let some : 0 < c.args.self.count - c.loop-bucket.bucket = omega (arith, c.saturating_sub-most.ensures) in
    (upto-part U some, omega (arith, upto-ahead U some, c.saturating_sub-most.ensures), upto-passes U some)

pub loop-bucket-preserved : goal.loop-bucket-preserved
loop-bucket-preserved c =
    let l = c.loop-bucket in
    let r = c.store_bucket-at in
    let i : ℕ = 4 * l.bucket in
    record {
      upto = upto-more l.invariant.upto (omega (arith, c.saturating_sub-most.ensures)) r.new.part r.result (omega arith) (omega arith) r.auto.part r.ensures;
      long = same_len_mid i (i + 4 - i) l.table r.new.part r.auto.part ∙ l.invariant.long;
    }

pub store_bucket-at-requires-in-loop-bucket-2 : goal.store_bucket-at-requires-in-loop-bucket-2
store_bucket-at-requires-in-loop-bucket-2 c =
    let U = c.loop-bucket-2.invariant.upto in
    let some : 0 < c.args.self.count - c.loop-bucket-2.bucket = omega arith in
    (upto-part U some, omega (arith, upto-inside U some), upto-passes U some)

pub loop-bucket-2-preserved : goal.loop-bucket-2-preserved
loop-bucket-2-preserved c =
    let l = c.loop-bucket-2 in
    let r = c.store_bucket-at-in-loop-bucket-2 in
    let i : ℕ = 4 * l.bucket in
    record {
      upto = upto-more l.invariant.upto (omega arith) r.new.part r.result (omega arith) (omega arith) r.auto.part r.ensures;
      long = same_len_mid i (i + 4 - i) l.table r.new.part r.auto.part ∙ l.invariant.long;
    }

pub returns : goal.returns
returns c = upto-end c.loop-bucket-2.invariant.upto (omega arith)
