use Prim.Native.Nat.{ℕ, ◌+◌, ◌*◌, ◌-◌, ◌/◌, ◌<◌}
use borrow.Rule.Slice.PartMut.{mid_of, put_mid, mid_len, set_mid_at}
use lib.ListN.{length, set}
use mathlib.Core.Path.{ap, ◌∙◌}
use native.Mathlib.Omega.{arith}
use Rattle.table.proofs.write_cell.Goals as goal

pub returns : goal.returns
returns c =
    let t = c.args.table.now in
    let s = 4 * (c.args.at / 4) in
    let l : c.args.at - s < length (mid_of s (s + 4 - s) t) = omega (arith, mid_len s (s + 4) t (omega (arith, c.requires))) in
    ap (put_mid s (s + 4 - s) t) c.put.ensures ∙ set_mid_at s (s + 4 - s) (c.args.at - s) t c.args.v l ∙ ap (λ (i : ℕ). set t i c.args.v) (omega arith)
