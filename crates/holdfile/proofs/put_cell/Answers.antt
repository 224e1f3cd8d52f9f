use lib.ListN.{get_or}
use mathlib.Core.List.{List}
use mathlib.Core.Path.{◌≡◌, ap, ◌∙◌}
use Prim.Native.Nat.{ℕ, ◌/◌, ◌%◌}
use native.Mathlib.Omega.{arith}
use Rattle.holdfile.proofs.Writing.{cell-stored}
use Rattle.holdfile.proofs.put_cell.Goals as goal

pub returns-then-ahead-x : goal.returns-then-ahead-x
returns-then-ahead-x c =
    let a = c.args in
    let low : get_or c.to_le_bytes.result 0 0 ≡ a.x % 256 = ap (λ (l : List ℕ). get_or l 0 0) c.to_le_bytes.ensures in
    let top : a.x / 256 % 256 ≡ a.x / 256 = omega arith in
    let high : get_or c.to_le_bytes.result 1 0 ≡ a.x / 256 = ap (λ (l : List ℕ). get_or l 1 0) c.to_le_bytes.ensures ∙ top in
    rw (c.print_size.ensures.0, low, high) (cell-stored a.ahead a.out.now a.at a.x c.if-ahead-x.true)
