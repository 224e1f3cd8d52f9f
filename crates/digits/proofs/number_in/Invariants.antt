use Prim.Native.Nat.{◌≤◌}
use lib.ListN.{drop}
use mathlib.Core.Path.{◌≡◌}
use Rattle.digits.specs.Numbers.{value_from, value_of}
use Rattle.digits.proofs.number_in.Given as goal

abbrev pub invariant-loop-b : goal.invariant-loop-b
invariant-loop-b l =
    (l.n ≤ l.most) × (value_from l.base l.most l.n (drop l.b-index l.text) ≡ value_of l.base l.most l.text)
