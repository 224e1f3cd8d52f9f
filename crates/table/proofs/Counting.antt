-- Filled cells as the library counts them.
-- Assumes nothing.
use mathlib.Core.Path.{◌≡◌, refl, sym}
use mathlib.Core.Bool.{Bool, true, false, not, cond}
use mathlib.Core.List.{List}
use Prim.Native.Nat.{ℕ, ◌+◌}
use native.Mathlib.Omega.{arith}
use lib.Dec.{eqb}
use Rattle.std.specs.List.{count_by}
use Rattle.std.proofs.lemmas.List.Recursion.{is_count_by}
use Rattle.calls.specs.Cells.{filled_count}

one_more : (b : Bool) (n : ℕ) → cond b 0 1 + n ≡ cond (not b) (1 + n) n
one_more true n = omega arith
one_more false n = refl

pub filled-is : (l : List ℕ) → count_by (λ v. not (eqb v 0)) l ≡ filled_count l
filled-is l = sym (is_count_by filled_count (λ v. not (eqb v 0)) refl (λ v k. one_more (eqb v 0) (filled_count k)) l)
