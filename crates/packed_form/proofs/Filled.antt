-- Sorting the buckets changes no count of filled cells.
-- Assumes nothing.
use mathlib.Core.Path.{◌≡◌, refl, sym, ap, ◌∙◌}
use mathlib.Core.Bool.{cond}
use mathlib.Core.List.{List, [], ◌∷◌}
use Prim.Native.Nat.{ℕ, ◌+◌, ◌*◌}
use lib.Dec.{eqb}
use lib.ListN.{length}
use Rattle.lemmas.specs.Sums.{total}
use Rattle.calls.specs.Cells.{filled_count}
use Rattle.packed_form.specs.Writer.{sort_buckets}
use Rattle.packed_form.proofs.Sort.{sorted-total}

filled-total : (l : List ℕ) → filled_count l ≡ total (λ v. cond (eqb v 0) 0 1) l
filled-total [] = refl
filled-total (v ∷ l) = ap (λ (n : ℕ). cond (eqb v 0) 0 1 + n) (filled-total l)

pub filled-sorted : (m : ℕ) (l : List ℕ) → length l ≡ 4 * m → filled_count (sort_buckets l) ≡ filled_count l
filled-sorted m l e = filled-total (sort_buckets l) ∙ sorted-total (λ v. cond (eqb v 0) 0 1) m l e ∙ sym (filled-total l)
