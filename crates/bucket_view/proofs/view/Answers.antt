use Prim.Native.Nat.{ℕ, ◌+◌, ◌*◌}
use mathlib.Core.Path.{◌≡◌, ap}
use native.Mathlib.Omega.{arith}
use Rattle.bucket_view.proofs.Checked.{view-none, view-stays, view-inside, view-some}
use Rattle.bucket_view.proofs.view.Goals as goal

pub returns-in_default : goal.returns-in_default
returns-in_default c =
    record { values = view-none _ _ _ c.in_default.ensures; place = λ e. absurd (view-stays _ _ _ c.in_default.ensures e) }

pub returns : goal.returns
returns c =
    let a = c.args in
    record {
      values = view-some a.s _ _ c.in-Ok.ensures;
      place = λ e. ap (λ (x : ℕ). (a.table.ref_ptr.0, x)) (behind a.bucket a.table.ref_ptr.1);
    }
  where
    behind : (b o : ℕ) → 4 * b * 2 + o ≡ o + 2 * (4 * b)
    behind b o = omega arith

pub slice_bounds-result-end-2 : goal.slice_bounds-result-end-2
slice_bounds-result-end-2 c =
    let a = c.args in
    omega (arith, view-inside a.s a.table.now a.bucket c.in-Ok.ensures)
