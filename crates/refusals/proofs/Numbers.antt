-- A refusal is known by its number: no two have the same.
-- Assumes nothing.
use mathlib.Core.Path.{◌≡◌, refl, sym, ap, ◌∙◌}
use mathlib.Core.Bool.{cond}
use Prim.Native.Nat.{ℕ}
use lib.Dec.{eqb}
use Rattle.refusals.specs.Refusals.{number_told}
use Rattle.refusals.specs.declared.Refusal.{Refusal}

abbrev numbered : ℕ → Refusal
numbered n =
    cond (eqb n 1) Refusal.Rule (
    cond (eqb n 2) Refusal.Width (
    cond (eqb n 3) Refusal.BucketCount (
    cond (eqb n 4) Refusal.Mask (
    cond (eqb n 5) Refusal.Cells (
    cond (eqb n 6) Refusal.Scratch (
    cond (eqb n 7) Refusal.Tag (
    cond (eqb n 8) Refusal.Bucket (
    cond (eqb n 9) Refusal.Full (
    cond (eqb n 11) Refusal.EndsEarly (
    cond (eqb n 12) Refusal.Header (
    cond (eqb n 13) Refusal.Marks (
    cond (eqb n 14) Refusal.Fingerprint (
    cond (eqb n 15) Refusal.GoesOn (
    cond (eqb n 16) Refusal.Output (
    cond (eqb n 17) Refusal.WideCell (
    cond (eqb n 18) Refusal.Row (
    cond (eqb n 19) Refusal.Order (
    cond (eqb n 20) Refusal.Filling (
    cond (eqb n 23) Refusal.EarlierKind Refusal.NotDegenerate)))))))))))))))))))

back : (e : Refusal) → numbered (number_told e) ≡ e
back Refusal.Rule = refl
back Refusal.Width = refl
back Refusal.BucketCount = refl
back Refusal.Mask = refl
back Refusal.Cells = refl
back Refusal.Scratch = refl
back Refusal.Tag = refl
back Refusal.Bucket = refl
back Refusal.Full = refl
back Refusal.EndsEarly = refl
back Refusal.Header = refl
back Refusal.Marks = refl
back Refusal.Fingerprint = refl
back Refusal.GoesOn = refl
back Refusal.Output = refl
back Refusal.WideCell = refl
back Refusal.Row = refl
back Refusal.Order = refl
back Refusal.Filling = refl
back Refusal.EarlierKind = refl
back Refusal.NotDegenerate = refl

pub same_refusal : (e f : Refusal) → number_told e ≡ number_told f → e ≡ f
same_refusal e f h = sym (back e) ∙ ap numbered h ∙ back f
