-- From the answer of a layer below to the signed number that crosses the boundary.
-- Assumes nothing.
use Rattle.std.proofs.Common.{◌≡◌, ℕ, ◌<◌, ◌^◌, refl, ap, ◌∙◌}
use Rattle.std.specs.Prelude.{Result, Ok, Err}
use Rattle.std.specs.Result.{result_and}
use mathlib.Core.Option.{Option}
use lib.IntN.{ℤ}
use lib.Signed.{mag}
use mir.Syntax.{w64}
use mir.Val.{to_z, of_z}
use mir.Facts.{to_z-of_z}
use Rattle.refusals.specs.Outcomes.{given, unless}
use Rattle.refusals.specs.Refusals.{refused_by, told}
use Rattle.refusals.specs.declared.Refusal.{Refusal}
use Rattle.holdlist.specs.Numbers.{signed, itself}

-- a result is written as bits and read back
pub crosses : {z y : ℤ} → mag z < 2 ^ 63 → z ≡ y → to_z w64 (of_z w64 z) ≡ y
crosses f e = to_z-of_z {w = w64} (record { sfits = f }) ∙ e

-- a checking call that answers 0 where nothing refuses
pub checked : (r : Result (Unit {0}) Refusal) {o : Option ℕ} → refused_by r ≡ o → signed itself (told (result_and r (Ok 0))) ≡ signed itself (unless o (given 0))
checked r e = same r ∙ ap (λ o. signed itself (unless o (given 0))) e
  where
    same : (r : Result (Unit {0}) Refusal) → signed itself (told (result_and r (Ok 0))) ≡ signed itself (unless (refused_by r) (given 0))
    same (Ok x) = refl
    same (Err f) = refl
