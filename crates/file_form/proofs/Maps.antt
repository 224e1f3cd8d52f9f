-- What a map's own tests tell, and which maps pass them.
-- Assumes nothing.
use mathlib.Core.Path.{◌≡◌, ap}
use mathlib.Core.Bool.{true, not}
use mathlib.Core.Option.{none}
use mathlib.Core.List.{[], ◌∷◌}
use Prim.Native.Nat.{ℕ, ◌<◌}
use borrow.Author.Tests.{leb-false, lt-leb, not-false}
use lib.Dec.{leb}
use Rattle.refusals.specs.Checks.{check, first_met}
use Rattle.refusals.proofs.Cursor.{start, passed, none_left, not-met}
use Rattle.file_form.specs.Fields.{bit}
use Rattle.file_form.specs.Header.{map_checks}

pub map-told : (m : ℕ) → first_met (map_checks m) ≡ none → (m < 64) × (bit 5 m ≡ true)
unfolding map_checks
map-told m e =
    let a = not-met (check 12 (leb 64 m)) (check 23 (not (bit 5 m)) ∷ []) e in
    let b = not-met (check 23 (not (bit 5 m))) [] a.1 in
    (leb-false 64 m a.0, not-false (bit 5 m) b.0)

pub map-passes : (m : ℕ) → m < 64 → bit 5 m ≡ true → first_met (map_checks m) ≡ none
unfolding map_checks
map-passes m h b = none_left (passed (passed (start (map_checks m)) (lt-leb 64 m h)) (ap not b))
