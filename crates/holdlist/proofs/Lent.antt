-- Settings as C lends them: nothing is lost on the way out and in, and each fits its type.
-- Assumes nothing.
use mathlib.Core.Path.{◌≡◌, refl}
use mathlib.Core.List.{List}
use Prim.Native.Nat.{ℕ, ◌+◌, ◌*◌, ◌/◌, ◌%◌, ◌^◌, ◌<◌}
use native.Mathlib.Omega.{arith}
use lib.ListN.{get_or}
use Rattle.index.specs.Settings.{Representable}
use Rattle.index.specs.declared.Settings.{Settings}
use Rattle.holdlist.specs.Numbers.{settings_at, numbers_of, LentSettings}

again : (s : Settings) → settings_at (numbers_of s) ≡ s
again s =
    let e : s.salt % 2 ^ 32 + 2 ^ 32 * (s.salt / 2 ^ 32) ≡ s.salt = omega arith in
    rw e refl

representable : (l : List ℕ) → ((i : ℕ) → get_or l i 0 < 2 ^ 32) → Representable (settings_at l)
representable l h = record { rule = h 0; width = h 1; buckets = h 2; mask = h 3; salt = omega (arith, h 4, h 5) }

pub lent-settings : LentSettings
lent-settings = record { again = again; representable = representable }
