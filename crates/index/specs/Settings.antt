-- The settings: rule, width w, bucket count M, mask m, salt. Their checks are 1 to 4; no salt is refused.
-- Assumes nothing.
use Rattle.std.specs.Prelude.{ℕ, zero, suc, ◌-◌, ◌/◌, ◌%◌, ◌^◌, ◌<◌, Bool, false, not, ◌||◌, List, [], ◌∷◌, ◌++◌, ◌==◌, nat_le, nat_lt}
use Rattle.std.proofs.Math.Option.{Option}
use Rattle.refusals.specs.Checks.{Check, check, first_met}
use Rattle.index.specs.declared.Settings.{Settings}

-- rule 0 is plain (partial-key XOR), 1 ring (additive and subtractive), 2 masked (vertical)
abbrev pub by_rule : {A : Type 0} → ℕ → A → A → A → A
by_rule zero plain ring masked = plain
by_rule (suc zero) plain ring masked = ring
by_rule (suc (suc n)) plain ring masked = masked

-- the default settings: rule 0, width 12, 4,096 buckets, mask 0, salt 0
abbrev pub default_settings : Settings
default_settings = record { rule = 0; width = 12; buckets = 4096; mask = 0; salt = 0 }

-- the same settings with another salt
abbrev pub with_salt : ℕ → Settings → Settings
with_salt k s = record { rule = s.rule; width = s.width; buckets = s.buckets; mask = s.mask; salt = k }

-- each setting fits the type that the code has for it. Here a setting is any number, and no check bounds the salt
pub record Representable (s : Settings) : Type 0 where
  pub rule : s.rule < 2 ^ 32
  pub width : s.width < 2 ^ 32
  pub buckets : s.buckets < 2 ^ 32
  pub mask : s.mask < 2 ^ 32
  pub salt : s.salt < 2 ^ 64

-- m is 2 to the k for some k below n
abbrev pub is_power_below : ℕ → ℕ → Bool
is_power_below zero m = false
is_power_below (suc k) m = m == 2 ^ k || is_power_below k m

-- m is a power of two, of those up to 65,536
unfoldable pub power_of_two : ℕ → Bool
power_of_two m = is_power_below 17 m

abbrev pub odd : ℕ → Bool
odd m = m % 2 == 1

-- the bucket count has not the form that the rule asks
abbrev pub misshapen : Settings → Bool
misshapen s = by_rule s.rule (not (power_of_two s.buckets)) (odd s.buckets) (not (power_of_two s.buckets))

-- a mask that splits no offset (document 02: that does no work). It takes none of an offset's bits or all of them, so that the four
-- candidates of the masked rule are two
unfoldable pub degenerate : Settings → Bool
degenerate s = by_rule s.rule false false (s.mask == 0 || s.mask == s.buckets - 1)

-- a mask that does not fit the rule or the bucket count
abbrev pub overlong : Settings → Bool
overlong s = by_rule s.rule (not (s.mask == 0)) (not (s.mask == 0)) (nat_le s.buckets s.mask)

-- the rows of the place "settings", in their order: those before the mask's
unfoldable pub form_checks : Settings → List Check
form_checks s =
    check 1 (nat_lt 2 s.rule)
    ∷ check 2 (nat_lt s.width 4 || nat_lt 16 s.width)
    ∷ check 3 (s.buckets == 0 || nat_lt 65536 s.buckets || misshapen s)
    ∷ []

-- all of them, as they were while a degenerate mask still passed
unfoldable pub former_checks : Settings → List Check
former_checks s = form_checks s ++ (check 4 (overlong s) ∷ [])

abbrev pub former_refusal : Settings → Option ℕ
former_refusal s = first_met (former_checks s)

-- and as they are: such a mask is refused as one that is out of range is
unfoldable pub settings_checks : Settings → List Check
settings_checks s = former_checks s ++ (check 4 (degenerate s) ∷ [])

-- the first number by which the settings are refused, if any
abbrev pub settings_refusal : Settings → Option ℕ
settings_refusal s = first_met (settings_checks s)

-- the same width, bucket count and salt under the plain rule
abbrev pub unmasked : Settings → Settings
unmasked s = record { rule = 0; width = s.width; buckets = s.buckets; mask = 0; salt = s.salt }

-- L, half the bucket count, which the ring rule alone uses
unfoldable pub half : Settings → ℕ
half s = s.buckets / 2

-- what hashes are reduced by: M, under the ring rule L
unfoldable pub modulus : Settings → ℕ
modulus s = by_rule s.rule s.buckets (half s) s.buckets
