-- The settings that four numbers are, without a salt, which no view depends on.
-- Assumes nothing.
use Rattle.std.specs.Prelude.{ℕ}
use Rattle.index.specs.declared.Settings.{Settings}

abbrev pub settings_of : ℕ → ℕ → ℕ → ℕ → Settings
settings_of rule width buckets mask = record { rule = rule; width = width; buckets = buckets; mask = mask; salt = 0 }
