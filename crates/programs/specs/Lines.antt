-- The fields of a line, which spaces part, and the numbers and settings that they are.
-- Assumes nothing.
use Rattle.std.specs.Prelude.{ℕ, List, ◌==◌, ◌^◌, ◌-◌, min, zero, suc}
use Rattle.std.specs.Option.{unwrap_or}
use Rattle.std.specs.List.{before_first, after_first}
use Rattle.digits.specs.Numbers.{decimal_of}
use Rattle.index.specs.declared.Settings.{Settings}

-- the first field of a line
abbrev pub field : List ℕ → List ℕ
field l = before_first (λ b. b == 32) l

-- what follows so many fields
abbrev pub past : ℕ → List ℕ → List ℕ
past zero l = l
past (suc k) l = past k (after_first (λ b. b == 32) l)

-- the number that the first field is, at most so much; 0 where the field is none
abbrev pub number_in : ℕ → List ℕ → ℕ
number_in most l = min (unwrap_or (decimal_of 18446744073709551615 (field l)) 0) most

-- the settings that the first five fields are
abbrev pub settings_in : List ℕ → Settings
settings_in l = record {
  rule = number_in 4294967295 l;
  width = number_in 4294967295 (past 1 l);
  buckets = number_in 4294967295 (past 2 l);
  mask = number_in 4294967295 (past 3 l);
  salt = number_in 18446744073709551615 (past 4 l);
}
