-- An answer as one signed number: 0 or more is the answer itself, below 0 is minus the number of a refusal. That no call is refused with
-- 0, so that no answer and no refusal share a number, is said in Results.
-- Assumes nothing.
use Rattle.std.specs.Prelude.{◌≡◌, List, [], ◌∷◌, ℕ, ◌+◌, ◌*◌, ◌/◌, ◌%◌, ◌^◌, ◌<◌, ℤ, pos, neg_ℤ, get_or}
use Rattle.refusals.specs.Outcomes.{Answer, refused, given}
use Rattle.index.specs.Settings.{Representable}
use Rattle.index.specs.declared.Settings.{Settings}
use Rattle.calls.specs.Calls.{Said, cleared, released, absent, accepted, copies}

-- the settings that a list of 32-bit numbers is, as C's struct has them, and the list that settings are. The salt is two of them, the low
-- one first, as a little-endian machine keeps a number of 64 bits
abbrev pub settings_at : List ℕ → Settings
settings_at l = record { rule = get_or l 0 0; width = get_or l 1 0; buckets = get_or l 2 0; mask = get_or l 3 0; salt = get_or l 4 0 + 2 ^ 32 * get_or l 5 0 }

abbrev pub numbers_of : Settings → List ℕ
numbers_of s = s.rule ∷ s.width ∷ s.buckets ∷ s.mask ∷ s.salt % 2 ^ 32 ∷ s.salt / 2 ^ 32 ∷ []

pub record LentSettings : Type 0 where
  -- what was handed out and is lent again is the same settings
  pub again : (s : Settings) → settings_at (numbers_of s) ≡ s
  -- numbers of 32 bits make settings that fit their types, as the hold file's round trip asks
  pub representable : (l : List ℕ) → ((i : ℕ) → get_or l i 0 < 2 ^ 32) → Representable (settings_at l)

abbrev pub minus : ℕ → ℤ
minus n = neg_ℤ (pos n)

-- an answer, by the number that stands for its values
abbrev pub signed : {A : Type 0} → (A → ℕ) → Answer A → ℤ
signed f (given a) = pos (f a)
signed f (refused n) = minus n

-- a number stands for itself
abbrev pub itself : ℕ → ℕ
itself n = n

-- what a call of the table says
abbrev pub said_number : Said → ℕ
said_number cleared = 0
said_number released = 1
said_number absent = 0
said_number (accepted n) = n
said_number (copies n) = n
