-- Contracts of the functions inside.
-- Assumes nothing.
use Rattle.std.specs.Prelude.{List, ◌≡◌, ℕ, ◌≤◌, length, drop, Option, Some, None}
use Rattle.file_form.specs.Parsed.{Parsed, stop, next}

-- a place in the bytes l stands for the bytes from there on
abbrev pub number_is : List ℕ → Option (ℕ × ℕ) → Parsed ℕ
number_is l (Some (v, at)) = next v (drop at l)
number_is l None = stop 11

abbrev pub EndIn : List ℕ → Option (ℕ × ℕ) → Type 0
EndIn l (Some (v, at)) = at ≤ length l
EndIn l None = Unit {0}

-- what is read from a place in the bytes on, and that it leads to another
pub record NumberTaken (l : List ℕ) (r : Option (ℕ × ℕ)) (whole : Parsed ℕ) : Type 0 where
  pub is : number_is l r ≡ whole
  pub inside : EndIn l r
