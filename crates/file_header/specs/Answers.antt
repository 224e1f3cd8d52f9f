-- What the calls answer by their results, and what the writing one leaves.
-- Assumes nothing.
use Rattle.std.specs.Prelude.{◌≡◌, cond, List, ℕ, ◌≤◌, leb, length, drop, Result, Ok, Err}
use Rattle.std.proofs.lemmas.List.Edits.{sets}
use Rattle.refusals.specs.Refusals.{number_told}
use Rattle.refusals.specs.declared.Refusal.{Refusal}
use Rattle.index.specs.declared.Settings.{Settings}
use Rattle.file_form.specs.Parsed.{Parsed, stop, next}
use Rattle.file_form.specs.Writer.{header}

-- a place in the bytes l stands for the bytes from there on
abbrev pub header_is : List ℕ → Result (Settings × ℕ) Refusal → Parsed Settings
header_is l (Ok (s, at)) = next s (drop at l)
header_is l (Err e) = stop (number_told e)

-- what is read of a header, and a place that lies in the bytes: so there is one such place
abbrev pub PlaceIn : List ℕ → Result (Settings × ℕ) Refusal → Type 0
PlaceIn l (Ok (s, at)) = at ≤ length l
PlaceIn l (Err e) = Unit {0}

pub record HeaderTaken (l : List ℕ) (r : Result (Settings × ℕ) Refusal) (whole : Parsed Settings) : Type 0 where
  pub is : header_is l r ≡ whole
  pub inside : PlaceIn l r

-- the header at the start of an output that has room for it, and its size; an output without room is as it was
pub record HeaderPut (s : Settings) (before after : List ℕ) (size : ℕ) : Type 0 where
  pub output : after ≡ cond (leb (length (header s)) (length before)) (sets before 0 (header s)) before
  pub count : size ≡ length (header s)
