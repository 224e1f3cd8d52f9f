-- What the calls answer that hand out a part of what a layer below answers.
-- Assumes nothing.
use Rattle.std.specs.Prelude.{List, ◌++◌, ℕ, take, replicate}
use Rattle.refusals.specs.Checks.{first_met}
use Rattle.refusals.specs.Outcomes.{Answer, refused, given, unless}
use Rattle.index.specs.Settings.{settings_refusal}
use Rattle.index.specs.declared.Entry.{Entry}
use Rattle.index.specs.declared.Settings.{Settings}
use Rattle.calls.specs.Calls.{view_checks}
use Rattle.holdlist.specs.Numbers.{numbers_of}

-- the two checking calls: 0, or the number
unfoldable pub settings_answer : Settings → Answer ℕ
settings_answer s = unless (settings_refusal s) (given 0)

unfoldable pub view_answer : Settings → List ℕ → ℕ → Answer ℕ
view_answer s c b = unless (first_met (view_checks s c b)) (given 0)

-- the two parts of a tag's entry
abbrev pub print_of : Entry → ℕ
print_of e = e.print

abbrev pub home_of : Entry → ℕ
home_of e = e.home

-- the four places that are lent for candidates: those in order and then 0, unchanged by a refusal
abbrev pub candidates_out : Answer (List ℕ) → List ℕ → List ℕ
candidates_out (refused n) out = out
candidates_out (given l) out = take 4 (l ++ replicate 4 0)

-- reading a hold file or its header answers 0, and the settings go to the places that are lent for them, unchanged by a refusal
abbrev pub no_number : Settings → ℕ
no_number s = 0

abbrev pub settings_out : Answer Settings → List ℕ → List ℕ
settings_out (refused n) out = out
settings_out (given s) out = numbers_of s
