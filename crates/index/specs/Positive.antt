-- No call of this layer is refused with 0, and no check of it that the layers above make has that number.
-- Assumes nothing.
use Rattle.std.specs.Prelude.{ℕ, List}
use Rattle.refusals.specs.Checks.{Numbered}
use Rattle.refusals.specs.Positive.{Positive}
use Rattle.index.specs.Settings.{settings_checks, former_checks}
use Rattle.index.specs.Hash.{tag_checks}
use Rattle.index.specs.Candidates.{bucket_checks}
use Rattle.index.specs.Answers.{entry_of, offset_answer, candidates_answer}
use Rattle.index.specs.declared.Settings.{Settings}

pub record PositiveIndex (s : Settings) : Type 0 where
  pub settings_numbered : Numbered (settings_checks s)
  pub former_numbered : Numbered (former_checks s)
  pub tag_numbered : (tag : List ℕ) → Numbered (tag_checks tag)
  pub bucket_numbered : (b : ℕ) → Numbered (bucket_checks s b)
  pub entry : (tag : List ℕ) → Positive (entry_of s tag)
  pub offset : (p : ℕ) → Positive (offset_answer s p)
  pub candidates : (p b : ℕ) → Positive (candidates_answer s p b)
