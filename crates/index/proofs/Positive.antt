-- No call of this layer is refused with 0.
-- Assumes nothing.
use Rattle.std.proofs.Common.{ℕ, List, ◌++◌, arith}
use Rattle.refusals.specs.Checks.{Numbered}
use Rattle.refusals.specs.Positive.{Positive}
use Rattle.refusals.proofs.Cursor.{numbered-both}
use Rattle.refusals.proofs.Positive.{positive-laws}
use Rattle.index.specs.Settings.{settings_checks}
use Rattle.index.specs.Hash.{tag_checks}
use Rattle.index.specs.Candidates.{bucket_checks}
use Rattle.index.specs.Answers.{entry_of, offset_answer, candidates_answer}
use Rattle.index.specs.Positive.{PositiveIndex}
use Rattle.index.specs.declared.Settings.{Settings}
use Rattle.index.proofs.Refusals.{numbered-former}
use Rattle.index.proofs.Checks.{numbered}

tag_numbered : (tag : List ℕ) → Numbered (tag_checks tag)
unfolding tag_checks
tag_numbered tag = (omega arith, tt)

module _ (s : Settings) where
  bucket_numbered : (b : ℕ) → Numbered (bucket_checks s b)
  unfolding bucket_checks
  bucket_numbered b = (omega arith, tt)

  entry : (tag : List ℕ) → Positive (entry_of s tag)
  unfolding entry_of
  entry tag = positive-laws.checked (settings_checks s ++ tag_checks tag) _ (numbered-both (settings_checks s) (tag_checks tag) (numbered s) (tag_numbered tag)) tt

  offset : (p : ℕ) → Positive (offset_answer s p)
  unfolding offset_answer
  offset p = positive-laws.checked (settings_checks s) _ (numbered s) tt

  candidates : (p b : ℕ) → Positive (candidates_answer s p b)
  unfolding candidates_answer
  candidates p b = positive-laws.checked (settings_checks s ++ bucket_checks s b) _ (numbered-both (settings_checks s) (bucket_checks s b) (numbered s) (bucket_numbered b)) tt

  pub positive-index : PositiveIndex s
  positive-index = record {
    settings_numbered = numbered s;
    former_numbered = numbered-former s;
    tag_numbered = tag_numbered;
    bucket_numbered = bucket_numbered;
    entry = entry;
    offset = offset;
    candidates = candidates;
  }
