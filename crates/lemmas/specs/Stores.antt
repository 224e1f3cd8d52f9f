-- Numbers stored in a list one after the other.
-- Assumes nothing.
use Rattle.std.specs.Prelude.{◌≡◌, List, ◌++◌, ℕ, ◌+◌, ◌≤◌, length}
use Rattle.std.proofs.lemmas.List.Edits.{sets}

-- these were stored from a place on, and nothing else was; the place after them
pub record Put (before after : List ℕ) (at : ℕ) (stored : List ℕ) (end : ℕ) : Type 0 where
  pub output : after ≡ sets before at stored
  pub place : end ≡ at + length stored

-- these were stored from a place on, and what else was changed lies in the `slack` places after them: stored over by what follows, if
-- that is as long
pub record PutBefore (slack : ℕ) (before after : List ℕ) (at : ℕ) (stored : List ℕ) (end : ℕ) : Type 0 where
  pub output : (more : List ℕ) → slack ≤ length more → sets after end more ≡ sets before at (stored ++ more)
  pub place : end ≡ at + length stored
