-- The contract of the passes over the cells.
-- Assumes nothing.
use Rattle.std.specs.Prelude.{◌≡◌, List, ℕ, ◌≤◌, leb}
use Rattle.calls.specs.Cells.{filled_count}
use Rattle.calls.specs.WrittenForms.{any_from}

-- the largest cell, by which all limits are told, and how many cells are filled
pub record Seen (c : List ℕ) (r : ℕ × ℕ) : Type 0 where
  pub top : (n : ℕ) → 1 ≤ n → any_from n c ≡ leb n r.0
  pub filled : r.1 ≡ filled_count c
