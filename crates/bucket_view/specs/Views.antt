-- What a view's contract promises.
-- Assumes nothing.
use Rattle.std.specs.Prelude.{◌≡◌, List, ℕ, ◌+◌, ◌*◌}
use Rattle.index.specs.declared.Settings.{Settings}
use Rattle.calls.specs.Calls.{viewed, view_number}

-- a view: the bucket's four cells, none where it is refused; and where it is good they are the caller's own, eight bytes for each bucket
-- before them behind the table's start. A place is a block of memory and a byte in it
pub record Views (s : Settings) (c : List ℕ) (b : ℕ) (table part : ℕ × ℕ) (cells : List ℕ) : Type 0 where
  pub values : cells ≡ viewed s c b
  pub place : view_number s c b ≡ 0 → part ≡ (table.0, table.1 + 2 * (4 * b))
