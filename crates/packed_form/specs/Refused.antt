-- A writing of the packed form that is refused leaves the output as it was, and a refused reading the table.
-- Assumes nothing.
use Rattle.std.specs.Prelude.{◌≡◌, List, ℕ}
use Rattle.refusals.specs.Outcomes.{refused}
use Rattle.index.specs.declared.Settings.{Settings}
use Rattle.packed_form.specs.Writer.{write_packed}
use Rattle.packed_form.specs.Reader.{read_packed}

pub record RefusedPackKeeps : Type 0 where
  pub keeps : (s : Settings) (c out : List ℕ) (n : ℕ) → (write_packed s c out).answer ≡ refused n → (write_packed s c out).leaves ≡ out

pub record RefusedUnpackKeeps : Type 0 where
  pub keeps : (s : Settings) (bytes c : List ℕ) (n : ℕ) → (read_packed s bytes c).answer ≡ refused n → (read_packed s bytes c).leaves ≡ c
