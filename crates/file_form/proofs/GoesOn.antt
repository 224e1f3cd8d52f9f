-- After a hold file is read every list of calls goes on as the entries in it: a table is left, and demand 3 holds from every table.
-- Assumes nothing.
use mathlib.Core.Path.{ap}
use mathlib.Core.List.{List}
use Prim.Native.Nat.{ℕ}
use native.Mathlib.Omega.{arith}
use lib.ListN.{length, take}
use Rattle.lemmas.specs.Sums.{total}
use Rattle.refusals.specs.Outcomes.{Outcome}
use Rattle.index.specs.declared.Settings.{Settings}
use Rattle.calls.specs.Demand.{entries}
use Rattle.calls.proofs.Demand.{from-every-table}
use Rattle.file_form.specs.GoesOn.{ReadGoesOn}
use Rattle.file_form.proofs.RoundTrip.{written-is-read, read-sound}

pub read_goes_on : ReadGoesOn
read_goes_on = record {
  accepted = λ bytes t c s e l. from-every-table.own s c (read-sound bytes t c s e) l;
  saved = λ s c out k t n z e h l.
      let back = written-is-read.again s c out k t n z e h in
      let S = read-sound (take n k) t c s back in
      let size = ap (λ (r : Outcome Settings (List ℕ)). length r.leaves) back in
      from-every-table.same s _ _ (record { settings = S.settings; size = omega (arith, size, S.size) })
      (λ w. omega (arith, ap (λ (r : Outcome Settings (List ℕ)). total w (entries s r.leaves)) back)) l;
}
