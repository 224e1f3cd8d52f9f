-- After a packed form is read every list of calls goes on as the entries in it: a table is left, its entries are those that were packed,
-- and demand 3 holds from every table.
-- Assumes nothing.
use mathlib.Core.Path.{◌≡◌, sym, ap, ◌∙◌}
use mathlib.Core.List.{List}
use Prim.Native.Nat.{ℕ, ◌*◌}
use native.Mathlib.Omega.{arith}
use lib.ListN.{length, take}
use Rattle.lemmas.specs.Sums.{total}
use Rattle.refusals.specs.Outcomes.{given, Outcome, outcome}
use Rattle.index.specs.Candidates.{Class}
use Rattle.index.specs.declared.Settings.{Settings}
use Rattle.calls.specs.Calls.{Sound}
use Rattle.calls.specs.Multiset.{Same}
use Rattle.calls.specs.Model.{Call}
use Rattle.calls.specs.Demand.{entries, Demand3From}
use Rattle.calls.proofs.Demand.{from-every-table}
use Rattle.calls.proofs.Laws.{filled-laws, writer-laws}
use Rattle.packed_form.specs.Writer.{sort_buckets, packed_of, write_packed}
use Rattle.packed_form.specs.Reader.{read_packed}
use Rattle.packed_form.specs.RoundTrip.{Packable}
use Rattle.packed_form.specs.GoesOn.{UnpackedGoesOn}
use Rattle.packed_form.proofs.Keeps.{sorted-agrees}
use Rattle.packed_form.proofs.Refusals.{read-accepted}
use Rattle.packed_form.proofs.RoundTrip.{packed-is-read, read-sound}

module _ (s : Settings) (c out k t : List ℕ) (n : ℕ) (e : write_packed s c out ≡ outcome (given n) k) (h : length t ≡ 4 * s.buckets) where
  -- what was packed
  packable : Packable s c
  unfolding write_packed
  packable = let w = (writer-laws s c (packed_of s c) out).accepted n k e in record { sound = w.sound; fits = w.fits }

  -- the sorted buckets are left
  goes_on : (E : List Class) → Same (entries s (sort_buckets c)) E → (l : List Call) → Demand3From s (read_packed s (take n k) t).leaves E l
  goes_on E m l =
      let back = packed-is-read.again s c out k t n e h in
      let size = ap (λ (r : Outcome ℕ (List ℕ)). length r.leaves) back in
      let S : Sound s (read_packed s (take n k) t).leaves = record { settings = packable.sound.settings; size = omega (arith, size, (sorted-agrees s c packable).size) } in
      from-every-table.same s _ E S (λ w. omega (arith, ap (λ (r : Outcome ℕ (List ℕ)). total w (entries s r.leaves)) back, m w)) l

  -- their entries are those of the table that was packed
  kept : Same (entries s (sort_buckets c)) (entries s c)
  kept = (sorted-agrees s c packable).same

pub unpacked-goes-on : UnpackedGoesOn
unpacked-goes-on = record {
  accepted = λ s bytes t c n e l. from-every-table.own s c (read-sound s bytes t c n e) l;
  count = λ s bytes t c n e. (read-accepted s bytes t n c e).count ∙ sym (filled-laws.as_entries s c (read-sound s bytes t c n e).size);
  saved = λ s c out k t n e h l. goes_on s c out k t n e h _ (λ w. omega (arith, kept s c out k t n e h w)) l;
  as_before = λ s c out k t n e h l.
      (goes_on s c out k t n e h (entries s c) (kept s c out k t n e h) l).replies ∙ sym (from-every-table.own s c (packable s c out k t n e h).sound l).replies;
}
