-- What packing keeps: round trip both ways, every entry, and what later calls answer.
-- Assumes nothing.
use Rattle.std.specs.Prelude.{◌≡◌, ◌≢◌, false, ℕ, ◌*◌, ◌^◌, ◌≤◌, ◌<◌, length, take, drop}
use mathlib.Core.List.{List, ◌++◌, map, Permᴰ}
use Rattle.lemmas.specs.Bytes.{AllBytes}
use Rattle.refusals.specs.Outcomes.{given, outcome}
use Rattle.index.specs.declared.Settings.{Settings}
use Rattle.calls.specs.Cells.{filled_count}
use Rattle.calls.specs.Calls.{Sound, copies_in, lookup, release, hold}
use Rattle.calls.specs.Model.{Call}
use Rattle.calls.specs.Demand.{run, entries, forget}
use Rattle.calls.specs.WrittenForms.{any_from}
use Rattle.packed_form.specs.Writer.{sort_buckets, packed_of, write_packed}
use Rattle.packed_form.specs.Reader.{read_packed}

-- good settings, and a table of their length whose cells fit the width, whatever made it
pub record Packable (s : Settings) (c : List ℕ) : Type 0 where
  pub sound : Sound s c
  pub fits : any_from (2 ^ s.width) c ≡ false

-- reading what the writer made gives the sorted buckets
pub record PackedIsRead : Type 0 where
  pub back : (s : Settings) (c t : List ℕ) → Packable s c → length t ≡ 4 * s.buckets → read_packed s (packed_of s c) t ≡ outcome (given (filled_count c)) (sort_buckets c)
  -- and so over the writer itself: if it answers n, the reader given the first n bytes of its output gives the sorted buckets
  pub again : (s : Settings) (c out l t : List ℕ) (n : ℕ) → write_packed s c out ≡ outcome (given n) l → length t ≡ 4 * s.buckets
      → read_packed s (take n l) t ≡ outcome (given (filled_count c)) (sort_buckets c)

-- whatever bytes the reader accepts are those that the writer makes of the result
pub record ReadIsPacked : Type 0 where
  pub only : (s : Settings) (bytes t c : List ℕ) (n : ℕ) → AllBytes bytes → read_packed s bytes t ≡ outcome (given n) c → packed_of s c ≡ bytes
  pub makes : (s : Settings) (bytes t c out : List ℕ) (n : ℕ) → AllBytes bytes → read_packed s bytes t ≡ outcome (given n) c → length bytes ≤ length out
      → write_packed s c out ≡ outcome (given (length bytes)) (bytes ++ drop (length bytes) out)

-- packing keeps every entry: a lookup of any tag answers the same number, so does one of any fingerprint from any bucket, and the
-- entries are the same classes
pub record PackingKeeps : Type 0 where
  pub lookups : (s : Settings) (c tag : List ℕ) → Packable s c → (lookup s (sort_buckets c) tag).answer ≡ (lookup s c tag).answer
  pub counts : (s : Settings) (c : List ℕ) (p b : ℕ) → Packable s c → p ≢ 0 → b < s.buckets → copies_in s (sort_buckets c) p b ≡ copies_in s c p b
  pub classes : (s : Settings) (c : List ℕ) → Packable s c → Permᴰ (entries s (sort_buckets c)) (entries s c)

-- and the list goes on as it was, though its cells stand in another order
pub record PackingGoesOn : Type 0 where
  -- a release of any tag says the same
  pub releases : (s : Settings) (c tag : List ℕ) → Packable s c → (release s (sort_buckets c) tag).answer ≡ (release s c tag).answer
  -- a hold of any tag, with scratch of any length, is accepted in the same cases and with as many moves, and else refused with the same number
  pub holds : (s : Settings) (c tag : List ℕ) (n : ℕ) → Packable s c → (hold s (sort_buckets c) n tag).answer ≡ (hold s c n tag).answer
  -- every call of every list of calls says the same, moves apart: other entries may have moved before. And the entries are then the same classes
  pub replies : (s : Settings) (c : List ℕ) (l : List Call) → Packable s c → map forget (run s (sort_buckets c) l).replies ≡ map forget (run s c l).replies
  pub classes : (s : Settings) (c : List ℕ) (l : List Call) → Packable s c → Permᴰ (entries s (run s (sort_buckets c) l).cells) (entries s (run s c l).cells)
