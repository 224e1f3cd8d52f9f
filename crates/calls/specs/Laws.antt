-- The laws of the calls' definitions, which the crates above use: what a scan finds, how many cells are filled, a queue without repeats,
-- the checks of a table and of a writer, and how a table and a model that agree go on agreeing. `proofs/Laws.antt` proves them.
-- Assumes nothing.
use Rattle.std.specs.Prelude.{◌≡◌, ◌≢◌, true, false, cond, ℕ, ◌+◌, ◌*◌, ◌/◌, ◌^◌, ◌≤◌, ◌<◌, eqb, length, take, drop}
use Rattle.std.proofs.Math.Option.{Option, none, some}
use mathlib.Core.List.{List, [], ◌∷◌, ◌++◌, Permᴰ}
use Rattle.std.proofs.Math.Decide.{dec_le}
use Rattle.lemmas.specs.Count.{occ, ◌among◌}
use Rattle.lemmas.specs.Sums.{sum_to, total, total_once}
use Rattle.refusals.specs.Checks.{first_met, number_of, Numbered}
use Rattle.refusals.specs.Outcomes.{refused, given, Outcome, outcome, keeping}
use Rattle.index.specs.Settings.{settings_refusal}
use Rattle.index.specs.Candidates.{candidates, Class, class_at}
use Rattle.index.specs.declared.Settings.{Settings}
use Rattle.calls.specs.Cells.{cell, copies_at, lowest_at, lowest_empty, in_first, filled_count}
use Rattle.calls.specs.Search.{Node, marked, found, search_for}
use Rattle.calls.specs.Calls.{Said, Result, table_checks, scratch_checks, Sound, fresh, copies_in, lookup_in, release_in, hold_in}
use Rattle.calls.specs.WrittenForms.{any_from, written, length_of}
use Rattle.calls.specs.Multiset.{count, Same}
use Rattle.calls.specs.AssignmentDecided.{decided}
use Rattle.calls.specs.Model.{Call, to_hold, to_release, to_lookup, model_call}
use Rattle.calls.specs.Demand.{table_call, entries, forget, is_accepted, is_released}

-- ── what a scan of buckets finds ──
-- no cell of the buckets holds v, or the cell found does and is of one of them
abbrev pub Finds : List ℕ → ℕ → List ℕ → Option ℕ → Type 0
Finds c v bs none = (i : ℕ) → (i / 4) among bs → cell c i ≢ v
Finds c v bs (some i) = (cell c i ≡ v) × ((i / 4) among bs)

pub record ScanLaws : Type 0 where
  -- a bucket has four cells
  pub most : (c : List ℕ) (p b : ℕ) → copies_at c p b ≤ 4
  pub scans : (c : List ℕ) (p : ℕ) (bs : List ℕ) → Finds c p bs (in_first (lowest_at c p) bs)
  pub empties : (c bs : List ℕ) → Finds c 0 bs (in_first (lowest_empty c) bs)

-- ── how many cells are filled ──
pub record FilledLaws : Type 0 where
  pub most : (l : List ℕ) → filled_count l ≤ length l
  pub append : (l k : List ℕ) → filled_count (l ++ k) ≡ filled_count l + filled_count k
  -- in a table of 4 × M cells as many as there are entries
  pub as_entries : (s : Settings) (c : List ℕ) → length c ≡ 4 * s.buckets → length (entries s c) ≡ filled_count c

-- ── a queue of buckets below m, none of them twice ──
abbrev pub buckets_of : List Node → List ℕ
buckets_of [] = []
buckets_of (n ∷ q) = n.bucket ∷ buckets_of q

pub record Distinct (m : ℕ) (q : List Node) : Type 0 where
  pub below : (x : ℕ) → x among buckets_of q → x < m
  pub once : (x : ℕ) → occ x (buckets_of q) ≤ 1

pub record QueueLaws (m : ℕ) : Type 0 where
  pub starts : Distinct m []
  -- an unmarked bucket may be queued, and finds room
  pub grows : (q : List Node) (n : Node) → Distinct m q → n.bucket < m → marked n.bucket q ≡ false → Distinct m (q ++ (n ∷ []))
  pub room : (q : List Node) (n : Node) → Distinct m q → n.bucket < m → marked n.bucket q ≡ false → length q < m

-- ── the checks of settings and table, whatever is lent ──
pub record TableCheckLaws (s : Settings) (c : List ℕ) : Type 0 where
  pub numbered : Numbered (table_checks s c)
  -- the settings' number first, then 5, and nothing exactly if both are sound
  pub by_settings : (n : ℕ) → settings_refusal s ≡ some n → first_met (table_checks s c) ≡ some n
  pub by_size : settings_refusal s ≡ none → length c ≢ 4 * s.buckets → first_met (table_checks s c) ≡ some 5
  pub sound : first_met (table_checks s c) ≡ none → Sound s c
  pub passes : Sound s c → first_met (table_checks s c) ≡ none
  -- the same from the number that a checking call gives
  pub passed : {n : ℕ} → n ≡ number_of (first_met (table_checks s c)) → n ≡ 0 → Sound s c
  -- scratch of at least 2 × M numbers passes, any other gives 6
  pub scratch_passes : (n : ℕ) → 2 * s.buckets ≤ n → first_met (scratch_checks s n) ≡ none
  pub scratch_refused : (n : ℕ) → n < 2 * s.buckets → first_met (scratch_checks s n) ≡ some 6

-- ── a writer of either form, whatever bytes it has to write ──
-- what an accepted writing tells: the first n bytes of the output are the form's
pub record Wrote (s : Settings) (c bytes : List ℕ) (n : ℕ) (l : List ℕ) : Type 0 where
  pub sound : Sound s c
  pub fits : any_from (2 ^ s.width) c ≡ false
  pub first : take n l ≡ bytes

-- its checks in the order in which the code makes them, what it comes to where none is met, and back
pub record WriterLaws (s : Settings) (c bytes out : List ℕ) : Type 0 where
  pub stopped : {n : ℕ} → n ≡ number_of (first_met (table_checks s c)) → n ≢ 0 → outcome (refused n) out ≡ written s c bytes out
  pub wide : Sound s c → any_from (2 ^ s.width) c ≡ true → outcome (refused 17) out ≡ written s c bytes out
  pub short : Sound s c → any_from (2 ^ s.width) c ≡ false → length out < length bytes → outcome (refused 16) out ≡ written s c bytes out
  pub writes : Sound s c → any_from (2 ^ s.width) c ≡ false → length bytes ≤ length out → outcome (given (length bytes)) (bytes ++ drop (length bytes) out) ≡ written s c bytes out
  pub accepted : (n : ℕ) (l : List ℕ) → written s c bytes out ≡ outcome (given n) l → Wrote s c bytes n l

-- the length of a form, foretold: its checks in the order in which the code makes them, what it tells, and what the writer that is called
-- next does with any output
pub record LengthLaws (s : Settings) (c bytes : List ℕ) : Type 0 where
  pub stopped : {n : ℕ} → some n ≡ first_met (table_checks s c) → refused n ≡ length_of s c bytes
  pub wide : Sound s c → any_from (2 ^ s.width) c ≡ true → refused 17 ≡ length_of s c bytes
  pub gives : Sound s c → any_from (2 ^ s.width) c ≡ false → given (length bytes) ≡ length_of s c bytes
  pub tells : (n : ℕ) → length_of s c bytes ≡ given n → Sound s c × (n ≡ length bytes)
  pub next_refused : (n : ℕ) (out : List ℕ) → length_of s c bytes ≡ refused n → written s c bytes out ≡ outcome (refused n) out
  pub next_short : (n : ℕ) (out : List ℕ) → length_of s c bytes ≡ given n → length out < n → written s c bytes out ≡ outcome (refused 16) out
  pub next_fits : (n : ℕ) (out : List ℕ) → length_of s c bytes ≡ given n → n ≤ length out → written s c bytes out ≡ outcome (given n) (bytes ++ drop n out)

-- ── table and model ──
-- what a cell of bucket b with value v weighs: what its class does, and nothing if it is empty
abbrev pub weight_in : Settings → (Class → ℕ) → ℕ → ℕ → ℕ
weight_in s w b v = cond (eqb v 0) 0 (w (class_at s v b))

-- the table's entries are the model's, and the table has its length
pub record Agree (s : Settings) (c : List ℕ) (E : List Class) : Type 0 where
  pub same : Same (entries s c) E
  pub size : length c ≡ 4 * s.buckets

-- what a call does to both: they say the same but for the moves, agree again, and the entries grow by what the answer counts
pub record Step (s : Settings) (c : List ℕ) (r : Result) (m : Outcome Said (List Class)) : Type 0 where
  pub reply : forget r.answer ≡ m.answer
  pub after : Agree s r.leaves m.leaves
  pub counted : total (λ k. 1) (entries s r.leaves) + is_released r.answer ≡ total (λ k. 1) (entries s c) + is_accepted r.answer

pub record MultisetLaws : Type 0 where
  pub permutes : (l m : List Class) → Same l m → Permᴰ l m

-- for settings that pass their checks
pub record CallLaws (s : Settings) : Type 0 where
  -- a weight of the entries is a sum over the cells
  pub weighs : (w : Class → ℕ) (c : List ℕ) → total w (entries s c) ≡ sum_to (4 * s.buckets) (λ i. weight_in s w (i / 4) (cell c i))
  -- a search that finds ends inside the table
  pub found_within : (c : List ℕ) (p b : ℕ) → b < s.buckets → (i : ℕ) (n : Node) (q : List Node) → search_for s c p b ≡ found i n q → i < 4 * s.buckets
  -- the fresh table agrees with the empty model
  pub fresh_agrees : Agree s (fresh s) []
  -- the copies in the candidate set, counted over the listed candidates
  pub listed_once : (c : List ℕ) (p b : ℕ) → b < s.buckets → total_once s.buckets (copies_at c p) (candidates s p b) ≡ copies_in s c p b
  -- any fingerprint placed from any bucket, looked for there, and taken out
  pub places : (c : List ℕ) (E : List Class) → Agree s c E → (p b : ℕ) → p ≢ 0 → b < s.buckets
      → Step s c (keeping c (hold_in s c p b)) (keeping E (to_hold (class_at s p b) E (decided (class_at s p b ∷ E))))
  pub looks_up : (c : List ℕ) (E : List Class) → Agree s c E → (p b : ℕ) → p ≢ 0 → b < s.buckets
      → Step s c (keeping c (lookup_in s c p b)) (keeping E (to_lookup (class_at s p b) E))
  pub takes_out : (c : List ℕ) (E : List Class) → Agree s c E → (p b : ℕ) → p ≢ 0 → b < s.buckets
      → Step s c (keeping c (release_in s c p b)) (keeping E (to_release (class_at s p b) E (dec_le 1 (count (class_at s p b) E))))
  -- a whole call, refused or not
  pub steps : (c : List ℕ) (E : List Class) → Agree s c E → (a : Call) → Step s c (table_call s c a) (model_call s E a)
