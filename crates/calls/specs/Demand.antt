-- Demand 3: whatever list of calls a fresh table is given, it answers as the reference model does and holds what the model holds; and so
-- from every other table, with the model that begins with its entries.
-- Assumes nothing.
use Rattle.std.specs.Prelude.{◌≡◌, cond, ◌↔◌, ℕ, zero, suc, ◌+◌, ◌*◌, ◌/◌, ◌≤◌, eqb, length}
use mathlib.Core.List.{List, [], ◌∷◌, map, Permᴰ}
use Rattle.refusals.specs.Outcomes.{Answer, refused, given, outcome}
use Rattle.index.specs.Candidates.{Class, class_at, class_of}
use Rattle.index.specs.declared.Settings.{Settings}
use Rattle.calls.specs.Cells.{cell}
use Rattle.calls.specs.Calls.{Said, cleared, released, absent, accepted, copies, Result, Sound, Held, fresh, clear_table, lookup, release, hold}
use Rattle.calls.specs.Multiset.{count, Same}
use Rattle.calls.specs.Assignment.{Assignable}
use Rattle.calls.specs.Model.{Call, hold_of, release_of, lookup_of, model_run}

-- ── the table's side ──
abbrev pub table_call : Settings → List ℕ → Call → Result
table_call s c (hold_of t n) = hold s c n t
table_call s c (release_of t) = release s c t
table_call s c (lookup_of t) = lookup s c t

pub record Run : Type 0 where
  pub replies : List (Answer Said)
  pub cells : List ℕ

-- each call gets the cells that the last one left
abbrev pub run : Settings → List ℕ → List Call → Run
run s c [] = record { replies = []; cells = c }
run s c (a ∷ l) =
    let r = table_call s c a in
    let n = run s r.leaves l in
    record { replies = r.answer ∷ n.replies; cells = n.cells }

-- the filled cells among the first n, each as its fingerprint with the candidate set from its bucket
abbrev pub filled_below : Settings → List ℕ → ℕ → List Class
filled_below s c zero = []
filled_below s c (suc n) = let rest = filled_below s c n in cond (eqb (cell c n) 0) rest (class_at s (cell c n) (n / 4) ∷ rest)

unfoldable pub entries : Settings → List ℕ → List Class
entries s c = filled_below s c (4 * s.buckets)

-- ── what is compared and counted ──
-- an accepted hold counts as accepted, whatever its moves
abbrev pub forget_moves : Said → Said
forget_moves (accepted n) = accepted 0
forget_moves (copies n) = copies n
forget_moves cleared = cleared
forget_moves released = released
forget_moves absent = absent

abbrev pub forget : Answer Said → Answer Said
forget (refused n) = refused n
forget (given x) = given (forget_moves x)

-- 1 for an accepted hold, and for a release that said released
abbrev pub accepted_one : Said → ℕ
accepted_one (accepted n) = 1
accepted_one (copies n) = 0
accepted_one cleared = 0
accepted_one released = 0
accepted_one absent = 0

abbrev pub released_one : Said → ℕ
released_one (accepted n) = 0
released_one (copies n) = 0
released_one cleared = 0
released_one released = 1
released_one absent = 0

-- a refusal is neither
abbrev pub is_accepted : Answer Said → ℕ
is_accepted (refused n) = 0
is_accepted (given x) = accepted_one x

abbrev pub is_released : Answer Said → ℕ
is_released (refused n) = 0
is_released (given x) = released_one x

abbrev pub tally : (Answer Said → ℕ) → List (Answer Said) → ℕ
tally f [] = 0
tally f (r ∷ l) = f r + tally f l

-- ── demand 3, of a list of calls from a fresh table ──
pub record Demand3 (s : Settings) (l : List Call) : Type 0 where
  -- the fresh table is the one that clear leaves
  pub starts : (c : List ℕ) → length c ≡ 4 * s.buckets → clear_table s c ≡ outcome (given cleared) (fresh s)
  -- the answers agree, call by call
  pub replies : map forget (run s (fresh s) l).replies ≡ (model_run s [] l).replies
  -- the filled cells as classes are the model's entries, repeats counted and order apart
  pub holds : Permᴰ (entries s (run s (fresh s) l).cells) (model_run s [] l).entries
  -- their number is that of accepted holds less that of releases that said released
  pub counted : length (entries s (run s (fresh s) l).cells) + tally is_released (run s (fresh s) l).replies ≡ tally is_accepted (run s (fresh s) l).replies
  -- the table keeps its length
  pub size : length (run s (fresh s) l).cells ≡ 4 * s.buckets
  -- a lookup of a tag of 1 to 64 bytes answers how many copies of its class the model then has
  pub lookup_copies : (t : List ℕ) → 1 ≤ length t → length t ≤ 64
      → (table_call s (run s (fresh s) l).cells (lookup_of t)).answer ≡ given (copies (count (class_of s t) (model_run s [] l).entries))
  -- and says held exactly if the model then has the class
  pub lookup_held : (t : List ℕ) → 1 ≤ length t → length t ≤ 64
      → Held (table_call s (run s (fresh s) l).cells (lookup_of t)).answer ↔ (1 ≤ count (class_of s t) (model_run s [] l).entries)
  -- a hold of a tag of 1 to 64 bytes, with scratch of at least 2 × M numbers, is refused with 9 exactly if the model's entries and the new
  -- one cannot be assigned
  pub hold_nine : (t : List ℕ) (n : ℕ) → 1 ≤ length t → length t ≤ 64 → 2 * s.buckets ≤ n
      → ((table_call s (run s (fresh s) l).cells (hold_of t n)).answer ≡ refused 9) ↔ (¬ Assignable (class_of s t ∷ (model_run s [] l).entries))

-- ── demand 3, of a list of calls from any table ──
-- the table represents these entries: they are its filled cells, and what it says of a tag is said of them
pub record Represents (s : Settings) (c : List ℕ) (E : List Class) : Type 0 where
  pub holds : Permᴰ (entries s c) E
  pub size : length c ≡ 4 * s.buckets
  pub lookup_copies : (t : List ℕ) → 1 ≤ length t → length t ≤ 64 → (table_call s c (lookup_of t)).answer ≡ given (copies (count (class_of s t) E))
  pub lookup_held : (t : List ℕ) → 1 ≤ length t → length t ≤ 64 → Held (table_call s c (lookup_of t)).answer ↔ (1 ≤ count (class_of s t) E)
  pub hold_nine : (t : List ℕ) (n : ℕ) → 1 ≤ length t → length t ≤ 64 → 2 * s.buckets ≤ n
      → ((table_call s c (hold_of t n)).answer ≡ refused 9) ↔ (¬ Assignable (class_of s t ∷ E))

-- the calls get the table c first, and the model begins with the entries E
pub record Demand3From (s : Settings) (c : List ℕ) (E : List Class) (l : List Call) : Type 0 where
  -- the answers agree, call by call
  pub replies : map forget (run s c l).replies ≡ (model_run s E l).replies
  -- then the table represents what the model has
  pub after : Represents s (run s c l).cells (model_run s E l).entries
  -- the entries at first and the accepted holds, less the releases that said released
  pub counted : length (entries s (run s c l).cells) + tally is_released (run s c l).replies ≡ length E + tally is_accepted (run s c l).replies

pub record FromEveryTable : Type 0 where
  -- for settings that pass, every table of 4 × M cells, values of 2^w and above too, and a model that begins with the same multiset
  pub same : (s : Settings) (c : List ℕ) (E : List Class) → Sound s c → Same (entries s c) E → (l : List Call) → Demand3From s c E l
  -- as the table's own entries are
  pub own : (s : Settings) (c : List ℕ) → Sound s c → (l : List Call) → Demand3From s c (entries s c) l
  -- demand 3 is the case of the fresh table that clear leaves, and of an empty model: the two say the same, whatever the settings
  pub fresh_case : (s : Settings) (l : List Call)
      → (((c : List ℕ) → length c ≡ 4 * s.buckets → clear_table s c ≡ outcome (given cleared) (fresh s)) × Demand3From s (fresh s) [] l) ↔ Demand3 s l
