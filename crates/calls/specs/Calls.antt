-- The table's calls, as functions of settings, cells, tag and the length of scratch.
-- Assumes nothing.
use Rattle.std.specs.Prelude.{not, ◌≡◌, List, [], ◌∷◌, ◌++◌, ℕ, ◌*◌, ◌≤◌, eqb, ltb, length, set, replicate}
use Rattle.std.proofs.Math.Option.{Option, none, some}
use Rattle.lemmas.specs.Sums.{total}
use Rattle.refusals.specs.Checks.{Check, check, first_met, number_of}
use Rattle.refusals.specs.Outcomes.{Answer, refused, given, unless, Done, done, Outcome, keeping}
use Rattle.index.specs.Settings.{settings_checks, settings_refusal}
use Rattle.index.specs.Hash.{fingerprint, home, tag_checks}
use Rattle.index.specs.Candidates.{candidates, candidate_set, bucket_checks}
use Rattle.index.specs.declared.Settings.{Settings}
use Rattle.calls.specs.Cells.{bucket_of, copies_at, lowest_at, lowest_empty, in_first}
use Rattle.calls.specs.Search.{Ending, found, exhausted, search_for, relocate}

-- what a call says; of a hold how many entries moved, of a lookup how many copies there are
pub data Said : Type 0 where
  cleared released absent : Said
  accepted copies : ℕ → Said

-- what a call that no check refuses comes to, and how a call ends: with the cells that it leaves
abbrev pub Act : Type 0
Act = Answer (Done Said (List ℕ))

abbrev pub Result : Type 0
Result = Outcome Said (List ℕ)

-- the rows of the places "settings" and "table", which every call checks first, and that of the place "scratch"
abbrev pub size_checks : Settings → List ℕ → List Check
size_checks s c = check 5 (not (eqb (length c) (4 * s.buckets))) ∷ []

unfoldable pub table_checks : Settings → List ℕ → List Check
table_checks s c = settings_checks s ++ size_checks s c

unfoldable pub scratch_checks : Settings → ℕ → List Check
scratch_checks s n = check 6 (ltb n (2 * s.buckets)) ∷ []

-- settings that pass, and a table of their length: nothing of table_checks is met
pub record Sound (s : Settings) (c : List ℕ) : Type 0 where
  pub settings : settings_refusal s ≡ none
  pub size : length c ≡ 4 * s.buckets

-- ── clear ──
unfoldable pub fresh : Settings → List ℕ
fresh s = replicate (4 * s.buckets) 0

unfoldable pub clear_table : Settings → List ℕ → Result
clear_table s c = keeping c (unless (first_met (table_checks s c)) (given (done cleared (fresh s))))

-- ── lookup and release ──
unfoldable pub tagged_checks : Settings → List ℕ → List ℕ → List Check
tagged_checks s c tag = table_checks s c ++ tag_checks tag

-- the lowest cell with the fingerprint in the first candidate that has one
unfoldable pub found_in : Settings → List ℕ → ℕ → ℕ → Option ℕ
found_in s c p b = in_first (lowest_at c p) (candidates s p b)

-- how many copies of the fingerprint the candidate set has: each of its buckets is counted once, even where candidates coincide
unfoldable pub copies_in : Settings → List ℕ → ℕ → ℕ → ℕ
copies_in s c p b = total (copies_at c p) (candidate_set s p b)

unfoldable pub lookup_in : Settings → List ℕ → ℕ → ℕ → Act
lookup_in s c p b = given (done (copies (copies_in s c p b)) c)

unfoldable pub lookup : Settings → List ℕ → List ℕ → Result
lookup s c tag = keeping c (unless (first_met (tagged_checks s c tag)) (lookup_in s c (fingerprint s tag) (home s tag)))

-- the tag is held: a lookup answers a number above 0
abbrev pub copies_said : Said → ℕ
copies_said (copies n) = n
copies_said (accepted n) = 0
copies_said cleared = 0
copies_said released = 0
copies_said absent = 0

abbrev pub Held : Answer Said → Type 0
Held (refused n) = ⊥
Held (given x) = 1 ≤ copies_said x

abbrev pub emptied : List ℕ → Option ℕ → Act
emptied c (some i) = given (done released (set c i 0))
emptied c none = given (done absent c)

unfoldable pub release_in : Settings → List ℕ → ℕ → ℕ → Act
release_in s c p b = emptied c (found_in s c p b)

unfoldable pub release : Settings → List ℕ → List ℕ → Result
release s c tag = keeping c (unless (first_met (tagged_checks s c tag)) (release_in s c (fingerprint s tag) (home s tag)))

-- ── hold ──
unfoldable pub hold_checks : Settings → List ℕ → ℕ → List ℕ → List Check
hold_checks s c n tag = table_checks s c ++ (scratch_checks s n ++ tag_checks tag)

abbrev pub settled : List ℕ → ℕ → Ending → Act
settled c p (found i n q) = given (done (accepted (length n.path)) (relocate c i n.path p))
settled c p (exhausted q) = refused 9

abbrev pub placed : List ℕ → ℕ → Option ℕ → Ending → Act
placed c p (some i) o = given (done (accepted 0) (set c i p))
placed c p none o = settled c p o

-- a fingerprint placed from a bucket: in the lowest empty cell of the first candidate that has one, else by the search
unfoldable pub hold_in : Settings → List ℕ → ℕ → ℕ → Act
hold_in s c p b =
    let o = search_for s c p b in
    placed c p (in_first (lowest_empty c) (candidates s p b)) o

unfoldable pub hold : Settings → List ℕ → ℕ → List ℕ → Result
hold s c n tag = keeping c (unless (first_met (hold_checks s c n tag)) (hold_in s c (fingerprint s tag) (home s tag)))

-- ── the bucket view ──
unfoldable pub view_checks : Settings → List ℕ → ℕ → List Check
view_checks s c b = table_checks s c ++ bucket_checks s b

-- the bucket's four cells; a refused view hands back an empty part
abbrev pub part_of : Answer (List ℕ) → List ℕ
part_of (given l) = l
part_of (refused n) = []

unfoldable pub viewed : Settings → List ℕ → ℕ → List ℕ
viewed s c b = part_of (unless (first_met (view_checks s c b)) (given (bucket_of c b)))

-- the checking call: the number, 0 for a good view
unfoldable pub view_number : Settings → List ℕ → ℕ → ℕ
view_number s c b = number_of (first_met (view_checks s c b))
