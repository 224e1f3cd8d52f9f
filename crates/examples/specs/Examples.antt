-- The starred examples of document 01 as they stand now, a fingerprint and a file with a salt, as a list of what the definitions have to
-- yield. `proofs/Examples.antt` has the one theorem over it, which alone computes through the definitions of every layer.
-- Assumes nothing.
use Rattle.std.specs.Prelude.{◌≡◌, List, [], ◌∷◌, ◌++◌, ℕ, zero, suc, ◌*◌, length}
use Rattle.refusals.specs.Outcomes.{Answer, refused, given, outcome}
use Rattle.index.specs.Settings.{default_settings, with_salt}
use Rattle.index.specs.Hash.{fingerprint}
use Rattle.index.specs.Candidates.{others_by}
use Rattle.index.specs.declared.Settings.{Settings}
use Rattle.calls.specs.Calls.{Said, accepted, fresh}
use Rattle.calls.specs.Model.{Call, hold_of}
use Rattle.calls.specs.Demand.{run}
use Rattle.file_form.specs.Writer.{file_of}
use Rattle.file_form.specs.Reader.{read_file}
use Rattle.rows.specs.Rows.{quadruple, row_of}
use Rattle.packed_form.specs.Writer.{packed_of}

pub data Example : Type 0 where
  -- with an offset given, a bucket has these candidates, in order
  leads : (s : Settings) (offset bucket : ℕ) (candidates : List ℕ) → Example
  -- a tag has this fingerprint
  prints : (s : Settings) (tag : List ℕ) (fingerprint : ℕ) → Example
  -- a fresh table says this to a list of calls
  says : (s : Settings) (calls : List Call) (replies : List (Answer Said)) → Example
  -- settings and cells make this hold file, and reading it gives them back
  files : (s : Settings) (cells bytes : List ℕ) → Example
  -- a quadruple of high nibbles has this row
  row : (a b c d number : ℕ) → Example
  -- settings and cells have this packed form
  packs : (s : Settings) (cells bytes : List ℕ) → Example

abbrev pub Yields : Example → Type 0
Yields (leads s d b l) = b ∷ others_by s d b ≡ l
Yields (prints s tag p) = fingerprint s tag ≡ p
Yields (says s l r) = (run s (fresh s) l).replies ≡ r
Yields (files s c l) = (file_of s c ≡ l) × ((t : List ℕ) → length t ≡ 4 * s.buckets → read_file l t ≡ outcome (given s) c)
Yields (row a b c d r) = row_of (quadruple a b c d) ≡ r
Yields (packs s c l) = packed_of s c ≡ l

abbrev pub AllYield : List Example → Type 0
AllYield [] = Unit {0}
AllYield (e ∷ es) = Yields e × AllYield es

-- rule, bucket count and mask; the width has no part in these, and is the default's
abbrev pub with : ℕ → ℕ → ℕ → Settings
with r m k = record { rule = r; width = default_settings.width; buckets = m; mask = k; salt = default_settings.salt }

abbrev pub times : {A : Type 0} → ℕ → A → List A
times zero a = []
times (suc n) a = a ∷ times n a

-- rule 0, w = 4, M = 1
abbrev pub small : Settings
small = record { rule = 0; width = 4; buckets = 1; mask = 0; salt = 0 }

-- the same with a salt
abbrev pub salted : Settings
salted = with_salt 0x0123456789ABCDEF small

-- so many holds of one tag, with as much scratch as M buckets ask
abbrev pub holds : ℕ → ℕ → List Call
holds n m = times n (hold_of (97 ∷ []) (2 * m))

unfoldable pub examples : List Example
examples =
    leads (with 0 8 0) 5 6 (6 ∷ 3 ∷ [])
    ∷ leads (with 0 8 0) 3 4 (4 ∷ 7 ∷ [])
    ∷ leads (with 1 10 0) 4 3 (3 ∷ 7 ∷ [])
    ∷ leads (with 1 10 0) 4 7 (7 ∷ 3 ∷ [])
    ∷ leads (with 2 16 12) 13 6 (6 ∷ 10 ∷ 7 ∷ 11 ∷ [])
    ∷ leads (with 2 16 12) 13 10 (10 ∷ 6 ∷ 11 ∷ 7 ∷ [])
    ∷ prints (with 0 4096 0) (97 ∷ []) 3377
    ∷ says (with 0 1 0) (holds 5 1) (times 4 (given (accepted 0)) ++ (refused 9 ∷ []))
    ∷ says (with 1 2 0) (holds 9 2) (times 8 (given (accepted 0)) ++ (refused 9 ∷ []))
    ∷ files small (0 ∷ 9 ∷ 0 ∷ 3 ∷ []) (0x26 ∷ 0x04 ∷ 0x00 ∷ 0x00 ∷ 0x0A ∷ 0x09 ∷ 0x00 ∷ 0x03 ∷ 0x00 ∷ [])
    ∷ files salted (0 ∷ 9 ∷ 0 ∷ 3 ∷ [])
    (0x36 ∷ 0x04 ∷ 0x00 ∷ 0x00 ∷ 0xEF ∷ 0xCD ∷ 0xAB ∷ 0x89 ∷ 0x67 ∷ 0x45 ∷ 0x23 ∷ 0x01 ∷ 0x0A ∷ 0x09 ∷ 0x00 ∷ 0x03 ∷ 0x00 ∷ [])
    ∷ row 0 0 0 15 15
    ∷ row 0 0 1 1 16
    ∷ row 0 1 1 1 136
    ∷ row 1 1 1 1 816
    ∷ row 15 15 15 15 3875
    ∷ packs small (0 ∷ 9 ∷ 0 ∷ 3 ∷ []) (0x33 ∷ 0x00 ∷ [])
    ∷ []
