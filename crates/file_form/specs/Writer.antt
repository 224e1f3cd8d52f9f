-- The hold file of settings and cells, the writer, and the length that is told beforehand.
-- Assumes nothing.
use Rattle.std.specs.Prelude.{Bool, not, List, [], ◌∷◌, ◌++◌, ℕ, eqb}
use Rattle.refusals.specs.Outcomes.{Answer}
use Rattle.index.specs.declared.Settings.{Settings}
use Rattle.calls.specs.WrittenForms.{Written, written, length_of}
use Rattle.file_form.specs.Bytes.{pair, nibble, where?}
use Rattle.file_form.specs.Fields.{field_bytes}
use Rattle.file_form.specs.Header.{sizes, values_of, map_of}

-- the map, and the fields in their order
unfoldable pub header : Settings → List ℕ
header s = map_of s ∷ field_bytes sizes (map_of s) (values_of s)

-- a cell that is not empty
abbrev pub filled : ℕ → Bool
filled v = not (eqb v 0)

-- the fingerprints of the filled cells, in order
abbrev pub cell_bytes : ℕ → List ℕ
cell_bytes v = where? (filled v) (pair v)

abbrev pub prints : List ℕ → List ℕ
prints [] = []
prints (v ∷ l) = cell_bytes v ++ prints l

-- a bucket: a byte that marks its filled cells, and their fingerprints
abbrev pub bucket_bytes : ℕ → ℕ → ℕ → ℕ → List ℕ
bucket_bytes a b c d = nibble (filled a) (filled b) (filled c) (filled d) ∷ prints (a ∷ b ∷ c ∷ d ∷ [])

-- the buckets, four cells each
unfoldable pub body : List ℕ → List ℕ
body [] = []
body (a ∷ []) = []
body (a ∷ b ∷ []) = []
body (a ∷ b ∷ c ∷ []) = []
body (a ∷ b ∷ c ∷ d ∷ rest) = bucket_bytes a b c d ++ body rest

unfoldable pub file_of : Settings → List ℕ → List ℕ
file_of s c = header s ++ body c

unfoldable pub write_file : Settings → List ℕ → List ℕ → Written
write_file s c out = written s c (file_of s c) out

-- the number of bytes that the file will have
unfoldable pub length_of_file : Settings → List ℕ → Answer ℕ
length_of_file s c = length_of s c (file_of s c)
