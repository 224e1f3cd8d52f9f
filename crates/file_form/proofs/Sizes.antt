-- How many bytes cells, a bucket, the buckets and the whole file have.
-- Assumes nothing.
use mathlib.Core.Path.{◌≡◌, refl, ◌∙◌}
use mathlib.Core.Bool.{Bool, true, false, cond, not}
use mathlib.Core.List.{List, [], ◌∷◌, ◌++◌}
use Prim.Native.Nat.{ℕ, zero, suc, ◌+◌, ◌*◌, ◌≤◌}
use native.Mathlib.Omega.{arith}
use lib.Dec.{eqb}
use lib.ListN.{length, length-append}
use Rattle.refusals.specs.Outcomes.{given}
use Rattle.index.specs.declared.Settings.{Settings}
use Rattle.index.proofs.Laws.{laws}
use Rattle.calls.specs.Cells.{filled_count}
use Rattle.calls.specs.Calls.{Sound}
use Rattle.calls.proofs.Laws.{filled-laws, length-laws}
use Rattle.file_form.specs.Bytes.{pair, where?}
use Rattle.file_form.specs.Writer.{header, filled, cell_bytes, bucket_bytes, body, file_of, length_of_file}
use Rattle.file_form.specs.Laws.{SizeLaws, FileLengthLaws}
use Rattle.file_form.proofs.Laws.{header-laws}

part_length : (t : Bool) (l : List ℕ) → length (where? t l) ≡ cond t (length l) 0
part_length true l = refl
part_length false l = refl

cell-length : (v : ℕ) → length (cell_bytes v) ≡ cond (filled v) 2 0
cell-length v = part_length (filled v) (pair v)

-- two for a filled cell
two : (v : ℕ) → length (cell_bytes v) ≡ 2 * cond (eqb v 0) 0 1
two v = cell-length v ∙ go (eqb v 0)
  where
    go : (b : Bool) → cond (not b) 2 0 ≡ 2 * cond b 0 1
    go true = refl
    go false = refl

bucket-length : (a b c d : ℕ) → length (bucket_bytes a b c d) ≡ 1 + length (cell_bytes a) + length (cell_bytes b) + length (cell_bytes c) + length (cell_bytes d)
bucket-length a b c d = simp length-append (omega arith)

body-length : (m : ℕ) (c : List ℕ) → length c ≡ 4 * m → length (body c) ≡ m + 2 * filled_count c
unfolding body
body-length zero [] e = refl
body-length zero (a ∷ l) e = absurd (omega arith)
body-length (suc m) [] e = absurd (omega arith)
body-length (suc m) (a ∷ []) e = absurd (omega arith)
body-length (suc m) (a ∷ b ∷ []) e = absurd (omega arith)
body-length (suc m) (a ∷ b ∷ c ∷ []) e = absurd (omega arith)
body-length (suc m) (a ∷ b ∷ c ∷ d ∷ l) e =
    omega (arith, length-append (bucket_bytes a b c d) (body l), bucket-length a b c d, two a, two b, two c, two d, body-length m l (omega arith))

pub size-laws : SizeLaws
size-laws = record { cell = cell-length; bucket = bucket-length; body = body-length }

module _ (s : Settings) (c : List ℕ) where
  parts : length (file_of s c) ≡ length (header s) + length (body c)
  unfolding file_of
  parts = length-append (header s) (body c)

  tells : (n : ℕ) → length_of_file s c ≡ given n → Sound s c × (n ≡ length (file_of s c))
  unfolding length_of_file file_of
  tells n e = (length-laws s c (header s ++ body c)).tells n e

  most : (n : ℕ) → length_of_file s c ≡ given n → n ≤ 16 + 9 * 65536
  most n e =
      let k = tells n e in
      omega (arith, k.1, parts, header-laws.most s, body-length s.buckets c k.0.size, filled-laws.most c, k.0.size, (laws s k.0.settings).few_buckets)

  pub file-length-laws : FileLengthLaws s c
  unfolding length_of_file file_of
  file-length-laws =
      let L = length-laws s c (header s ++ body c) in
      record { parts = parts; stopped = λ e. L.stopped e; wide = L.wide; gives = L.gives; tells = tells; most = most }
