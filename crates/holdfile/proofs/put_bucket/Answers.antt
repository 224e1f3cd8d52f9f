use Prim.Native.Nat.{ℕ, ◌+◌}
use lib.ListN.{length, get_or}
use mathlib.Core.List.{List, [], ◌∷◌, ◌++◌, append-nil}
use mathlib.Core.Path.{◌≡◌, refl, sym, ap, ap₂, ◌∙◌, subst}
use native.Mathlib.Omega.{arith}
use Rattle.file_form.specs.Writer.{cell_bytes}
use Rattle.lemmas.specs.Stores.{PutBefore}
use Rattle.lemmas.proofs.Stores.{put-before, before-then}
use Rattle.holdfile.specs.Internal.{slack, bytes_of_bucket}
use Rattle.file_form.proofs.Sizes.{size-laws}
use Rattle.holdfile.proofs.put_bucket.Goals as goal

-- the bytes of a cell
abbrev cell : List ℕ → ℕ → List ℕ
cell t i = cell_bytes (get_or t i 0)

pub returns : goal.returns
returns c =
    let t = c.args.cells.now in
    let size : 1 + (c.print_size.result + c.print_size-2.result) + (c.print_size-3.result + c.print_size-4.result) ≡ length (bytes_of_bucket t) =
    omega (
      arith,
      size-laws.bucket (get_or t 0 0) (get_or t 1 0) (get_or t 2 0) (get_or t 3 0),
      size-laws.cell (get_or t 0 0),
      size-laws.cell (get_or t 1 0),
      size-laws.cell (get_or t 2 0),
      size-laws.cell (get_or t 3 0),
      c.print_size.ensures.0,
      c.print_size-2.ensures.0,
      c.print_size-3.ensures.0,
      c.print_size-4.ensures.0,
    ) in
    let all : PutBefore (slack c.args.ahead) c.args.out.now c.put_cell.new.out c.args.at ((c.nibble-marks.result ∷ []) ++ (cell t 0 ++ (cell t 1 ++ (cell t 2 ++ cell t 3)))) c.put_cell.result =
    before-then {a = c.nibble-marks.result ∷ []} (put-before (record { output = refl; place = refl }))
    (before-then c.put_cell-second.ensures (before-then c.put_cell-third.ensures (before-then c.put_cell-fourth.ensures c.put_cell.ensures))) in
    let bytes = ap₂ (λ (n : ℕ) (l : List ℕ). n ∷ (cell t 0 ++ (cell t 1 ++ (cell t 2 ++ l)))) c.nibble-marks.ensures (sym (append-nil (cell t 3))) in
    let k = subst (λ (l : List ℕ). PutBefore (slack c.args.ahead) c.args.out.now c.put_cell.new.out c.args.at l c.put_cell.result) bytes all in
    subst (PutBefore (slack c.args.ahead) c.args.out.now c.put_cell.new.out c.args.at (bytes_of_bucket t)) (k.place ∙ ap (λ (n : ℕ). c.args.at + n) (sym size)) k
