-- What the callers use.
-- Assumes nothing.
use mathlib.Core.Path.{◌≡◌, sym, ap, ap₂, ◌∙◌}
use mathlib.Core.Bool.{Bool, cond}
use mathlib.Core.List.{List, ◌++◌, append_assoc}
use Prim.Native.Nat.{ℕ, ◌+◌, ◌-◌, ◌≤◌}
use native.Mathlib.Omega.{arith}
use borrow.Author.Tests.{le-leb}
use borrow.Rule.Slice.PartMut.{put_mid, Post-is}
use lib.ListN.{length, take, drop}
use lib.Seq.{sets, sets-eq}
use Rattle.lemmas.specs.Stores.{Put}
use Rattle.index.specs.declared.Settings.{Settings}
use Rattle.file_form.specs.Writer.{header}
use Rattle.file_header.specs.Answers.{HeaderPut}

-- the header has been put to an output that has room for it
pub header-put : {s : Settings} {o e : List ℕ} {n : ℕ} → HeaderPut s o e n → length (header s) ≤ length o → Put o e 0 (header s) n
header-put {s} {o} k h = record {
  output = k.output ∙ ap (λ (t : Bool). cond t (sets o 0 (header s)) o) (le-leb (length (header s)) (length o) h);
  place = omega (arith, k.count);
}

-- a part that is stored at once is stored number by number
pub part-stored : (a e : ℕ) (o part vs : List ℕ) → e ≡ a + length vs → e ≤ length o → part ≡ vs → put_mid a (e - a) o part ≡ sets o a vs
part-stored a e o part vs long h same =
    ap₂ (λ (x y : List ℕ). take a o ++ (x ++ y)) same (Post-is a e o (omega arith) ∙ ap (λ (k : ℕ). drop k o) long)
    ∙ sym (sets-eq vs o a (omega arith) ∙ append_assoc (take a o) vs (drop (a + length vs) o))
