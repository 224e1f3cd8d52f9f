use mathlib.Core.Path.{◌≡◌, sym, ap, ◌∙◌}
use Prim.Native.Nat.{ℕ, ◌+◌, ◌-◌}
use native.Mathlib.Omega.{arith}
use Rattle.lemmas.specs.Bytes.{bytes_of}
use Rattle.lemmas.proofs.Bytes.{bytes-length}
use lib.ListN.{drop, length-take, length-drop}
use Rattle.file_header.proofs.Laws.{part-stored}
use Rattle.file_header.proofs.put_number.Goals as goal

pub returns : goal.returns
returns c =
    let a = c.args in
    let long = ap (λ (k : ℕ). a.from + k) (sym (bytes-length a.n a.v)) in
    let n : a.from + a.n - a.from ≡ a.n = omega arith in
    let size = length-take (a.from + a.n - a.from) (drop a.from a.out.now) in
    let low = c.emit.ensures ∙ ap (λ (k : ℕ). bytes_of k a.v) (omega (arith, n, size, length-drop a.from a.out.now, c.requires)) in
    record { output = part-stored a.from (a.from + a.n) a.out.now c.emit.new.part (bytes_of a.n a.v) long c.requires.1 low; place = long }
