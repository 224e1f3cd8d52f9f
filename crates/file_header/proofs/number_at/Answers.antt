use lib.ListN.{length, take, drop, length-take, length-drop}
use mathlib.Core.Path.{◌≡◌, sym, ap, ◌∙◌}
use Prim.Native.Nat.{ℕ, ◌+◌, ◌-◌}
use native.Mathlib.Omega.{arith}
use Rattle.lemmas.specs.Bytes.{number_from}
use Rattle.file_form.specs.Parsed.{next}
use Rattle.file_header.proofs.Digits.{number-read}
use Rattle.file_header.proofs.FieldLoops.{number_short, number-taken}
use Rattle.file_header.proofs.number_at.Goals as goal

pub returns-then-bytes-at : goal.returns-then-bytes-at
returns-then-bytes-at c = let a = c.args in record { is = sym (number_short a.bytes.now a.at a.n c.if-bytes-at.true); inside = tt }

pub returns : goal.returns
returns c =
    let a = c.args in
    let l = a.bytes.now in
    let n : a.at + a.n - a.at ≡ a.n = omega arith in
    let part : c.copy_from_slice.new.self ≡ take a.n (drop a.at l) = c.copy_from_slice.ensures.after ∙ ap (λ (k : ℕ). take k (drop a.at l)) n in
    let long : length c.copy_from_slice.new.self ≡ a.n = ap length part ∙ omega (arith, length-take a.n (drop a.at l), length-drop a.at l) in
    let v : c.from_le_bytes.result ≡ number_from (take a.n (drop a.at l)) =
    c.from_le_bytes.ensures ∙ number-read a.n c.copy_from_slice.new.self (omega arith) long ∙ ap number_from part in
    record { is = ap (λ (x : ℕ). next x (drop (a.at + a.n) l)) v ∙ sym (number-taken l a.at a.n c.if-bytes-at.false); inside = omega arith }
