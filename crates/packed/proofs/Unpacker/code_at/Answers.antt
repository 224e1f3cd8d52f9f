use Prim.Native.Nat.{◌*◌, ◌-◌, ◌/◌, ◌%◌}
use mathlib.Core.Path.{◌∙◌}
use native.Mathlib.Omega.{arith}
use Rattle.lemmas.proofs.Bytes.{all-bytes}
use Rattle.packed.proofs.Bytes.{half-bits}
use Rattle.packed.proofs.Reading.{input-of, bucket_inside, code_read}
use Rattle.packed.proofs.Unpacker.code_at.Goals as goal

pub word_at-requires : goal.word_at-requires
word_at-requires c = (bucket_inside (input-of c.args.self) c.requires).1

pub returns : goal.returns
returns c =
    let I = input-of c.args.self in
    let bytes = c.args.self.bytes.now in
    let half = (c.args.self.width.bits - 1) * c.args.b in
    c.low.ensures ∙ code_read I.width c.args.b (half / 2) (half % 2 * 4) (omega (arith, half-bits c.args.self.width.bits c.args.b)) (omega arith)
    bytes (all-bytes bytes c.args.self.in_range) c.word_at.ensures
