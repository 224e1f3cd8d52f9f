use native.Mathlib.Omega.{arith}
use Rattle.lemmas.proofs.Bytes.{all-bytes}
use Rattle.packed.proofs.Reading.{input-of, some_bytes, filling-none, filling-last}
use Rattle.packed.proofs.Unpacker.filling_set.Goals as goal

pub overflow_sub-last : goal.overflow_sub-last
overflow_sub-last c = some_bytes (input-of c.args.self)

pub bounds-bytes-bytes : goal.bounds-bytes-bytes
bounds-bytes-bytes c = omega (arith, some_bytes (input-of c.args.self))

pub returns-then-half-eq0 : goal.returns-then-half-eq0
returns-then-half-eq0 c = filling-none (input-of c.args.self) (all-bytes _ c.args.self.in_range) c.if-half-eq0.true

pub returns : goal.returns
returns c = filling-last (input-of c.args.self) (all-bytes _ c.args.self.in_range) c.if-half-eq0.false
