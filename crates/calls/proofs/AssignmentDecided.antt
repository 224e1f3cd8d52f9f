-- The decision decides the plain meaning.
-- Assumes nothing.
use Rattle.std.proofs.Common.{arith}
use Rattle.std.specs.Prelude.{List, []}
use Rattle.std.proofs.Math.Decide.{map_dec}
use Rattle.index.specs.Candidates.{Class}
use Rattle.calls.specs.Assignment.{Assignable}
use Rattle.calls.specs.AssignmentDecided.{Room, decided}

pub assignable : (ks : List Class) → Room [] ks → Assignable ks
assignable ks r = (r.0, r.1, λ x. omega (arith, r.2 x))

pub beside-none : (ks : List Class) → Assignable ks → Room [] ks
beside-none ks a = (a.0, a.1, λ x. omega (arith, a.2 x))

pub dec_assignable : (ks : List Class) → Dec (Assignable ks)
dec_assignable ks = map_dec (assignable ks) (beside-none ks) (decided ks)
