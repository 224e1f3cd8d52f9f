use lib.ListN.{length, get_or}
use mathlib.Core.Path.{refl, ap, subst}
use Prim.Native.Nat.{ℕ, ◌+◌, ◌*◌, ◌≤◌}
use native.Mathlib.Omega.{arith}
use Rattle.lemmas.specs.Bytes.{bytes_of}
use Rattle.lemmas.proofs.Bytes.{bytes-length}
use Rattle.lemmas.proofs.Stores.{left-room, left-turn}
use Rattle.file_form.specs.Header.{sizes}
use Rattle.file_form.proofs.Laws.{header-laws}
use Rattle.file_header.specs.declared.TheConstants.{SIZES}
use Rattle.file_header.proofs.FieldLoops.{field_size, small-at, field-next, header-left}
use Rattle.file_header.proofs.store_header.Goals as goal

pub bounds-out-0 : goal.bounds-out-0
bounds-out-0 c = omega (arith, header-laws.some c.args.s, c.requires)

pub loop-i-init : goal.loop-i-init
loop-i-init c = header-left c.args.s c.args.out.now c.map_of-map.ensures c.values_of-values.ensures

pub put_number-at-requires : goal.put_number-at-requires
put_number-at-requires c =
    let l = c.loop-i in
    let n : ℕ = get_or sizes l.i 0 * c.from.result in
    let v : ℕ = get_or c.values_of-values.result l.i 0 in
    let next = field-next _ l.m l.i (ap length c.values_of-values.ensures) c.loop-i-test.true c.from.ensures in (
      field_size _ (small-at SIZES l.i refl) c.from.ensures,
      subst (λ (k : ℕ). l.at + k ≤ length l.out) (bytes-length n v) (left-room l.invariant (bytes_of n v) _ next (omega (arith, c.requires))),
    )

pub loop-i-preserved : goal.loop-i-preserved
loop-i-preserved c =
    let l = c.loop-i in
    left-turn l.invariant _ c.put_number-at.ensures (field-next _ l.m l.i (ap length c.values_of-values.ensures) c.loop-i-test.true c.from.ensures)
