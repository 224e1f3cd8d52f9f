use Prim.Native.Nat.{ℕ}
use mathlib.Core.Path.{refl, sym, ap, ◌∙◌}
use native.Mathlib.Omega.{arith}
use Rattle.lemmas.specs.Stores.{Put}
use Rattle.lemmas.proofs.Stores.{put-length}
use Rattle.refusals.specs.Outcomes.{Answer, outcome}
use Rattle.refusals.proofs.HandedOn.{told-on}
use Rattle.file_form.specs.Writer.{header}
use Rattle.file_form.proofs.Sizes.{file-length-laws}
use Rattle.file_form.proofs.Foretold.{length-foretold}
use Rattle.file_header.proofs.Laws.{header-put}
use Rattle.holdfile.proofs.Writing.{parts, answer-written}
use Rattle.holdfile.proofs.write.Goals as goal

pub returns-in_err-needed : goal.returns-in_err-needed
returns-in_err-needed c =
    let a = c.args in
    ap (λ (x : Answer ℕ). outcome x a.out.now) (told-on _ c.in_err-needed.field-0.0 c.from_residual.ensures.1 refl)
    ∙ sym (length-foretold.refuses a.s a.table.now a.out.now _ (sym c.in_err-needed.ensures))

pub returns-then-out-needed : goal.returns-then-out-needed
returns-then-out-needed c =
    let a = c.args in
    sym (length-foretold.short a.s a.table.now a.out.now _ (sym c.in_ok-needed.ensures) c.if-out-needed.true)

pub put_body-requires : goal.put_body-requires
put_body-requires c =
    let a = c.args in
    let n = parts a.s a.table.now a.out.now _ (sym c.in_ok-needed.ensures) in
    let k : Put a.out.now c.put_header-at.new.out 0 (header a.s) c.put_header-at.result = header-put c.put_header-at.ensures (omega (arith, n, c.if-out-needed.false)) in (
      omega (arith, ((file-length-laws a.s a.table.now).tells _ (sym c.in_ok-needed.ensures)).0.size),
      omega (arith, n, c.if-out-needed.false, k.place, put-length k),
    )

pub returns : goal.returns
returns c =
    let a = c.args in
    let n = parts a.s a.table.now a.out.now _ (sym c.in_ok-needed.ensures) in
    let k : Put a.out.now c.put_header-at.new.out 0 (header a.s) c.put_header-at.result = header-put c.put_header-at.ensures (omega (arith, n, c.if-out-needed.false)) in
    answer-written a.s a.table.now a.out.now _ (sym c.in_ok-needed.ensures) c.if-out-needed.false c.put_header-at.new.out _ _ k c.put_body.ensures
