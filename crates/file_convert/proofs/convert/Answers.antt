use lib.ListN.{length}
use mathlib.Core.Path.{◌≡◌, refl, sym, ap, subst, ◌∙◌}
use Prim.Native.Nat.{ℕ}
use native.Mathlib.Omega.{arith}
use Rattle.lemmas.specs.Bytes.{AllBytes}
use Rattle.lemmas.specs.Stores.{Put}
use Rattle.lemmas.proofs.Bytes.{all-bytes}
use Rattle.refusals.specs.Outcomes.{Answer, outcome}
use Rattle.refusals.proofs.HandedOn.{told-on}
use Rattle.index.specs.Settings.{unmasked}
use Rattle.index.specs.declared.Settings.{Settings}
use Rattle.file_form.specs.Writer.{header}
use Rattle.file_form.proofs.Laws.{header-laws}
use Rattle.file_header.specs.Answers.{HeaderPut}
use Rattle.file_header.proofs.Laws.{header-put}
use Rattle.file_convert.proofs.Conversion.{unsound, passes-none, refuses-some, code_other, idle-file, code-short, code-written}
use Rattle.file_convert.proofs.convert.Goals as goal

pub returns-in_err-s : goal.returns-in_err-s
returns-in_err-s c =
    let o = c.args.out.now in
    ap (λ (x : Answer ℕ). outcome x o) (told-on _ c.in_err-s.field-0.0 c.from_residual.ensures.1 refl) ∙ unsound c.args.bytes.now o c.in_err-s.ensures

pub overflow_add-needed : goal.overflow_add-needed
overflow_add-needed c =
    let h : c.header_size.result ≡ length (header (unmasked c.in_ok-s.s)) = c.header_size.ensures ∙ ap (λ (t : Settings). length (header t)) c.unmasked-t.ensures in
    omega (arith, h, header-laws.most (unmasked c.in_ok-s.s), c.in_ok-s.ensures.0)

pub returns-then-out-needed : goal.returns-then-out-needed
returns-then-out-needed c =
    let l = c.args.bytes.now in
    let all : AllBytes l = all-bytes l (λ x. omega (arith, c.type_inv.bytes x)) in
    let h : c.header_size.result ≡ length (header (unmasked c.in_ok-s.s)) = c.header_size.ensures ∙ ap (λ (t : Settings). length (header t)) c.unmasked-t.ensures in
    let idle = idle-file c.in_ok-s.s l c.in_ok-s.at all c.in_ok-s.ensures (refuses-some _ c.check.ensures (sym c.is_ok-passes.ensures.value ∙ c.if-passes.false)) in
    code-short idle c.args.out.now h c.if-out-needed.true

pub returns : goal.returns
returns c =
    let l = c.args.bytes.now in
    let o = c.args.out.now in
    let s = c.in_ok-s.s in
    let all : AllBytes l = all-bytes l (λ x. omega (arith, c.type_inv.bytes x)) in
    let h : c.header_size.result ≡ length (header (unmasked s)) = c.header_size.ensures ∙ ap (λ (t : Settings). length (header t)) c.unmasked-t.ensures in
    let idle = idle-file s l c.in_ok-s.at all c.in_ok-s.ensures (refuses-some _ c.check.ensures (sym c.is_ok-passes.ensures.value ∙ c.if-passes.false)) in
    let put : Put o c.put_header-to.new.out 0 (header (unmasked s)) c.put_header-to.result =
    header-put (subst (λ (t : Settings). HeaderPut t o c.put_header-to.new.out c.put_header-to.result) c.unmasked-t.ensures c.put_header-to.ensures) (omega (arith, h, c.if-out-needed.false)) in
    code-written idle o h c.if-out-needed.false put c.copy.ensures

pub returns-then-passes : goal.returns-then-passes
returns-then-passes c =
    let l = c.args.bytes.now in
    let all : AllBytes l = all-bytes l (λ x. omega (arith, c.type_inv.bytes x)) in
    code_other c.in_ok-s.s l c.in_ok-s.at all c.in_ok-s.ensures c.args.out.now (passes-none _ c.check.ensures (sym c.is_ok-passes.ensures.value ∙ c.if-passes.true))
