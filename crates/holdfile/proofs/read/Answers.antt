use lib.ListN.{drop}
use mathlib.Core.Path.{refl, sym, ap, ◌∙◌}
use Rattle.refusals.specs.Outcomes.{Answer, given, outcome}
use Rattle.refusals.proofs.HandedOn.{told-on}
use Rattle.index.specs.declared.Settings.{Settings}
use Rattle.index.proofs.Laws.{laws}
use Rattle.calls.proofs.Laws.{table-check-laws}
use Rattle.file_form.specs.Parsed.{stop, next}
use Rattle.file_form.specs.Reader.{into}
use Rattle.holdfile.proofs.Reading.{checks-met, after-stops, after_read, body-read, ends_as, file-read}
use Rattle.holdfile.proofs.read.Goals as goal

pub returns-in_err-s : goal.returns-in_err-s
returns-in_err-s c =
    let t = c.args.table.now in
    ap (λ (x : Answer Settings). outcome x t) (told-on _ c.in_err-s.field-0.0 c.from_residual.ensures.1 refl)
    ∙ file-read c.args.bytes.now t (stop _) c.in_err-s.ensures.is refl

pub returns-in_err-table_check : goal.returns-in_err-table_check
returns-in_err-table_check c =
    let t = c.args.table.now in
    let h = c.in_ok-s in
    let rest = drop h.at c.args.bytes.now in
    ap (λ (x : Answer Settings). outcome x t) (told-on _ c.in_err-table_check.field-0.0 c.from_residual-in_err-table_check.ensures.1 refl)
    ∙ file-read c.args.bytes.now t (next h.s rest) h.ensures.is (ends_as t (checks-met h.s rest (into t) c.in_err-table_check.ensures))

pub invariant_of-body : goal.invariant_of-body
invariant_of-body c =
    let S = (table-check-laws c.in_ok-s.s c.args.table.now).sound (sym c.in_ok-table_check.ensures) in
    record { narrow = (laws _ S.settings).width_high }

pub returns-in_err-check : goal.returns-in_err-check
returns-in_err-check c =
    let t = c.args.table.now in
    let h = c.in_ok-s in
    let rest = drop h.at c.args.bytes.now in
    ap (λ (x : Answer Settings). outcome x t) (told-on _ c.in_err-check.field-0.0 c.from_residual-in_err-check.ensures.1 refl)
    ∙ file-read c.args.bytes.now t (next h.s rest) h.ensures.is (ends_as t (after-stops h.s rest (into t) c.in_ok-table_check.ensures (c.in_err-check.ensures h.s)))

pub store-requires : goal.store-requires
store-requires c =
    let S = (table-check-laws c.in_ok-s.s c.args.table.now).sound (sym c.in_ok-table_check.ensures) in
    (S.size, (body-read c.in_ok-s.s _ (c.in_ok-check.ensures c.in_ok-s.s)).gives)

pub returns : goal.returns
returns c =
    let t = c.args.table.now in
    let h = c.in_ok-s in
    let rest = drop h.at c.args.bytes.now in
    ap (outcome (given h.s)) c.store.ensures
    ∙ file-read c.args.bytes.now t (next h.s rest) h.ensures.is (ends_as t (after_read h.s rest (into t) c.in_ok-table_check.ensures (c.in_ok-check.ensures h.s)))
