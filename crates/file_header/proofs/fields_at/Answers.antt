use lib.ListN.{drop, length-set}
use mathlib.Core.Path.{sym, ap, ◌∙◌, subst}
use native.Mathlib.Omega.{arith}
use Rattle.file_form.specs.Header.{sizes}
use Rattle.file_header.specs.Internal.{number_is, EndIn}
use Rattle.file_header.proofs.FieldLoops.{taken, fields-stop, fields-turn, fields-short, values-fit, map_other, map_same}
use Rattle.file_header.proofs.fields_at.Goals as goal

pub returns-in_default : goal.returns-in_default
returns-in_default c =
    let l = c.loop-i in
    let a = c.args in
    let short = ap (number_is a.bytes.now) (sym c.in_default.is) ∙ c.field_at.ensures.is in
    record {
      is = fields-short a.map (drop a.from a.bytes.now) (fields-stop sizes l.m l.values l.i l.invariant.long c.loop-i-test.true (drop l.at a.bytes.now) short ∙ l.invariant.is);
      inside = tt;
    }

pub loop-i-preserved : goal.loop-i-preserved
loop-i-preserved c =
    let l = c.loop-i in
    let a = c.args in
    record {
      is = fields-turn sizes l.m l.values l.i l.invariant.long c.loop-i-test.true (drop l.at a.bytes.now) (drop c.in-Some.next a.bytes.now) c.in-Some.v
          (ap (number_is a.bytes.now) (sym c.in-Some.is) ∙ c.field_at.ensures.is)
          ∙ l.invariant.is;
      long = simp length-set l.invariant.long;
      inside = subst (EndIn a.bytes.now) c.in-Some.is c.field_at.ensures.inside;
    }

pub settings_from-s-requires : goal.settings_from-s-requires
settings_from-s-requires c = values-fit (taken c.loop-i.invariant c.requires.0 (λ x. omega (arith, c.type_inv.bytes x)) c.loop-i-test.false)

pub returns-then-map-from : goal.returns-then-map-from
returns-then-map-from c =
    let t = taken c.loop-i.invariant c.requires.0 (λ x. omega (arith, c.type_inv.bytes x)) c.loop-i-test.false in
    record { is = map_other t _ _ c.settings_from-s.ensures (c.from.ensures ∙ c.map_of.ensures) c.if-map-from.true; inside = tt }

pub returns : goal.returns
returns c =
    let t = taken c.loop-i.invariant c.requires.0 (λ x. omega (arith, c.type_inv.bytes x)) c.loop-i-test.false in
    record { is = map_same t _ _ c.settings_from-s.ensures (c.from.ensures ∙ c.map_of.ensures) c.if-map-from.false; inside = c.loop-i.invariant.inside }
