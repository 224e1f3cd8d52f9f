use Rattle.std.proofs.Common.{ℕ, ◌<◌, ◌≢◌, List, [], ◌∷◌, sym, refl, ap, ◌∙◌, subst, arith}
use lib.Bits.{bit_and, bit_xor}
use Rattle.refusals.proofs.HandedOn.{handed_on}
use Rattle.index.proofs.Answers.{as_passed, bucket-in, list-refused, list-given}
use Rattle.index.proofs.Good.{Good, good}
use Rattle.index.proofs.Laws.{masked-list, third-step}
use Rattle.index.specs.Candidates.{offset as offset_of, candidates as candidates_of}
use Rattle.index.specs.declared.Settings.{Settings}
use Rattle.index.proofs.candidates.Goals as goal

pub returns-in_err-passed : goal.returns-in_err-passed
returns-in_err-passed c =
    let a = c.args in
    rw (handed_on _ c.in_err-passed.field-0.0 c.from_residual.ensures.1)
    (record { says = list-refused a.s a.bucket a.fingerprint c.in_err-passed.ensures.refused; whole = tt })

pub partner-other-requires : goal.partner-other-requires
partner-other-requires c =
    let p = c.in_ok-passed in
    let back = sym p.ensures.same in
    (subst (λ (s : Settings). s.rule ≢ 2) back c.if-rule-ne2.true, subst (λ (s : Settings). c.args.bucket < s.buckets) back p.ensures.inside, c.offset-d.ensures)

pub returns-then-rule-ne2 : goal.returns-then-rule-ne2
returns-then-rule-ne2 c =
    let a = c.args in
    let p = c.in_ok-passed in
    let e = p.ensures.same in
    let list = ap (λ (s : Settings). candidates_of s a.fingerprint a.bucket) (sym e) ∙ c.partner-other.ensures in
    record { says = list-given a.s a.bucket a.fingerprint (bucket-in _ (as_passed p.passed e) _ p.ensures.inside) list; whole = refl }

pub returns : goal.returns
returns c =
    let a = c.args in
    let b = a.bucket in
    let p = c.in_ok-passed in
    let e = p.ensures.same in
    let passes = as_passed p.passed e in
    let g : Good a.s = good _ (sym passes) in
    let not_plain : a.s.rule ≢ 0 = λ z. omega (arith, c.if-rule-ne2.false) in
    let not-ring : a.s.rule ≢ 1 = λ z. omega (arith, c.if-rule-ne2.false) in
    let put : ℕ → List ℕ = λ y. b ∷ bit_xor b (bit_and y a.s.mask) ∷ bit_xor (bit_xor b y) (bit_and y a.s.mask) ∷ bit_xor b y ∷ [] in
    let third = third-step a.s g a.fingerprint b not_plain not-ring in
    let D = offset_of a.s a.fingerprint in
    let offset = c.offset-d.ensures ∙ ap (λ (s : Settings). offset_of s a.fingerprint) e in
    let list =
    masked-list a.s a.fingerprint b not_plain not-ring ∙ ap (λ (x : ℕ). b ∷ bit_xor b (bit_and D a.s.mask) ∷ x ∷ bit_xor b D ∷ []) (sym third)
    ∙ ap put (sym offset) in
    record { says = list-given a.s b a.fingerprint (bucket-in _ passes _ p.ensures.inside) list; whole = refl }
