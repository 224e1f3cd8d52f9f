use Rattle.std.proofs.Common.{◌≡◌, ℕ, ◌/◌, ◌<◌, [], ◌∷◌, sym, ap, ◌∙◌, subst, arith}
use lib.Bits.{bit_xor}
use Rattle.index.proofs.Good.{good, zero_of}
use Rattle.index.proofs.Laws.{plain-list, ring-list, ring-offset}
use Rattle.index.specs.Candidates.{across as across_of}
use Rattle.index.proofs.passed.Passed.partner.Goals as goal

pub across-requires : goal.across-requires
across-requires c =
    let a = c.args in
    let s = a.self.settings in
    let pre = c.requires in
    let g = good s a.self.passes in
    let l : a.d < s.buckets / 2 = subst (λ (d : ℕ). d < s.buckets / 2) (sym pre.2) (ring-offset s g c.if-rule-eq1.true a.fingerprint) in
    (l, omega (arith, g.few_buckets), omega (arith, g.even c.if-rule-eq1.true, pre.1))

pub returns-then-rule-eq1 : goal.returns-then-rule-eq1
returns-then-rule-eq1 c =
    let a = c.args in
    let s = a.self.settings in
    let x = c.across.ensures ∙ ap (λ (d : ℕ). across_of (s.buckets / 2) d a.bucket) c.requires.2 in
    ring-list s a.fingerprint a.bucket c.if-rule-eq1.true ∙ ap (λ (y : ℕ). a.bucket ∷ y ∷ []) (sym x)

pub returns-else-rule-eq1 : goal.returns-else-rule-eq1
returns-else-rule-eq1 c =
    let a = c.args in
    let s = a.self.settings in
    let g = good s a.self.passes in
    let plain : s.rule ≡ 0 = zero_of s.rule g.rule c.if-rule-eq1.false c.requires.0 in
    plain-list s a.fingerprint a.bucket plain ∙ ap (λ (d : ℕ). a.bucket ∷ bit_xor a.bucket d ∷ []) (sym c.requires.2)
