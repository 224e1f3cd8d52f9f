use Prim.Native.Nat.{ℕ, ◌*◌, ◌/◌}
use lib.ListN.{length, drop, set, length-drop}
use mathlib.Core.List.{List, ◌++◌}
use mathlib.Core.Path.{◌≡◌, sym, ap, ap₂, ◌∙◌}
use native.Mathlib.Omega.{arith}
use Rattle.typed_tags.proofs.Digits.{next-pair, pairs-length, laid_next, laid-all}
use Rattle.typed_tags.specs.Internal.{hex_pairs}
use Rattle.typed_tags.proofs.decode.Goals as goal

pub byte_of-requires : goal.byte_of-requires
byte_of-requires c =
    let l = c.loop-i.invariant in
    let step = c.in-Some.ensures.steps in
    let next = next-pair c.args.digits.now c.in-Some.pair.now c.next.new.self.iter.rest.now c.loop-i.i-iterator.count c.requires.0 (step.0.1.1 ∙ l.size) (sym l.rest ∙ step.0.1.0) in
    (next.2.0, next.2.1)

pub loop-i-preserved : goal.loop-i-preserved
loop-i-preserved c =
    let digits = c.args.digits.now in
    let l = c.loop-i.invariant in
    let i = c.loop-i.i-iterator.count in
    let step = c.in-Some.ensures.steps in
    let next = next-pair digits c.in-Some.pair.now c.next.new.self.iter.rest.now i c.requires.0 (step.0.1.1 ∙ l.size) (sym l.rest ∙ step.0.1.0) in
    rw (step.2, step.1) record {
      size = step.0.0 ∙ l.size;
      rest = next.1;
      within = omega (arith, next.0);
      out = ap₂ (λ (o : List ℕ) (x : ℕ). set o i x) l.out (c.byte_of.ensures ∙ next.2.2)
          ∙ laid_next (hex_pairs digits) c.args.out.now i (omega (arith, pairs-length digits, next.0)) (omega (arith, c.requires, next.0));
    }

pub returns : goal.returns
returns c =
    let digits = c.args.digits.now in
    let l = c.loop-i.invariant in
    let i = c.loop-i.i-iterator.count in
    let few = c.in-None.ensures.steps.0.1.0 in
    let all : i ≡ length digits / 2 = omega (arith, few, l.size, l.within, length-drop (2 * i) digits, ap length l.rest) in
    l.out ∙ laid-all (hex_pairs digits) c.args.out.now i (all ∙ sym (pairs-length digits)) ∙ ap (λ (k : ℕ). hex_pairs digits ++ drop k c.args.out.now) all
