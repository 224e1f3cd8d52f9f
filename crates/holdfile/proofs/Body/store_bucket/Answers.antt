use Prim.Native.Nat.{ℕ, ◌+◌}
use lib.ListN.{drop, get_or}
use mathlib.Core.Bool.{cond}
use mathlib.Core.List.{List, [], ◌∷◌}
use mathlib.Core.Path.{◌≡◌, sym, ap, ap₂, ◌∙◌}
use native.Mathlib.Omega.{arith}
use Rattle.file_form.specs.Bytes.{bit0, bit1, bit2, bit3}
use Rattle.file_form.specs.Parsed.{next}
use Rattle.holdfile.specs.Internal.{pair_from}
use Rattle.holdfile.proofs.Reading.{cells_of, places-are, passed-rooms, four_same, bucket_passed, marks-in, stored}
use Rattle.holdfile.proofs.Body.store_bucket.Goals as goal

pub bounds-self-at : goal.bounds-self-at
bounds-self-at c =
    let inside = marks-in c.args.self.width c.args.self.bytes.now c.args.at c.requires.2 in
    omega (arith, inside)

pub pair_from-requires : goal.pair_from-requires
pair_from-requires c =
    let passed = bucket_passed c.args.self.width c.args.self.bytes.now c.args.at c.requires.2 in
    let rooms = passed-rooms c.args.ahead c.requires.1 passed in
    omega (arith, rooms.0)

pub pair_from-requires-2 : goal.pair_from-requires-2
pair_from-requires-2 c =
    let is = places-are c.args.at (get_or c.args.self.bytes.now c.args.at 0) _ _ _ c.print_size.ensures.0 c.print_size-2.ensures.0 c.print_size-3.ensures.0 in
    let passed = bucket_passed c.args.self.width c.args.self.bytes.now c.args.at c.requires.2 in
    let rooms = passed-rooms c.args.ahead c.requires.1 passed in
    omega (arith, is.0, rooms.0)

pub pair_from-requires-3 : goal.pair_from-requires-3
pair_from-requires-3 c =
    let is = places-are c.args.at (get_or c.args.self.bytes.now c.args.at 0) _ _ _ c.print_size.ensures.0 c.print_size-2.ensures.0 c.print_size-3.ensures.0 in
    let passed = bucket_passed c.args.self.width c.args.self.bytes.now c.args.at c.requires.2 in
    let rooms = passed-rooms c.args.ahead c.requires.1 passed in
    omega (arith, is.1, rooms.1)

pub pair_from-requires-4 : goal.pair_from-requires-4
pair_from-requires-4 c =
    let is = places-are c.args.at (get_or c.args.self.bytes.now c.args.at 0) _ _ _ c.print_size.ensures.0 c.print_size-2.ensures.0 c.print_size-3.ensures.0 in
    let passed = bucket_passed c.args.self.width c.args.self.bytes.now c.args.at c.requires.2 in
    let rooms = passed-rooms c.args.ahead c.requires.1 passed in
    omega (arith, is.2, rooms.2)

pub returns : goal.returns
returns c =
    let passed = bucket_passed c.args.self.width c.args.self.bytes.now c.args.at c.requires.2 in
    let is = places-are c.args.at (get_or c.args.self.bytes.now c.args.at 0) _ _ _ c.print_size.ensures.0 c.print_size-2.ensures.0 c.print_size-3.ensures.0 in
    let l = c.args.self.bytes.now in
    let m = get_or c.args.self.bytes.now c.args.at 0 in
    let ea = c.pick-a.ensures ∙ ap (λ (v : ℕ). cond (bit0 m) v 0) c.pair_from.ensures in
    let eb = c.pick-b.ensures ∙ ap (λ (v : ℕ). cond (bit1 m) v 0) (c.pair_from-2.ensures ∙ ap (pair_from l) is.0) in
    let ec = c.pick-c.ensures ∙ ap (λ (v : ℕ). cond (bit2 m) v 0) (c.pair_from-3.ensures ∙ ap (pair_from l) is.1) in
    let ed = c.pick-d.ensures ∙ ap (λ (v : ℕ). cond (bit3 m) v 0) (c.pair_from-4.ensures ∙ ap (pair_from l) is.2) in
    let cells : c.pick-a.result ∷ c.pick-b.result ∷ c.pick-c.result ∷ c.pick-d.result ∷ [] ≡ cells_of l c.args.at m = four_same ea eb ec ed in
    passed.is
    ∙ ap₂ (λ (x : List ℕ) (n : ℕ). next x (drop (c.args.at + n) l)) (sym (stored c.args.part.now _ _ _ _ c.requires.0 ∙ cells)) (sym c.bucket_size.ensures)
