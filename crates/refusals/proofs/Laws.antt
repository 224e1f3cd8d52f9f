-- The laws of refusals.
-- Assumes nothing.
use mathlib.Core.Path.{◌≡◌, refl, ap}
use mathlib.Core.Option.{Option}
use mathlib.Core.List.{◌∷◌}
use Prim.Native.Nat.{ℕ}
use native.Mathlib.Omega.{arith}
use Rattle.refusals.specs.Outcomes.{Answer, refused, given, unless, Done, keeping}
use Rattle.refusals.specs.Laws.{RefusalLaws}
use Rattle.refusals.proofs.Cursor.{start, met, all-passed}

pub refusal-laws : RefusalLaws
refusal-laws = record { first = λ l m c e h. met (all-passed l (c ∷ m) (start _) e) h; refuses = λ l n b a e. ap (λ (o : Option ℕ). (keeping b (unless o a)).answer) e; keeps = kept }
  where
    kept : {A B : Type 0} (n : ℕ) (b : B) (a : Answer (Done A B)) → (keeping b a).answer ≡ refused n → (keeping b a).leaves ≡ b
    kept n b (refused m) e = refl
    kept n b (given d) e = absurd (let z : ◌≡◌ {A = ℕ} 0 1 = cc in omega arith)
