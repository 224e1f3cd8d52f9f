-- The forecast and the hold that comes next have the same definition.
-- Assumes nothing.
use mathlib.Core.Path.{◌≡◌, sym, ap, ap₂, ◌∙◌}
use mathlib.Core.List.{List}
use Prim.Native.Nat.{ℕ}
use native.Mathlib.Omega.{arith}
use lib.ListN.{length}
use Rattle.std.specs.Prelude.{Result, Ok, Err}
use Rattle.refusals.specs.Outcomes.{Outcome}
use Rattle.refusals.specs.Refusals.{number_told}
use Rattle.refusals.specs.declared.Refusal.{Refusal}
use Rattle.refusals.proofs.Numbers.{same_refusal}
use Rattle.calls.specs.Calls.{Said, hold}
use Rattle.table.specs.Answers.{hold_is}
use Rattle.forecast.specs.Forecasts.{forecast, HoldForetold}

-- an answer is what it says
same_answer : (r r' : Result ℕ Refusal) → hold_is r ≡ hold_is r' → r ≡ r'
same_answer (Ok n) (Ok m) e = let f : n ≡ m = cc in ap Ok f
same_answer (Err d) (Err f) e = let g : number_told d ≡ number_told f = cc in ap Err (same_refusal d f g)
same_answer (Ok n) (Err f) e = absurd (let z : ◌≡◌ {A = ℕ} 0 1 = cc in omega arith)
same_answer (Err d) (Ok m) e = absurd (let z : ◌≡◌ {A = ℕ} 0 1 = cc in omega arith)

pub hold-foretold : HoldForetold
unfolding forecast
hold-foretold = record {
  agrees = λ r r' s c c' c'' w w' v v' tag F l H.
      let same : c' ≡ c = ap (λ (x : Outcome Said (List ℕ)). x.leaves) F.does in
      let told : hold_is r ≡ (hold s c (length w) tag).answer = ap (λ (x : Outcome Said (List ℕ)). x.answer) F.does in
      let next : hold_is r' ≡ (hold s c' (length v) tag).answer = ap (λ (x : Outcome Said (List ℕ)). x.answer) H.does in
      same_answer r' r (next ∙ ap₂ (λ (x : List ℕ) (n : ℕ). (hold s x n tag).answer) same l ∙ sym told);
}
