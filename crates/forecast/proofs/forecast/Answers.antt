use mathlib.Core.List.{List}
use mathlib.Core.Path.{◌≡◌, refl, sym, ap, ◌∙◌}
use Prim.Native.Nat.{ℕ}
use lib.ListN.{length}
use Rattle.std.specs.Prelude.{Result, Ok, Err}
use Rattle.refusals.specs.Outcomes.{Answer, Outcome, given, outcome}
use Rattle.refusals.specs.declared.Refusal.{Refusal}
use Rattle.refusals.proofs.HandedOn.{handed_on}
use Rattle.index.specs.declared.Settings.{Settings}
use Rattle.calls.specs.Calls.{Said, accepted}
use Rattle.table.specs.Laws.{comes_to, ProbeLaws}
use Rattle.table.specs.declared.Placement.{Placement}
use Rattle.table.proofs.Laws.{probe-laws}
use Rattle.forecast.specs.Forecasts.{forecast}
use Rattle.forecast.proofs.forecast.Goals as goal

-- the answer of the hold that the search would lead to, with the cells as they are
foretold : {r : Result Placement Refusal} {s : Settings} {c w w' t : List ℕ} → ProbeLaws r s c w w' t → {x : Result Placement Refusal} → r ≡ x
    → (a : Answer Said) → a ≡ (comes_to s c w' x).answer → outcome a c ≡ forecast s c (length w) t
unfolding forecast
foretold {s = s} {c = c} {w' = w'} L e a f =
    ap (λ (x : Answer Said). outcome x c) (f ∙ sym (ap (λ (x : Outcome Said (List ℕ)). x.answer) (L.hold_answers ∙ ap (comes_to s c w') e)))

pub returns-in_err-probe : goal.returns-in_err-probe
returns-in_err-probe c =
    let L = probe-laws _ _ _ _ _ _ c.probe.ensures in
    rw (handed_on _ c.in_err-probe.field-0.0 c.from_residual.ensures.1) (record { does = foretold L {x = Err _} c.in_err-probe.was _ refl; keeps = L.keeps })

pub returns-in-Free : goal.returns-in-Free
returns-in-Free c =
    let L = probe-laws _ _ _ _ _ _ c.probe.ensures in
    record { does = foretold L (c.in_ok-probe.was ∙ ap Ok c.in-Free.is) _ refl; keeps = L.keeps }

pub path_moves-requires : goal.path_moves-requires
path_moves-requires c =
    let P = (probe-laws _ _ _ _ _ _ c.probe.ensures).path _ _ _ _ (c.in_ok-probe.was ∙ ap Ok c.in-Path.is) in
    record { sparse = P.0; le_roots = P.1 }

pub returns-in-Path : goal.returns-in-Path
returns-in-Path c =
    let L = probe-laws _ _ _ _ _ _ c.probe.ensures in
    record { does = foretold L (c.in_ok-probe.was ∙ ap Ok c.in-Path.is) _ (ap (λ (n : ℕ). given (accepted n)) c.path_moves.ensures); keeps = L.keeps }

pub returns-in-Exhausted : goal.returns-in-Exhausted
returns-in-Exhausted c =
    let L = probe-laws _ _ _ _ _ _ c.probe.ensures in
    record { does = foretold L (c.in_ok-probe.was ∙ ap Ok c.in-Exhausted.is) _ refl; keeps = L.keeps }
