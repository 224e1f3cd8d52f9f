-- The laws of the calls' definitions.
-- Assumes nothing.
use mathlib.Core.Path.{◌≡◌, subst}
use mathlib.Core.Option.{none}
use Prim.Native.Nat.{ℕ}
use Rattle.index.specs.Settings.{settings_refusal}
use Rattle.index.specs.Candidates.{candidates}
use Rattle.index.specs.declared.Settings.{Settings}
use Rattle.index.proofs.Laws.{laws}
use Rattle.calls.specs.Cells.{lowest_at, lowest_empty}
use Rattle.calls.specs.Laws.{ScanLaws, FilledLaws, QueueLaws, MultisetLaws, CallLaws}
use Rattle.calls.proofs.Cells.{scan-finds, scan-most, empty-finds, first_finds, filled-most, filled-append}
use Rattle.calls.proofs.Classes.{same_perm}
use Rattle.calls.proofs.Copies.{listed_once}
use Rattle.calls.proofs.Nodes.{distinct_none, distinct_more, distinct-room}
use Rattle.calls.proofs.Queue.{Ends, search-ends}
use Rattle.calls.proofs.Weights.{weight_at, total-entries, filled-entries}
use Rattle.calls.proofs.Model.{step-hold, step-release, step-lookup, step_call}
use Rattle.calls.proofs.Demand.{fresh_agrees}
pub use Rattle.calls.proofs.Refusals.{table-check-laws}
pub use Rattle.calls.proofs.Writers.{writer-laws, length-laws}

pub scan-laws : ScanLaws
scan-laws = record { most = scan-most; scans = λ c p bs. first_finds c p (lowest_at c p) (scan-finds c p) bs; empties = λ c bs. first_finds c 0 (lowest_empty c) (empty-finds c) bs }

pub filled-laws : FilledLaws
filled-laws = record { most = filled-most; append = filled-append; as_entries = filled-entries }

pub queue-laws : (m : ℕ) → QueueLaws m
queue-laws m = record { starts = distinct_none m; grows = distinct_more m; room = distinct-room m }

pub multiset-laws : MultisetLaws
multiset-laws = record { permutes = λ l m. same_perm m l }

pub call-laws : (s : Settings) → settings_refusal s ≡ none → CallLaws s
unfolding weight_at
call-laws s e =
    let L = laws s e in
    record {
      weighs = λ w c. total-entries s w c;
      found_within = λ c p b l i n q f. (subst (Ends s c (candidates s p b)) f (search-ends s L c p b l)).within;
      fresh_agrees = fresh_agrees s L;
      listed_once = λ c p b l. listed_once s L c p b l;
      places = λ c E A p b n l. step-hold s L c E A p b n l;
      looks_up = λ c E A p b n l. step-lookup s L c E A p b n l;
      takes_out = λ c E A p b n l. step-release s L c E A p b n l;
      steps = λ c E A a. step_call s L c E A a;
    }
