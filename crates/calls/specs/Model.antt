-- The reference model (document 01: the hold book): a list of classes, of which only the multiset counts. It is fed the kind of call,
-- the settings, the tag and the length of scratch, and nothing of the table.
-- Assumes nothing.
use Rattle.std.specs.Prelude.{List, [], ◌∷◌, ◌++◌, ℕ, ◌≤◌}
use Rattle.std.proofs.Math.Decide.{dec_le}
use Rattle.refusals.specs.Checks.{Check, first_met}
use Rattle.refusals.specs.Outcomes.{Answer, refused, given, unless, Done, done, Outcome, keeping}
use Rattle.index.specs.Settings.{settings_checks}
use Rattle.index.specs.Hash.{tag_checks}
use Rattle.index.specs.Candidates.{Class, class_of}
use Rattle.index.specs.declared.Settings.{Settings}
use Rattle.calls.specs.Calls.{Said, released, absent, accepted, copies, scratch_checks}
use Rattle.calls.specs.Multiset.{count, erase}
use Rattle.calls.specs.AssignmentDecided.{Room, decided}

-- a call as its caller makes it: the tag, and of a hold the length of scratch
pub data Call : Type 0 where
  hold_of : (tag : List ℕ) (scratch : ℕ) → Call
  release_of : (tag : List ℕ) → Call
  lookup_of : (tag : List ℕ) → Call

-- what a call comes to: what the model says, and the entries that it then has
abbrev pub ModelAct : Type 0
ModelAct = Answer (Done Said (List Class))

-- accepted if all entries and the new one can be assigned buckets, else 9
abbrev pub to_hold : (k : Class) (E : List Class) → Dec (Room [] (k ∷ E)) → ModelAct
to_hold k E (yes a) = given (done (accepted 0) (k ∷ E))
to_hold k E (no n) = refused 9

-- one copy is taken out, if there is one
abbrev pub to_release : (k : Class) (E : List Class) → Dec (1 ≤ count k E) → ModelAct
to_release k E (yes a) = given (done released (erase k E))
to_release k E (no n) = given (done absent E)

-- how many copies there are
abbrev pub to_lookup : Class → List Class → ModelAct
to_lookup k E = given (done (copies (count k E)) E)

abbrev pub model_act : Settings → List Class → Call → ModelAct
model_act s E (hold_of t n) = to_hold (class_of s t) E (decided (class_of s t ∷ E))
model_act s E (release_of t) = to_release (class_of s t) E (dec_le 1 (count (class_of s t) E))
model_act s E (lookup_of t) = to_lookup (class_of s t) E

-- the other conditions that concern a call and do not speak of the table
abbrev pub model_checks : Settings → Call → List Check
model_checks s (hold_of t n) = settings_checks s ++ (scratch_checks s n ++ tag_checks t)
model_checks s (release_of t) = settings_checks s ++ tag_checks t
model_checks s (lookup_of t) = settings_checks s ++ tag_checks t

unfoldable pub model_call : Settings → List Class → Call → Outcome Said (List Class)
model_call s E a = keeping E (unless (first_met (model_checks s a)) (model_act s E a))

pub record ModelRun : Type 0 where
  pub replies : List (Answer Said)
  pub entries : List Class

abbrev pub model_run : Settings → List Class → List Call → ModelRun
model_run s E [] = record { replies = []; entries = E }
model_run s E (a ∷ l) =
    let r = model_call s E a in
    let n = model_run s r.leaves l in
    record { replies = r.answer ∷ n.replies; entries = n.entries }
