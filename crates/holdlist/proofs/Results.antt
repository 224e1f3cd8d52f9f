-- The sign of a result tells an answer from a refusal, since no call is refused with 0.
-- Assumes nothing.
use mathlib.Core.Path.{◌≡◌, subst}
use mathlib.Core.Logic.{◌≢◌}
use mathlib.Core.List.{List}
use Prim.Native.Nat.{ℕ, zero, suc, ◌<◌}
use native.Mathlib.Omega.{arith}
use lib.Dec.{le→leb}
use lib.IntN.{ℤ, pos}
use lib.Signed.{◌≤ℤ◌, ◌<ℤ◌, clash_ℤ, le_z_yes, lt_z_yes}
use Rattle.refusals.specs.Outcomes.{Answer, refused, given}
use Rattle.refusals.specs.Positive.{Positive}
use Rattle.refusals.proofs.Positive.{positive-laws}
use Rattle.index.specs.Settings.{settings_checks}
use Rattle.index.specs.declared.Settings.{Settings}
use Rattle.index.proofs.Positive.{positive-index}
use Rattle.calls.specs.Calls.{view_checks}
use Rattle.calls.proofs.Positive.{positive-calls}
use Rattle.forecast.specs.Forecasts.{forecast}
use Rattle.file_form.proofs.Positive.{positive-files}
use Rattle.file_convert.proofs.Positive.{positive-converter}
use Rattle.packed_form.proofs.Positive.{positive-packed}
use Rattle.holdlist.specs.Numbers.{minus, signed}
use Rattle.holdlist.specs.Calls.{settings_answer, view_answer}
use Rattle.holdlist.specs.Results.{BySign, Results, ResultsApart}

minus-below : (n : ℕ) → 0 < n → minus n <ℤ pos 0
minus-below zero h = absurd (omega arith)
minus-below (suc n) h = lt_z_yes tt

by_sign : {A : Type 0} (f : A → ℕ) (a : Answer A) → Positive a → BySign f a
by_sign f (given y) h = record { answered = λ x e. le_z_yes (le→leb 0 (f y) (omega arith)); below = λ n e. absurd (let z : ◌≡◌ {A = ℕ} 0 1 = cc in omega arith) }
by_sign f (refused m) h = record { answered = λ x e. absurd (let z : ◌≡◌ {A = ℕ} 0 1 = cc in omega arith); below = λ n e. minus-below m h }

settings_check : (s : Settings) → Positive (settings_answer s)
unfolding settings_answer
settings_check s = positive-laws.checked (settings_checks s) (given 0) (positive-index s).settings_numbered tt

view_check : (s : Settings) (c : List ℕ) (b : ℕ) → Positive (view_answer s c b)
unfolding view_answer
view_check s c b = positive-laws.checked (view_checks s c b) (given 0) ((positive-calls s c).view_numbered b) tt

forecasts : (s : Settings) (c : List ℕ) (n : ℕ) (tag : List ℕ) → Positive (forecast s c n tag).answer
unfolding forecast
forecasts s c n tag = (positive-calls s c).hold n tag

pub results : Results
results = record {
  settings_check = λ s. by_sign _ _ (settings_check s);
  fingerprint = λ s tag. by_sign _ _ ((positive-index s).entry tag);
  home = λ s tag. by_sign _ _ ((positive-index s).entry tag);
  offset = λ s p. by_sign _ _ ((positive-index s).offset p);
  candidates = λ s p b. by_sign _ _ ((positive-index s).candidates p b);
  clear = λ s c. by_sign _ _ (positive-calls s c).clear;
  lookup = λ s c tag. by_sign _ _ ((positive-calls s c).lookup tag);
  release = λ s c tag. by_sign _ _ ((positive-calls s c).release tag);
  hold = λ s c n tag. by_sign _ _ ((positive-calls s c).hold n tag);
  forecast = λ s c n tag. by_sign _ _ (forecasts s c n tag);
  view_check = λ s c b. by_sign _ _ (view_check s c b);
  file_length = λ s c. by_sign _ _ (positive-files.file_length s c);
  file_write = λ s c out. by_sign _ _ (positive-files.writer s c out);
  file_read = λ bytes c. by_sign _ _ (positive-files.reader bytes c);
  file_settings = λ bytes. by_sign _ _ (positive-files.header bytes);
  file_convert = λ bytes out. by_sign _ _ (positive-converter.converter bytes out);
  packed_write = λ s c out. by_sign _ _ (positive-packed.writer s c out);
  packed_read = λ s bytes c. by_sign _ _ (positive-packed.reader s bytes c);
}

apart : {A B : Type 0} (f : A → ℕ) (g : B → ℕ) (a : Answer A) (b : Answer B) → BySign f a → BySign g b → (x : A) (n : ℕ) → a ≡ given x → b ≡ refused n → signed f a ≢ signed g b
apart f g a b S T x n e h q = clash_ℤ (T.below n h) (subst (λ (z : ℤ). pos 0 ≤ℤ z) q (S.answered x e))

pub results-apart : ResultsApart
results-apart = record { apart = apart }
