-- Which number a call of the table is answered with where several things are wrong: that of the settings, then of the table, of scratch,
-- and of the tag or the bucket number, whatever comes behind.
-- Assumes nothing.
use Rattle.std.specs.Prelude.{◌≡◌, ◌⊎◌, ◌≢◌, List, ℕ, ◌*◌, ◌≤◌, ◌<◌, length}
use Rattle.std.proofs.Math.Option.{none, some}
use Rattle.refusals.specs.Outcomes.{refused}
use Rattle.index.specs.Settings.{settings_refusal}
use Rattle.index.specs.declared.Settings.{Settings}
use Rattle.calls.specs.Calls.{Sound, clear_table, view_number}
use Rattle.calls.specs.Model.{Call, hold_of, release_of, lookup_of}
use Rattle.calls.specs.Demand.{table_call}

pub record CheckOrder (s : Settings) (c : List ℕ) : Type 0 where
  -- bad settings, whatever table, scratch, tag or bucket number come with them
  pub settings : (a : Call) (k : ℕ) → settings_refusal s ≡ some k → (table_call s c a).answer ≡ refused k
  pub clear_settings : (k : ℕ) → settings_refusal s ≡ some k → (clear_table s c).answer ≡ refused k
  pub view_settings : (b k : ℕ) → settings_refusal s ≡ some k → view_number s c b ≡ k
  -- good settings and a table of another length, whatever scratch, tag or bucket number
  pub table : (a : Call) → settings_refusal s ≡ none → length c ≢ 4 * s.buckets → (table_call s c a).answer ≡ refused 5
  pub clear_for_table : settings_refusal s ≡ none → length c ≢ 4 * s.buckets → (clear_table s c).answer ≡ refused 5
  pub view_table : (b : ℕ) → settings_refusal s ≡ none → length c ≢ 4 * s.buckets → view_number s c b ≡ 5
  -- scratch that is too short, whatever the tag
  pub scratch : (t : List ℕ) (n : ℕ) → Sound s c → n < 2 * s.buckets → (table_call s c (hold_of t n)).answer ≡ refused 6
  -- a tag of no bytes or of more than 64
  pub hold_tag : (t : List ℕ) (n : ℕ) → Sound s c → 2 * s.buckets ≤ n → (length t ≡ 0) ⊎ (64 < length t) → (table_call s c (hold_of t n)).answer ≡ refused 7
  pub release_tag : (t : List ℕ) → Sound s c → (length t ≡ 0) ⊎ (64 < length t) → (table_call s c (release_of t)).answer ≡ refused 7
  pub lookup_tag : (t : List ℕ) → Sound s c → (length t ≡ 0) ⊎ (64 < length t) → (table_call s c (lookup_of t)).answer ≡ refused 7
  -- a bucket number that is none
  pub view_bucket : (b : ℕ) → Sound s c → s.buckets ≤ b → view_number s c b ≡ 8
