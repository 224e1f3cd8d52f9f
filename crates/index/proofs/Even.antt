-- Fingerprints come up evenly: they are the remainders of the lower half, each one higher.
-- Assumes nothing.
use Rattle.std.proofs.Common.{◌≡◌, ℕ, zero, suc, ◌+◌, ◌-◌, ◌*◌, ◌/◌, ◌%◌, ◌^◌, ◌<◌, ◌≤◌, Bool, true, false, cond, leb, ◌∙◌, arith}
use Rattle.lemmas.proofs.Sums.{times-eq, times-suc, times_mod}
use Rattle.index.specs.Hash.{lower_half, fingerprint_of}
use Rattle.index.specs.Even.{often, Even}
use Rattle.index.specs.declared.Settings.{Settings}

-- the upper half has no part in it
lower-alone : (upper lower : ℕ) → lower < 2 ^ 32 → lower_half (upper * 2 ^ 32 + lower) ≡ lower
unfolding lower_half
lower-alone upper lower l = omega arith

module _ (s : Settings) where
  lower-print : (upper lower : ℕ) → lower < 2 ^ 32 → fingerprint_of s (upper * 2 ^ 32 + lower) ≡ 1 + lower % (2 ^ s.width - 1)
  unfolding fingerprint_of
  lower-print upper lower l = rw (lower-alone upper lower l) (omega arith)

  share : (upper p : ℕ) → 0 < p → p < 2 ^ s.width → often s upper p ≡ 2 ^ 32 / (2 ^ s.width - 1) + cond (leb p (2 ^ 32 % (2 ^ s.width - 1))) 1 0
  unfolding often
  share upper zero some fits = absurd (omega arith)
  share upper (suc r) some fits =
      times-eq (2 ^ 32) (λ lower. fingerprint_of s (upper * 2 ^ 32 + lower)) (λ lower. 1 + lower % (2 ^ s.width - 1)) (suc r) (lower-print upper)
      ∙ times-suc (2 ^ 32) (λ lower. lower % (2 ^ s.width - 1)) r
      ∙ times_mod (2 ^ s.width - 1) r (omega arith) (2 ^ 32)

  one_apart : (n : ℕ) (a b : Bool) → n + cond a 1 0 ≤ n + cond b 1 0 + 1
  one_apart n true true = omega arith
  one_apart n true false = omega arith
  one_apart n false true = omega arith
  one_apart n false false = omega arith

  even : (upper p q : ℕ) → 0 < p → p < 2 ^ s.width → 0 < q → q < 2 ^ s.width → often s upper p ≤ often s upper q + 1
  even upper p q some fits some' fits' =
      rw (share upper p some fits, share upper q some' fits') (one_apart (2 ^ 32 / (2 ^ s.width - 1)) (leb p _) (leb q _))

pub evenly : Even
evenly = record { share = share; even = even }
