-- What the code computes is what the definitions say, in plain numbers and lists.
-- Assumes nothing.
use Rattle.std.proofs.Common.{◌≡◌, ℕ, ◌+◌, ◌-◌, ◌*◌, ◌/◌, ◌%◌, ◌^◌, ◌<◌, ◌≤◌, ◌≢◌, List, [], ◌∷◌, length, get_or, drop, sym, refl, ap, ◌∙◌, ap₂, mod-lt, div-add-mod'}
use Rattle.std.proofs.Common.{zero-add, add-one, arith, drop_of_length-le, drop-cons, pow_pos, pow_mono}
use lib.Bits.{bit_and, bit_xor, xor_block, xor_zero_r, and_mask}
use Rattle.lemmas.proofs.Powers.{one_shifted}
use Rattle.index.specs.Settings.{modulus}
use Rattle.index.specs.Hash.{fnv_start, fnv_prime, fnv_step, fnv_from, fnv1a, tag_hash, fingerprint_of, home_of, fingerprint, home}
use Rattle.index.specs.Candidates.{offset}
use Rattle.index.specs.declared.Settings.{Settings}
use Rattle.index.proofs.Good.{Good, some-prints, modulus-xor, modulus-ring}

-- a byte put to a whole hash changes its low eight bits alone
low_byte : (h b : ℕ) → b < 256 → bit_xor h b ≡ h / 256 * 256 + bit_xor (h % 256) b
low_byte h b l =
    ap₂ bit_xor (sym (div-add-mod' h 256)) (sym (zero-add b))
    ∙ xor_block 8 (h / 256) 0 (h % 256) b (mod-lt h (pow_pos 8)) l
    ∙ ap (λ (z : ℕ). z * 256 + bit_xor (h % 256) b) (xor_zero_r (h / 256))

pub step_is : (h b : ℕ) → b < 256 → bit_xor h b * fnv_prime % 2 ^ 64 ≡ fnv_step h b
unfolding fnv_step
step_is h b l = ap (λ (z : ℕ). z * fnv_prime % 2 ^ 64) (low_byte h b l)

-- ── the bytes in turn ──
pub fnv-turn : (a : List ℕ) (i h : ℕ) → i < length a → fnv_from (fnv_step h (get_or a i 0)) (drop (i + 1) a) ≡ fnv_from h (drop i a)
unfolding fnv_from
fnv-turn a i h l = rw (add-one, drop-cons a i 0) refl

pub fnv-end : (a : List ℕ) (i h : ℕ) → length a ≤ i → fnv_from h (drop i a) ≡ h
unfolding fnv_from
fnv-end a i h l = ap (fnv_from h) (drop_of_length-le a l)

fnv-pair : (x y : ℕ) → fnv1a (x ∷ y ∷ []) ≡ fnv_step (fnv_step fnv_start x) y
unfolding fnv1a fnv_from
fnv-pair x y = refl

-- ── reduction ──
module _ {s : Settings} (G : Good s) (h : ℕ) where
  pub ring-result : s.rule ≡ 1 → h % (s.buckets / 2) ≡ h % modulus s
  ring-result e = rw (modulus-ring s e)

  pub low_bits : s.rule ≢ 1 → bit_and h (s.buckets - 1) ≡ h % modulus s
  low_bits n = let k = G.power n in rw (modulus-xor s n, k.1) (and_mask h k.0)

-- ── the fingerprint ──
module _ {s : Settings} (G : Good s) where
  pub limit-shifted : 1 * 2 ^ s.width % 2 ^ 32 ≡ 2 ^ s.width
  limit-shifted = one_shifted s.width 32 (omega (arith, G.width_high))

  pub print-small : (h : ℕ) → 1 + h % 2 ^ 32 % (2 ^ s.width - 1) < 2 ^ 16
  print-small h = omega (arith, mod-lt (h % 2 ^ 32) (some-prints G), pow_mono G.width_high)

-- ── the entry and the offset ──
pub print-of : (s : Settings) (t : List ℕ) {h p : ℕ} → h ≡ tag_hash s.salt t → p ≡ fingerprint_of s h → p ≡ fingerprint s t
unfolding fingerprint
print-of s t e q = q ∙ ap (fingerprint_of s) e

pub home-of : (s : Settings) (t : List ℕ) {h b : ℕ} → h ≡ tag_hash s.salt t → b ≡ h / 2 ^ 32 % modulus s → b ≡ home s t
unfolding home home_of
home-of s t e q = q ∙ ap (λ (x : ℕ). x / 2 ^ 32 % modulus s) e

pub offset-by-bytes : (s : Settings) (p : ℕ) {x y d : ℕ} → x ≡ fnv_step fnv_start (p % 256) → y ≡ fnv_step x (p / 256) → d ≡ y % modulus s → d ≡ offset s p
unfolding offset
offset-by-bytes s p ex ey ed =
    ed ∙ ap (λ (z : ℕ). z % modulus s) (ey ∙ ap (λ (z : ℕ). fnv_step z (p / 256)) ex ∙ sym (fnv-pair (p % 256) (p / 256)))
