-- Bytes: those of a word, to the front of a part of the output, and the word that eight of them make.
-- Assumes nothing.
use mathlib.Core.Path.{◌≡◌, refl, sym, ap, ap₂, ◌∙◌, subst}
use mathlib.Core.Logic.{◌≢◌}
use mathlib.Core.Option.{Option, none, some}
use mathlib.Core.List.{List, [], ◌∷◌, ◌++◌, append_assoc, append-nil}
use Prim.Native.Nat.{ℕ, suc, ◌+◌, ◌*◌, ◌-◌, ◌/◌, ◌%◌, ◌^◌, ◌≤◌, ◌<◌}
use native.Mathlib.Nat.{add-zero, mul-add, mul_assoc, mul_left_comm, mul-le-mul, mul-le-mul_left}
use native.Mathlib.Omega.{arith}
use borrow.Rule.Slice.PartMut.{mid_of, put_mid}
use lib.ListN.{length, get_or, take, drop, length-append, length-drop, drop_of_length-le, take-append-drop}
use lib.Seq.{drop-drop, get_or-drop, take_all, take-nil, take_at, length-take-le}
use Rattle.std.proofs.Common.{w64}
use Rattle.std.specs.Int.{to_le_bytes, from_le_bytes}
use Rattle.lemmas.specs.Bytes.{AllBytes, bytes_of, number_from}
use Rattle.lemmas.proofs.Bytes.{number-take, drop-bytes}
use Rattle.refusals.specs.Checks.{first_met}
use Rattle.refusals.specs.Outcomes.{given, unless}
use Rattle.refusals.specs.Positive.{Positive}
use Rattle.refusals.proofs.Positive.{positive-laws}
use Rattle.calls.specs.Calls.{table_checks, Sound}
use Rattle.calls.proofs.Laws.{table-check-laws}
use Rattle.index.specs.Settings.{settings_refusal}
use Rattle.index.specs.declared.Settings.{Settings}
use Rattle.index.proofs.Laws.{laws}
use Rattle.packed_form.specs.Writer.{bucket_bits}
use Rattle.packed.specs.declared.Width.{Width}
use Rattle.packed.specs.Internal.{Allowed, bytes_for}

-- ── pairs that have two pairs after them ──
pub ahead-few : (m r : ℕ) → r ≡ (m - 4) / 2 → 2 * r ≤ m - 4
ahead-few m r e = omega arith

-- ── a word's bytes ──
pub word-bytes : (x : ℕ) → to_le_bytes w64 x ≡ bytes_of 8 x
word-bytes x =
    let e2 : x / 65536 ≡ x / 256 / 256 = omega arith in
    let e3 : x / 16777216 ≡ x / 256 / 256 / 256 = omega arith in
    let e4 : x / 4294967296 ≡ x / 256 / 256 / 256 / 256 = omega arith in
    let e5 : x / 1099511627776 ≡ x / 256 / 256 / 256 / 256 / 256 = omega arith in
    let e6 : x / 281474976710656 ≡ x / 256 / 256 / 256 / 256 / 256 / 256 = omega arith in
    let e7 : x / 72057594037927936 ≡ x / 256 / 256 / 256 / 256 / 256 / 256 / 256 = omega arith in
    rw (e2, e3, e4, e5, e6, e7) refl

byte-ahead : (k i : ℕ) (l : List ℕ) → number_from (take (suc k) (drop i l)) ≡ get_or l i 0 + 256 * number_from (take k (drop (i + 1) l))
byte-ahead k i l = one (drop i l) ∙ ap₂ (λ (b : ℕ) (m : List ℕ). b + 256 * number_from (take k m)) (get_or-drop i l 0 0 ∙ ap (λ (j : ℕ). get_or l j 0) (add-zero i)) (drop-drop 1 i l)
  where
    one : (m : List ℕ) → number_from (take (suc k) m) ≡ get_or m 0 0 + 256 * number_from (take k (drop 1 m))
    one [] = rw (take-nil {A = ℕ} k) refl
    one (b ∷ m) = refl

-- the word of eight bytes
first-eight : (l : List ℕ) → from_le_bytes w64 l ≡ number_from (take 8 l)
first-eight l =
    rw (byte-ahead 7 0 l, byte-ahead 6 1 l, byte-ahead 5 2 l, byte-ahead 4 3 l, byte-ahead 3 4 l, byte-ahead 2 5 l, byte-ahead 1 6 l, byte-ahead 0 7 l)
    (omega arith)

-- the bytes from a place on, each 0 past the end
pub eight-from : (l : List ℕ) (at : ℕ) → AllBytes l → {a b c d e f g h : ℕ}
    → a ≡ get_or l at 0 → b ≡ get_or l (at + 1) 0 → c ≡ get_or l (at + 2) 0 → d ≡ get_or l (at + 3) 0
    → e ≡ get_or l (at + 4) 0 → f ≡ get_or l (at + 5) 0 → g ≡ get_or l (at + 6) 0 → h ≡ get_or l (at + 7) 0
    → from_le_bytes w64 (a ∷ b ∷ c ∷ d ∷ e ∷ f ∷ g ∷ h ∷ []) ≡ number_from (drop at l) % 2 ^ 64
eight-from l at all ea eb ec ed ee ef eg eh =
    let s : (i : ℕ) → get_or l (at + i) 0 ≡ get_or (drop at l) i 0 = λ i. sym (get_or-drop at l i 0) in
    let z : get_or l at 0 ≡ get_or (drop at l) 0 0 = ap (λ (k : ℕ). get_or l k 0) (sym (add-zero at)) ∙ s 0 in
    rw (ea, eb, ec, ed, ee, ef, eg, eh, z, s 1, s 2, s 3, s 4, s 5, s 6, s 7) (first-eight (drop at l) ∙ number-take 8 (drop at l) (drop-bytes at l all))

-- ── buckets by half bytes ──
pub half-bits : (w m : ℕ) → bucket_bits w * m ≡ 4 * ((w - 1) * m)
unfolding bucket_bits
half-bits w m = mul_assoc 4 (w - 1) m

pub half-fits : (w m : ℕ) → w ≤ 16 → m ≤ 65536 → (w - 1) * m ≤ 983040
half-fits w m h k = mul-le-mul {n₂ = 15} {m₂ = 65536} (omega arith) k

-- two buckets take w − 1 bytes
pub halved : (w k r : ℕ) → (w - 1) * (2 * k + r) ≡ 2 * ((w - 1) * k) + (w - 1) * r
halved w k r = mul-add (w - 1) (2 * k) r ∙ ap (λ (z : ℕ). z + (w - 1) * r) (mul_left_comm (w - 1) 2 k)

pub pairs-within : (w m k : ℕ) → 2 * k ≤ m → (w - 1) * k ≤ bytes_for w m
pairs-within w m k h = omega (arith, half-bits w m, mul-le-mul_left (w - 1) h, halved w k 0)

-- a bucket starts in the bytes
pub bucket-within : (w m b : ℕ) → b < m → (w - 1) * b / 2 ≤ bytes_for w m
bucket-within w m b h =
    let e : b ≤ m = omega arith in
    omega (arith, half-bits w m, mul-le-mul_left (w - 1) e)

-- and with two pairs after it there is a word from its second bucket on
pub ahead_within : {w : ℕ} → Allowed w → (m : ℕ) {many p : ℕ} → 2 * many ≤ m - 4 → p < many → (w - 1) * p + (w - 1) / 2 + 8 ≤ bytes_for w m
ahead_within {w} W m {many} {p} few h = omega (arith, W.low, mul-add (w - 1) p 3, pairs-within w m (p + 3) (omega arith))

pub allowed : (x : Width) → Allowed x.bits
allowed x = record { low = x.low; high = x.high }

pub width_of : (s : Settings) → settings_refusal s ≡ none → Allowed s.width
width_of s e = record { low = (laws s e).width_low; high = (laws s e).width_high }

-- ── values put at a place ──
module _ (l v u next : List ℕ) (at n : ℕ) (size : length v ≡ n) (within : at ≤ length l) (wrote : next ≡ take at l ++ (v ++ u)) where
  front-size : length (take at l ++ v) ≡ at + n
  front-size = length-append (take at l) v ∙ ap₂ ◌+◌ (length-take-le at l within) size

  parted : next ≡ take at l ++ v ++ u
  parted = wrote ∙ sym (append_assoc (take at l) v u)

  pub put_front : take (at + n) next ≡ take at l ++ v
  put_front = ap (take (at + n)) parted ∙ take_at (take at l ++ v) u (at + n) front-size

-- the values are the front of a part that goes to the end
module _ (l : List ℕ) (at : ℕ) where
  tail-whole : take (length l - at) (drop at l) ≡ drop at l
  tail-whole = take_all (length l - at) (drop at l) (omega (arith, length-drop at l))

  pub tail-room : (n : ℕ) → n ≤ length (drop at l) → n ≤ length (take (length l - at) (drop at l))
  tail-room n h = rw tail-whole h

  tail-back : (part : List ℕ) → put_mid at (length l - at) l part ≡ take at l ++ part
  tail-back part =
      let none_after : drop (length l - at) (drop at l) ≡ [] = drop_of_length-le (drop at l) {i = length l - at} (omega (arith, length-drop at l)) in
      rw (none_after, append-nil part) refl

  pub tail-put : (k : ℕ) (v part : List ℕ) → part ≡ v ++ drop k (mid_of at (length l - at) l)
      → put_mid at (length l - at) l part ≡ take at l ++ (v ++ drop k (drop at l))
  tail-put k v part e = tail-back part ∙ rw (e, tail-whole) refl

  pub tail-length : (part : List ℕ) → at ≤ length l → length part ≡ length l - at → length (put_mid at (length l - at) l part) ≡ length l
  tail-length part within h = ap length (tail-back part) ∙ omega (arith, length-append (take at l) part, length-take-le at l within)

  -- the front of a part that was changed
  pub tail-front : (n : ℕ) (part : List ℕ) → at ≤ length l → n ≤ length part → take (at + n) (put_mid at (length l - at) l part) ≡ take at l ++ take n part
  tail-front n part within h =
      put_front l (take n part) (drop n part) (put_mid at (length l - at) l part) at n (length-take-le n part h) within
      (tail-back part ∙ ap (λ (k : List ℕ). take at l ++ k) (sym (take-append-drop n part)))

-- ── a call that the check of settings and table refuses, or does not ──
module _ (s : Settings) (c : List ℕ) where
  pub sound : none ≡ first_met (table_checks s c) → Sound s c
  sound e = (table-check-laws s c).sound (sym e)

  pub refusal-above : {n : ℕ} → some n ≡ first_met (table_checks s c) → n ≢ 0
  refusal-above {n} e z =
      let p : 0 < n = subst (λ (o : Option ℕ). Positive (unless {A = ℕ} o (given 0))) (sym e) (positive-laws.checked (table_checks s c) (given 0) (table-check-laws s c).numbered tt) in
      omega arith
