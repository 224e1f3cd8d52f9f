-- The writer's pairs: two buckets take whole bytes, and what is out, continued by the bytes of the buckets still to come, is what the
-- whole stream gives.
-- Assumes nothing.
use mathlib.Core.Path.{◌≡◌, refl, sym, ap, ap₂, ◌∙◌, subst}
use mathlib.Core.Bool.{Bool, true}
use mathlib.Core.List.{List, [], ◌++◌, append_assoc, append-nil}
use Prim.Native.Nat.{ℕ, ◌+◌, ◌*◌, ◌-◌, ◌/◌, ◌%◌, ◌^◌, ◌≤◌, ◌<◌}
use native.Mathlib.Nat.{le_refl, mul_comm, mul-add, mul_assoc, mul-le-mul_left, add-mul-div_left, lt_of_lt_of_le}
use native.Mathlib.Omega.{arith}
use borrow.Rule.Slice.PartMut.{mid_of, put_mid}
use lib.ListN.{length, take, drop, length-append, length-drop, drop_of_length-le}
use lib.Pow.{pow_pos, pow_mono, pow-add, shl_exact}
use lib.Seq.{take_at, take_all}
use Rattle.lemmas.specs.Bytes.{bytes_of}
use Rattle.lemmas.proofs.Digits.{digit-below, digit-rest, quotient-below}
use Rattle.lemmas.proofs.Bytes.{bytes-length, bytes-split, bytes_low}
use Rattle.refusals.specs.Outcomes.{refused, given, outcome}
use Rattle.index.specs.declared.Settings.{Settings}
use Rattle.index.proofs.Laws.{laws}
use Rattle.packed_form.specs.Writer.{sort_buckets, bucket_bits, stream_of, length_of_packed, packed_of, write_packed}
use Rattle.packed_form.specs.RoundTrip.{Packable}
use Rattle.calls.proofs.Laws.{writer-laws}
use Rattle.packed_form.proofs.Laws.{packed-laws}
use Rattle.packed.specs.Internal.{Allowed, bytes_for, stream_at, BucketAt, PairFits, RunFits, formed}
use Rattle.packed.proofs.Bytes.{half-bits, half-fits, halved, pairs-within, ahead_within, width_of, tail-put, tail-length, tail-front}

size_is : (w : ℕ) → bucket_bits w ≡ 4 * (w - 1)
unfolding bucket_bits
size_is w = refl

-- ── the first n of k bytes of a word ──
bytes-front : (k word n : ℕ) (l : List ℕ) → n ≤ k → take n (bytes_of k word ++ l) ≡ bytes_of n word
bytes-front k word n l some =
    let more : List ℕ = bytes_of (k - n) (word / 2 ^ (8 * n)) in
    let e : k ≡ n + (k - n) = omega arith in
    ap (λ (b : List ℕ). take n (b ++ l)) (ap (λ (i : ℕ). bytes_of i word) e ∙ bytes-split n (k - n) word)
    ∙ ap (take n) (append_assoc (bytes_of n word) more l) ∙ take_at (bytes_of n word) (more ++ l) n (bytes-length n word)

-- ── two buckets ──
module _ {w : ℕ} (W : Allowed w) {one two : ℕ} {words : Bool} {room : ℕ} (F : PairFits w one two words room) where
  abbrev half : ℕ
  half = (w - 1) / 2

  abbrev skip : ℕ
  skip = (w - 1) % 2 * 4

  abbrev rest : ℕ
  rest = one / 2 ^ (half * 8) + two * 2 ^ skip % 2 ^ 64

  powers : 2 ^ bucket_bits w ≡ 2 ^ (8 * half) * 2 ^ skip
  powers =
      let e : bucket_bits w ≡ 8 * half + skip = omega (arith, size_is w) in
      ap (λ (k : ℕ). 2 ^ k) e ∙ pow-add 2 (8 * half) skip

  rest-is : rest ≡ one / 2 ^ (8 * half) + 2 ^ skip * two
  rest-is =
      ap₂ (λ (k x : ℕ). one / 2 ^ k + x) (mul_comm half 8)
      (shl_exact {a = two} (bucket_bits w) skip 64 F.second (omega (arith, size_is w, W.high)) ∙ mul_comm two (2 ^ skip))

  pub rest-fits : rest < 2 ^ 64
  rest-fits =
      let x : ℕ = one / 2 ^ (8 * half) in
      let h : x < 2 ^ skip = quotient-below (2 ^ (8 * half)) (2 ^ skip) one (subst (λ (z : ℕ). one < z) powers F.first) (pow_pos (8 * half)) in
      let g : x + 2 ^ skip * two < 2 ^ (skip + bucket_bits w) = rw pow-add (digit-below (2 ^ skip) (2 ^ bucket_bits w) x two h F.second) in
      subst (λ (z : ℕ). z < 2 ^ 64) (sym rest-is) (lt_of_lt_of_le g (pow_mono {j = 64} (omega (arith, size_is w, W.high))))

  pair-bytes : bytes_of (w - 1) (one + 2 ^ bucket_bits w * two) ≡ bytes_of half one ++ bytes_of (w - 1 - half) rest
  pair-bytes =
      let e : w - 1 ≡ half + (w - 1 - half) = omega arith in
      let f : one + 2 ^ bucket_bits w * two ≡ one + 2 ^ (8 * half) * (2 ^ skip * two) =
      ap (λ (z : ℕ). one + z) (ap (λ (z : ℕ). z * two) powers ∙ mul_assoc (2 ^ (8 * half)) (2 ^ skip) two) in
      ap₂ bytes_of e f
      ∙ bytes-split half (w - 1 - half) (one + 2 ^ (8 * half) * (2 ^ skip * two))
      ∙ ap₂ ◌++◌ (bytes_low half one (2 ^ skip * two))
      (ap (bytes_of (w - 1 - half)) (add-mul-div_left one (2 ^ skip * two) (pow_pos (8 * half)) ∙ sym rest-is))

  -- the part once k bytes of the first bucket are in it, and once j bytes of the rest are there too
  module _ (mid part : List ℕ) (size : length mid ≡ room) where
    abbrev tail : List ℕ
    tail = mid_of half (length mid - half) mid

    abbrev whole : List ℕ → List ℕ
    whole q = put_mid half (length mid - half) mid q

    pair_put : (k j : ℕ) → half ≤ k → w - 1 - half ≤ j → half + j ≤ room → mid ≡ bytes_of k one ++ drop k part
        → (q : List ℕ) → q ≡ bytes_of j rest ++ drop j tail → take (w - 1) (whole q) ≡ bytes_of (w - 1) (one + 2 ^ bucket_bits w * two)
    pair_put k j hk hj room wrote q wrote2 =
        let e : w - 1 ≡ half + (w - 1 - half) = omega arith in
        let some : w - 1 - half ≤ length q = rw wrote2 (simp length-append (omega (arith, bytes-length j rest))) in
        ap (λ (n : ℕ). take n (whole q)) e
        ∙ tail-front mid half (w - 1 - half) q (omega arith) some
        ∙ ap₂ ◌++◌ (ap (take half) wrote ∙ bytes-front k one half (drop k part) hk) (ap (take (w - 1 - half)) wrote2 ∙ bytes-front j rest (w - 1 - half) (drop j tail) hj)
        ∙ sym pair-bytes

    -- as words, whose bytes past the two buckets fit the part, or byte by byte
    pub pair-by-words : words ≡ true → mid ≡ bytes_of 8 one ++ drop 8 part
        → (q : List ℕ) → q ≡ bytes_of 8 rest ++ drop 8 tail → take (w - 1) (whole q) ≡ bytes_of (w - 1) (one + 2 ^ bucket_bits w * two)
    pair-by-words e = pair_put 8 8 (omega (arith, W.high)) (omega (arith, W.high)) (F.ahead e)

    pub pair-by-bytes : mid ≡ bytes_of half one ++ drop half part
        → (q : List ℕ) → q ≡ bytes_of (w - 1 - half) rest ++ drop (w - 1 - half) tail → take (w - 1) (whole q) ≡ bytes_of (w - 1) (one + 2 ^ bucket_bits w * two)
    pair-by-bytes = pair_put half (w - 1 - half) (le_refl half) (le_refl (w - 1 - half)) (omega (arith, F.inside))

-- ── a pair more of a run ──
module _ {w : ℕ} (W : Allowed w) {c : List ℕ} {room from to : ℕ} {words : Bool} (F : RunFits w c room from to words) {p : ℕ} (more : p < to) where
  abbrev at : ℕ
  at = (w - 1) * p

  past-pair : (w - 1) * (p + 1) ≡ at + (w - 1)
  past-pair = mul-add (w - 1) p 1 ∙ omega arith

  pub next-within : at + (w - 1) ≤ room
  next-within =
      let e : p + 1 ≤ to = omega arith in
      omega (arith, past-pair, F.inside, mul-le-mul_left (w - 1) e)

  module _ {one two : ℕ} (B : BucketAt w c (8 * p) one) (C : BucketAt w c (8 * p + 4) two) where
    abbrev pair : ℕ
    pair = one + 2 ^ bucket_bits w * two

    abbrev later : ℕ
    later = stream_at w c (8 * p + 4 + 4)

    powers2 : 2 ^ bucket_bits w * 2 ^ bucket_bits w ≡ 2 ^ (8 * (w - 1))
    powers2 =
        let e : bucket_bits w + bucket_bits w ≡ 8 * (w - 1) = omega (arith, size_is w) in
        sym (pow-add 2 (bucket_bits w) (bucket_bits w)) ∙ ap (λ (k : ℕ). 2 ^ k) e

    pair-below : pair < 2 ^ (8 * (w - 1))
    pair-below = subst (λ (z : ℕ). pair < z) powers2 (digit-below (2 ^ bucket_bits w) (2 ^ bucket_bits w) one two B.below C.below)

    coming : stream_at w c (8 * p) ≡ pair + 2 ^ (8 * (w - 1)) * later
    coming =
        B.first
        ∙ ap (λ (z : ℕ). one + 2 ^ bucket_bits w * z) C.first
        ∙ ap (λ (z : ℕ). one + z) (mul-add (2 ^ bucket_bits w) two (2 ^ bucket_bits w * later)
        ∙ ap (λ (z : ℕ). 2 ^ bucket_bits w * two + z) (sym (mul_assoc (2 ^ bucket_bits w) (2 ^ bucket_bits w) later) ∙ ap (λ (z : ℕ). z * later) powers2))
        ∙ omega arith

    split : bytes_of (room - at) (stream_at w c (8 * p)) ≡ bytes_of (w - 1) pair ++ bytes_of (room - (at + (w - 1))) later
    split =
        let e : room - at ≡ w - 1 + (room - (at + (w - 1))) = omega (arith, next-within) in
        ap₂ bytes_of e coming
        ∙ bytes-split (w - 1) (room - (at + (w - 1))) (pair + 2 ^ (8 * (w - 1)) * later)
        ∙ ap₂ ◌++◌ (bytes_low (w - 1) pair later) (ap (bytes_of (room - (at + (w - 1)))) (digit-rest (2 ^ (8 * (w - 1))) pair later pair-below))

    pub run_more : (out part front : List ℕ) → length out ≡ room → length part ≡ room - at → formed w c p out ≡ front → take (w - 1) part ≡ bytes_of (w - 1) pair
        → formed w c (p + 1) (put_mid at (length out - at) out part) ≡ front
    run_more out part front size size2 R P =
        let next : List ℕ = put_mid at (length out - at) out part in
        let eight : 8 * (p + 1) ≡ 8 * p + 4 + 4 = omega arith in
        let within : at ≤ length out = omega (arith, next-within) in
        let kept : length next ≡ room = tail-length out at part within (omega arith) ∙ size in
        let f : take (at + (w - 1)) next ≡ take at out ++ bytes_of (w - 1) pair =
        tail-front out at (w - 1) part within (omega (arith, next-within)) ∙ ap (λ (l : List ℕ). take at out ++ l) P in
        rw (past-pair, eight, kept, f, append_assoc, ← split, ← size) R

-- ── all buckets ──
module _ {s : Settings} {c : List ℕ} (P : Packable s c) where
  abbrev w : ℕ
  w = s.width

  abbrev m : ℕ
  m = s.buckets

  W : Allowed w
  W = width_of s P.sound.settings

  module _ {room : ℕ} (all : room ≡ length_of_packed s) where
    room-is : room ≡ bytes_for w m
    unfolding length_of_packed
    room-is = all

    room-few : room < 2 ^ 32
    room-few = omega (arith, room-is, half-bits w m, half-fits w m W.high (laws s P.sound.settings).few_buckets)

    -- the place of a bucket that is left over
    pub place-fits : (1 ≤ w) × ((w - 1) * (m / 2) ≤ room) × (room < 2 ^ 32)
    place-fits = (omega (arith, W.low), omega (arith, room-is, pairs-within w m (m / 2) (omega arith)), room-few)

    pub run_fits : (from to : ℕ) (words : Bool) → from ≤ to → 2 * to ≤ m → (words ≡ true → 2 * to ≤ m - 4) → RunFits w c room from to words
    run_fits from to words order within ahead = record {
      fits = P.fits;
      cells = omega (arith, P.sound.size);
      order = order;
      inside = omega (arith, room-is, pairs-within w m to within);
      few = room-few;
      ahead = λ t p h. omega (arith, room-is, ahead_within W m (ahead t) h);
    }

    -- after both runs
    abbrev end : ℕ
    end = (w - 1) * (m / 2)

    pub whole-form : (many : ℕ) (out₀ mid out : List ℕ) → length out₀ ≡ room → formed w c many mid ≡ formed w c 0 out₀ → formed w c (m / 2) out ≡ formed w c many mid
        → formed w c (m / 2) out ≡ packed_of s c
    unfolding packed_of
    whole-form many out₀ mid out size R Q =
        let e : (w - 1) * 0 ≡ 0 = omega arith in
        let f : length out₀ - 0 ≡ length_of_packed s = omega (arith, all) in
        Q ∙ R ∙ rw (e, f) refl

    module _ (out : List ℕ) (size : length out ≡ room) (whole : formed w c (m / 2) out ≡ packed_of s c) where
      -- one bucket that is left over
      module _ (odd : m % 2 ≡ 1) {one : ℕ} (B : BucketAt w c (8 * (m / 2)) one) where
        last-place : end + w / 2 ≡ room
        last-place =
            let e : m ≡ 2 * (m / 2) + 1 = omega arith in
            omega (arith, room-is, half-bits w m, ap (λ (z : ℕ). (w - 1) * z) e, halved w (m / 2) 1, W.low)

        pub last-room : w / 2 ≤ length (drop end out)
        last-room = omega (arith, length-drop end out, last-place)

        nothing-after : stream_at w c (8 * (m / 2) + 4) ≡ 0
        unfolding stream_of sort_buckets
        nothing-after = ap (λ (l : List ℕ). stream_of w (sort_buckets l)) (drop_of_length-le c {i = 8 * (m / 2) + 4} (omega (arith, P.sound.size)))

        pub run-last : (part : List ℕ) → part ≡ bytes_of (w / 2) one ++ drop (w / 2) (mid_of end (length out - end) out)
            → put_mid end (length out - end) out part ≡ packed_of s c
        run-last part wrote =
            let e : length out - end ≡ w / 2 = omega (arith, last-place) in
            let f : stream_at w c (8 * (m / 2)) ≡ one = B.first ∙ ap (λ (z : ℕ). one + 2 ^ bucket_bits w * z) nothing-after ∙ omega arith in
            let g : drop (w / 2) (drop end out) ≡ [] = drop_of_length-le (drop end out) {i = w / 2} (omega (arith, length-drop end out, last-place)) in
            tail-put out end (w / 2) (bytes_of (w / 2) one) part wrote
            ∙ ap (λ (l : List ℕ). take end out ++ (bytes_of (w / 2) one ++ l)) g
            ∙ ap (λ (l : List ℕ). take end out ++ l) (append-nil (bytes_of (w / 2) one) ∙ sym (ap₂ bytes_of e f))
            ∙ whole

      -- or none
      pub run-all : (m % 2 ≡ 1 → ⊥) → out ≡ packed_of s c
      run-all even =
          let e : m ≡ 2 * (m / 2) + 0 = omega arith in
          let f : room ≡ end = omega (arith, room-is, half-bits w m, ap (λ (z : ℕ). (w - 1) * z) e, halved w (m / 2) 0) in
          let g : length out - end ≡ 0 = omega arith in
          sym (take_all end out (omega arith)) ∙ sym (append-nil (take end out))
          ∙ sym (ap (λ (k : ℕ). take end out ++ bytes_of k (stream_at w c (8 * (m / 2)))) g) ∙ whole

-- ── the whole call ──
pub call-short : (s : Settings) (c out : List ℕ) → Packable s c → length out < length_of_packed s → outcome (refused 16) out ≡ write_packed s c out
unfolding write_packed
call-short s c out P h = (writer-laws s c (packed_of s c) out).short P.sound P.fits (omega (arith, packed-laws.packed_length s c))

pub call-writes : (s : Settings) (c out : List ℕ) → Packable s c → length_of_packed s ≤ length out
    → {n : ℕ} {o : List ℕ} → n ≡ length_of_packed s → o ≡ packed_of s c → outcome (given n) (o ++ drop n out) ≡ write_packed s c out
unfolding write_packed
call-writes s c out P h e f = rw (f, e, ← packed-laws.packed_length s c) ((writer-laws s c (packed_of s c) out).writes P.sound P.fits (omega (arith, packed-laws.packed_length s c)))
