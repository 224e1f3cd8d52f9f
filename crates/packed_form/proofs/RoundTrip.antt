-- Round trip both ways: what the writer made is read back as the sorted buckets, and the reader accepts nothing else.
-- Assumes nothing.
use mathlib.Core.Path.{◌≡◌, sym, ap, ◌∙◌}
use mathlib.Core.List.{List, ◌++◌}
use Prim.Native.Nat.{ℕ, ◌*◌, ◌^◌, ◌≤◌}
use native.Mathlib.Nat.{mod-eq_of_lt, lt_of_lt_of_le}
use native.Mathlib.Omega.{arith}
use lib.ListN.{length, take, drop}
use lib.Pow.{pow_mono}
use Rattle.lemmas.specs.Bytes.{AllBytes, number_from}
use Rattle.lemmas.proofs.Bytes.{bytes-length, number-bytes, bytes-number}
use Rattle.refusals.specs.Outcomes.{Answer, given, outcome, keeping}
use Rattle.index.specs.declared.Settings.{Settings}
use Rattle.index.proofs.Laws.{laws}
use Rattle.calls.specs.Cells.{filled_count}
use Rattle.calls.specs.Calls.{Sound}
use Rattle.packed_form.specs.Writer.{sort_buckets, bucket_bits, stream_of, length_of_packed, packed_of, write_packed}
use Rattle.packed_form.specs.Reader.{with_count, unpack, read_packed}
use Rattle.packed_form.specs.RoundTrip.{Packable, PackedIsRead, ReadIsPacked}
use Rattle.packed_form.proofs.Filled.{filled-sorted}
use Rattle.calls.proofs.Laws.{writer-laws}
use Rattle.packed_form.proofs.Refusals.{read_goes_on, read-accepted}
use Rattle.packed_form.proofs.Streams.{Sorted, stream-below, unpack-stream, accepted}

-- ── the bytes ──
-- the bits of m buckets fit the bytes
room : (s : Settings) → 2 ^ (bucket_bits s.width * s.buckets) ≤ 2 ^ (8 * length_of_packed s)
unfolding length_of_packed
room s = pow_mono (omega arith)

pub packed_length : (s : Settings) (c : List ℕ) → length (packed_of s c) ≡ length_of_packed s
unfolding packed_of
packed_length s c = bytes-length (length_of_packed s) (stream_of s.width (sort_buckets c))

module _ (s : Settings) (c : List ℕ) (P : Packable s c) where
  abbrev wide : 4 ≤ s.width
  wide = (laws s P.sound.settings).width_low

  packed-number : number_from (packed_of s c) ≡ stream_of s.width (sort_buckets c)
  unfolding packed_of
  packed-number =
      number-bytes (length_of_packed s) (stream_of s.width (sort_buckets c))
      ∙ mod-eq_of_lt (lt_of_lt_of_le (stream-below s.width wide s.buckets c P.sound.size P.fits) (room s))

  back : (t : List ℕ) → length t ≡ 4 * s.buckets → read_packed s (packed_of s c) t ≡ outcome (given (filled_count c)) (sort_buckets c)
  back t e =
      sym (read_goes_on s (packed_of s c) t (record { settings = P.sound.settings; size = e }) (packed_length s c))
      ∙ ap (λ (u : Answer (List ℕ)). keeping t (with_count u)) (ap (unpack s.width s.buckets) packed-number ∙ unpack-stream s.width wide s.buckets c P.sound.size P.fits)
      ∙ ap (λ (n : ℕ). outcome (given n) (sort_buckets c)) (filled-sorted s.buckets c P.sound.size)

again : (s : Settings) (c out l t : List ℕ) (n : ℕ) → write_packed s c out ≡ outcome (given n) l → length t ≡ 4 * s.buckets
    → read_packed s (take n l) t ≡ outcome (given (filled_count c)) (sort_buckets c)
unfolding write_packed
again s c out l t n e h =
    let w = (writer-laws s c (packed_of s c) out).accepted n l e in
    ap (λ (b : List ℕ). read_packed s b t) w.first ∙ back s c (record { sound = w.sound; fits = w.fits }) t h

pub packed-is-read : PackedIsRead
packed-is-read = record { back = λ s c t P e. back s c P t e; again = again }

-- ── what is accepted ──
module _ (s : Settings) (bytes t c : List ℕ) (n : ℕ) (e : read_packed s bytes t ≡ outcome (given n) c) where
  sorted : Sorted s.width (laws s (read-accepted s bytes t n c e).sound.settings).width_low s.buckets c (number_from bytes)
  sorted = accepted s.width _ s.buckets (number_from bytes) c (read-accepted s bytes t n c e).holds

  pub read-sound : Sound s c
  read-sound = record { settings = (read-accepted s bytes t n c e).sound.settings; size = sorted.size }

  module _ (all : AllBytes bytes) where
    only : packed_of s c ≡ bytes
    unfolding packed_of
    only = rw (sorted.kept, sorted.made, ← (read-accepted s bytes t n c e).size) (bytes-number bytes all)

    makes : (out : List ℕ) → length bytes ≤ length out → write_packed s c out ≡ outcome (given (length bytes)) (bytes ++ drop (length bytes) out)
    unfolding write_packed
    makes out h = rw only (sym ((writer-laws s c bytes out).writes read-sound sorted.fit h))

pub read-is-packed : ReadIsPacked
read-is-packed = record { only = λ s bytes t c n a e. only s bytes t c n e a; makes = λ s bytes t c out n a e h. makes s bytes t c n e a out h }
