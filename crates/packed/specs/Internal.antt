-- Contracts of the functions inside: a bucket's number, pairs of buckets put to the output, and the reader's two passes over the input.
-- Assumes nothing.
use Rattle.std.specs.Prelude.{◌≡◌, Bool, true, false, List, ◌++◌, ℕ, ◌+◌, ◌*◌, ◌-◌, ◌/◌, ◌%◌, ◌^◌, ◌≤◌, ◌<◌, length, take, drop}
use Rattle.lemmas.specs.Bytes.{bytes_of}
use Rattle.refusals.specs.Outcomes.{Answer, refused, given, outcome, keeping}
use Rattle.calls.specs.Cells.{filled_count}
use Rattle.calls.specs.WrittenForms.{any_from}
use Rattle.packed_form.specs.Writer.{sort_buckets, bucket_bits, stream_of}
use Rattle.packed_form.specs.Reader.{onward, unpack, with_count}

-- a width that settings which pass can have
pub record Allowed (w : ℕ) : Type 0 where
  pub low : 4 ≤ w
  pub high : w ≤ 16

-- how many bytes so many buckets take
abbrev pub bytes_for : ℕ → ℕ → ℕ
bytes_for w m = (bucket_bits w * m + 7) / 8

-- ── the writer ──
-- the stream of the table's buckets from a cell on
abbrev pub stream_at : ℕ → List ℕ → ℕ → ℕ
stream_at w c i = stream_of w (sort_buckets (drop i c))

-- four cells, and a table whose cells fit
pub record BucketAsked (w : ℕ) (c : List ℕ) (i : ℕ) : Type 0 where
  pub inside : i + 4 ≤ length c
  pub fits : any_from (2 ^ w) c ≡ false

-- the number of the bucket at a cell: lowest in the stream from there on
pub record BucketAt (w : ℕ) (c : List ℕ) (i code : ℕ) : Type 0 where
  pub below : code < 2 ^ bucket_bits w
  pub first : stream_at w c i ≡ code + 2 ^ bucket_bits w * stream_at w c (i + 4)

-- two buckets' numbers, and room for their w − 1 bytes, or for two words
pub record PairFits (w one two : ℕ) (words : Bool) (room : ℕ) : Type 0 where
  pub first : one < 2 ^ bucket_bits w
  pub second : two < 2 ^ bucket_bits w
  pub inside : w - 1 ≤ room
  pub ahead : words ≡ true → (w - 1) / 2 + 8 ≤ room

-- pairs of buckets from one to another, and room for them, or for two words of each
pub record RunFits (w : ℕ) (c : List ℕ) (room from to : ℕ) (words : Bool) : Type 0 where
  pub fits : any_from (2 ^ w) c ≡ false
  pub cells : 8 * to ≤ length c
  pub order : from ≤ to
  pub inside : (w - 1) * to ≤ room
  pub few : room < 2 ^ 32
  pub ahead : words ≡ true → (p : ℕ) → p < to → (w - 1) * p + (w - 1) / 2 + 8 ≤ room

-- what is out after so many pairs, continued by the bytes of the buckets still to come
abbrev pub formed : ℕ → List ℕ → ℕ → List ℕ → List ℕ
formed w c p out = take ((w - 1) * p) out ++ bytes_of (length out - (w - 1) * p) (stream_at w c (8 * p))

-- ── the reader ──
-- the stream from bucket b on, and that bucket's number
abbrev pub stream_from : ℕ → ℕ → ℕ → ℕ
stream_from w x b = x / 2 ^ (bucket_bits w * b)

abbrev pub code_in : ℕ → ℕ → ℕ → ℕ
code_in w x b = stream_from w x b % 2 ^ bucket_bits w

-- the first pass: how many cells are filled, or the number of the refusal
abbrev pub count_in : Answer (List ℕ) → Answer ℕ
count_in (refused n) = refused n
count_in (given l) = given (filled_count l)

-- the second pass goes over a stream that no bucket and no filling bit refuses
abbrev pub Passes : Answer (List ℕ) → Type 0
Passes (refused n) = ⊥
Passes (given l) = Unit {0}

-- l are the cells of the first b buckets: continued by what the rest of the stream gives, they are what the whole stream gives
pub record CellsRead (w m x b : ℕ) (l : List ℕ) : Type 0 where
  pub upto : b ≤ m
  pub size : length l ≡ 4 * b
  pub onwards : onward l (unpack w (m - b) (stream_from w x b)) ≡ unpack w m x

-- so many of them are filled
pub record CellsCounted (w m x count b : ℕ) : Type 0 where
  pub cells : List ℕ
  pub read : CellsRead w m x b cells
  pub counted : count ≡ filled_count cells

-- a table that starts with them
pub record CellsStored (w m x : ℕ) (table : List ℕ) (b : ℕ) : Type 0 where
  pub size : length table ≡ 4 * m
  pub read : CellsRead w m x b (take (4 * b) table)

-- what the second pass is given
pub record Storing (w m x : ℕ) (table : List ℕ) : Type 0 where
  pub size : length table ≡ 4 * m
  pub passes : Passes (unpack w m x)

-- both passes: what the call of the reader answers and leaves, for what the whole stream gives
abbrev pub Unpacked : Answer (List ℕ) → List ℕ → Answer ℕ → List ℕ → Type 0
Unpacked u t a c = outcome a c ≡ keeping t (with_count u)
