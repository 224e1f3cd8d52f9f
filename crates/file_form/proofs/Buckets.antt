-- Buckets: what the writer makes of cells below 2^w is read back, and what is read is what the writer makes.
-- Assumes nothing.
use mathlib.Core.Path.{◌≡◌, refl, sym, ap, ◌∙◌, subst}
use mathlib.Core.Bool.{Bool, false}
use mathlib.Core.List.{List, [], ◌∷◌, ◌++◌, append_assoc}
use Prim.Native.Nat.{ℕ, zero, suc, ◌*◌, ◌^◌, ◌<◌}
use native.Mathlib.Omega.{arith}
use borrow.Author.Tests.{leb-false, lt-leb}
use lib.Dec.{leb}
use lib.ListN.{length, length-append}
use Rattle.lemmas.proofs.Bools.{or-false-left, or-false-right}
use Rattle.lemmas.specs.Bytes.{AllBytes}
use Rattle.file_form.specs.Bytes.{nibble, bit0, bit1, bit2, bit3}
use Rattle.calls.specs.WrittenForms.{any_from}
use Rattle.file_form.specs.Writer.{filled, cell_bytes, bucket_bytes, body}
use Rattle.file_form.specs.Parsed.{next, refuse_if}
use Rattle.file_form.specs.Reader.{take_byte, read_cell, read_cells, read_bucket, read_buckets}
use Rattle.file_form.proofs.Marks.{nibble-low, bit0-nibble, bit1-nibble, bit2-nibble, bit3-nibble, nibble-bits}
use Rattle.file_form.proofs.Parses.{onward, split, same_next, not-refused, Back, byte-back, cell-read, CellBack, cell-back}

-- a bucket's bytes, with what follows them
bucket-bytes : (a b c d : ℕ) (rest : List ℕ) → bucket_bytes a b c d ++ rest
    ≡ nibble (filled a) (filled b) (filled c) (filled d) ∷ (cell_bytes a ++ (cell_bytes b ++ (cell_bytes c ++ (cell_bytes d ++ rest))))
bucket-bytes a b c d rest = simp append_assoc

-- ── how many cells are read, whatever the bytes ──
four-cells : (w : ℕ) (l four rest : List ℕ) → read_bucket w l ≡ next four rest → length four ≡ 4
unfolding read_bucket read_cells
four-cells w l four rest e =
    let s0 = split (take_byte l) _ four rest e in
    let m : ℕ = s0.value in
    let n = not-refused (leb 16 m) 13 (read_cells w m s0.rest) four rest s0.then in
    let s1 = split (read_cell w (bit0 m) s0.rest) _ four rest n.1 in
    let s2 = split (read_cell w (bit1 m) s1.rest) _ four rest s1.then in
    let s3 = split (read_cell w (bit2 m) s2.rest) _ four rest s2.then in
    let s4 = split (read_cell w (bit3 m) s3.rest) _ four rest s3.then in
    listed s1.value s2.value s3.value s4.value s4.rest s4.then
  where
    listed : (a b c d : ℕ) (end : List ℕ) → next (a ∷ b ∷ c ∷ d ∷ []) end ≡ next four rest → length four ≡ 4
    listed a b c d end f = sym (ap length (same_next f).0)

pub buckets-long : (w m : ℕ) (l cells rest : List ℕ) → read_buckets w m l ≡ next cells rest → length cells ≡ 4 * m
unfolding read_buckets
buckets-long w zero l cells rest e = sym (ap length (same_next e).0)
buckets-long w (suc m) l cells rest e =
    let a = split (read_bucket w l) _ cells rest e in
    let b = split (read_buckets w m a.rest) _ cells rest a.then in
    let both : length (a.value ++ b.value) ≡ length cells = ap length (same_next b.then).0 in
    omega (arith, both, length-append a.value b.value, four-cells w l a.value a.rest a.first, buckets-long w m a.rest b.value b.rest b.first)

-- ── written, then read ──
module _ (w a b c d : ℕ) (rest : List ℕ) (ha : a < 2 ^ w) (hb : b < 2 ^ w) (hc : c < 2 ^ w) (hd : d < 2 ^ w) where
  abbrev marks : ℕ
  marks = nibble (filled a) (filled b) (filled c) (filled d)

  abbrev r3 : List ℕ
  r3 = cell_bytes d ++ rest

  abbrev r2 : List ℕ
  r2 = cell_bytes c ++ r3

  abbrev r1 : List ℕ
  r1 = cell_bytes b ++ r2

  cells-read : read_cells w marks (cell_bytes a ++ r1) ≡ next (a ∷ b ∷ c ∷ d ∷ []) rest
  unfolding read_cells
  cells-read =
      onward _ _ a r1 (ap (λ (t : Bool). read_cell w t (cell_bytes a ++ r1)) (bit0-nibble (filled a) (filled b) (filled c) (filled d)) ∙ cell-read w a r1 ha)
      ∙ onward _ _ b r2 (ap (λ (t : Bool). read_cell w t (cell_bytes b ++ r2)) (bit1-nibble (filled a) (filled b) (filled c) (filled d)) ∙ cell-read w b r2 hb)
      ∙ onward _ _ c r3 (ap (λ (t : Bool). read_cell w t (cell_bytes c ++ r3)) (bit2-nibble (filled a) (filled b) (filled c) (filled d)) ∙ cell-read w c r3 hc)
      ∙ onward _ _ d rest (ap (λ (t : Bool). read_cell w t (cell_bytes d ++ rest)) (bit3-nibble (filled a) (filled b) (filled c) (filled d)) ∙ cell-read w d rest hd)

  pub bucket-read : read_bucket w (bucket_bytes a b c d ++ rest) ≡ next (a ∷ b ∷ c ∷ d ∷ []) rest
  unfolding read_bucket
  bucket-read =
      ap (read_bucket w) (bucket-bytes a b c d rest)
      ∙ ap (λ (t : Bool). refuse_if t 13 (read_cells w marks (cell_bytes a ++ r1))) (lt-leb 16 marks (nibble-low (filled a) (filled b) (filled c) (filled d)))
      ∙ cells-read

cell-low : (n v : ℕ) (l : List ℕ) → any_from n (v ∷ l) ≡ false → v < n
cell-low n v l e = leb-false n v (or-false-left (leb n v) (any_from n l) e)

rest-low : (n v : ℕ) (l : List ℕ) → any_from n (v ∷ l) ≡ false → any_from n l ≡ false
rest-low n v l e = or-false-right (leb n v) (any_from n l) e

pub buckets-read : (w m : ℕ) (c : List ℕ) → length c ≡ 4 * m → any_from (2 ^ w) c ≡ false → read_buckets w m (body c) ≡ next c []
unfolding body read_buckets
buckets-read w zero [] n e = refl
buckets-read w zero (a ∷ l) n e = absurd (omega arith)
buckets-read w (suc m) [] n e = absurd (omega arith)
buckets-read w (suc m) (a ∷ []) n e = absurd (omega arith)
buckets-read w (suc m) (a ∷ b ∷ []) n e = absurd (omega arith)
buckets-read w (suc m) (a ∷ b ∷ c ∷ []) n e = absurd (omega arith)
buckets-read w (suc m) (a ∷ b ∷ c ∷ d ∷ l) n e =
    let eb = rest-low (2 ^ w) a (b ∷ c ∷ d ∷ l) e in
    let ec = rest-low (2 ^ w) b (c ∷ d ∷ l) eb in
    let ed = rest-low (2 ^ w) c (d ∷ l) ec in
    let first = bucket-read w a b c d (body l) (cell-low (2 ^ w) a (b ∷ c ∷ d ∷ l) e) (cell-low (2 ^ w) b (c ∷ d ∷ l) eb) (cell-low (2 ^ w) c (d ∷ l) ec) (cell-low (2 ^ w) d l ed) in
    onward _ _ (a ∷ b ∷ c ∷ d ∷ []) (body l) first
    ∙ onward _ _ l [] (buckets-read w m l (omega arith) (rest-low (2 ^ w) d l ed))

-- ── read, then written ──
-- four cells, and what the writer makes of them
pub record BucketBack (w : ℕ) (l : List ℕ) (four : List ℕ) (rest : List ℕ) : Type 0 where
  pub a : ℕ
  pub b : ℕ
  pub c : ℕ
  pub d : ℕ
  pub cells : four ≡ a ∷ b ∷ c ∷ d ∷ []
  pub small : any_from (2 ^ w) (a ∷ b ∷ c ∷ d ∷ []) ≡ false
  pub same : bucket_bytes a b c d ++ rest ≡ l
  pub left : AllBytes rest

low-append : (n : ℕ) (l m : List ℕ) → any_from n l ≡ false → any_from n m ≡ false → any_from n (l ++ m) ≡ false
low-append n [] m e f = f
low-append n (v ∷ l) m e f = rw (or-false-left (leb n v) (any_from n l) e) (low-append n l m (or-false-right (leb n v) (any_from n l) e) f)

all-low : (n a b c d : ℕ) → leb n a ≡ false → leb n b ≡ false → leb n c ≡ false → leb n d ≡ false → any_from n (a ∷ b ∷ c ∷ d ∷ []) ≡ false
all-low n a b c d ea eb ec ed = rw (ea, eb, ec, ed) refl

-- four cells that were read one after the other, behind the byte that marks them
gather : (w m a b c d : ℕ) (l r0 r1 r2 r3 r4 : List ℕ) → m < 16 → Back l (m ∷ []) r0
    → CellBack w (bit0 m) a r0 r1 → CellBack w (bit1 m) b r1 r2 → CellBack w (bit2 m) c r2 r3 → CellBack w (bit3 m) d r3 r4
    → BucketBack w l (a ∷ b ∷ c ∷ d ∷ []) r4
gather w m a b c d l r0 r1 r2 r3 r4 h k0 ka kb kc kd =
    let marks : nibble (filled a) (filled b) (filled c) (filled d) ≡ m =
    rw (sym ka.mark, sym kb.mark, sym kc.mark, sym kd.mark) (nibble-bits m h) in
    record {
      a = a;
      b = b;
      c = c;
      d = d;
      cells = refl;
      small = all-low (2 ^ w) a b c d ka.small kb.small kc.small kd.small;
      same = bucket-bytes a b c d r4 ∙ rw (kd.back.same, kc.back.same, kb.back.same, ka.back.same, marks) k0.same;
      left = kd.back.left;
    }

pub bucket-back : (w : ℕ) (l four rest : List ℕ) → AllBytes l → read_bucket w l ≡ next four rest → BucketBack w l four rest
unfolding read_bucket read_cells
bucket-back w l four rest all e =
    let s0 = split _ _ four rest e in
    let m : ℕ = s0.value in
    let k0 = byte-back l m s0.rest all s0.first in
    let n = not-refused (leb 16 m) 13 (read_cells w m s0.rest) four rest s0.then in
    let s1 = split _ _ four rest n.1 in
    let k1 = cell-back w (bit0 m) s0.rest s1.value s1.rest k0.left s1.first in
    let s2 = split _ _ four rest s1.then in
    let k2 = cell-back w (bit1 m) s1.rest s2.value s2.rest k1.back.left s2.first in
    let s3 = split _ _ four rest s2.then in
    let k3 = cell-back w (bit2 m) s2.rest s3.value s3.rest k2.back.left s3.first in
    let s4 = split _ _ four rest s3.then in
    let k4 = cell-back w (bit3 m) s3.rest s4.value s4.rest k3.back.left s4.first in
    let end = same_next s4.then in
    subst (λ (x : List ℕ). BucketBack w l x rest) end.0 (subst (λ (x : List ℕ). BucketBack w l (s1.value ∷ s2.value ∷ s3.value ∷ s4.value ∷ []) x) end.1
    (gather w m s1.value s2.value s3.value s4.value l s0.rest s1.rest s2.rest s3.rest s4.rest (leb-false 16 m n.0) k0 k1 k2 k3 k4))

pub record BucketsBack (w m : ℕ) (l cells rest : List ℕ) : Type 0 where
  pub long : length cells ≡ 4 * m
  pub small : any_from (2 ^ w) cells ≡ false
  pub same : body cells ++ rest ≡ l

-- one bucket in front of others
in-front : (w m a b c d : ℕ) (l r cells rest : List ℕ) → any_from (2 ^ w) (a ∷ b ∷ c ∷ d ∷ []) ≡ false → bucket_bytes a b c d ++ r ≡ l → BucketsBack w m r cells rest
    → BucketsBack w (suc m) l (a ∷ b ∷ c ∷ d ∷ cells) rest
unfolding body
in-front w m a b c d l r cells rest small same k =
    record {
      long = omega (arith, k.long);
      small = low-append (2 ^ w) (a ∷ b ∷ c ∷ d ∷ []) cells small k.small;
      same = append_assoc (bucket_bytes a b c d) (body cells) rest ∙ ap (λ (x : List ℕ). bucket_bytes a b c d ++ x) k.same ∙ same;
    }

pub buckets-back : (w m : ℕ) (l cells rest : List ℕ) → AllBytes l → read_buckets w m l ≡ next cells rest → BucketsBack w m l cells rest
unfolding read_buckets body
buckets-back w zero l cells rest all e =
    let n : [] ≡ cells = cc in
    let r : l ≡ rest = cc in
    subst (λ (x : List ℕ). BucketsBack w zero l x rest) n (record { long = refl; small = refl; same = sym r })
buckets-back w (suc m) l cells rest all e =
    let s1 = split _ _ cells rest e in
    let k = bucket-back w l s1.value s1.rest all s1.first in
    let s2 = split _ _ cells rest s1.then in
    let more = buckets-back w m s1.rest s2.value s2.rest k.left s2.first in
    let end = same_next s2.then in
    let front : k.a ∷ k.b ∷ k.c ∷ k.d ∷ s2.value ≡ cells = ap (λ (x : List ℕ). x ++ s2.value) (sym k.cells) ∙ end.0 in
    subst (λ (x : List ℕ). BucketsBack w (suc m) l x rest) front (subst (λ (x : List ℕ). BucketsBack w (suc m) l (k.a ∷ k.b ∷ k.c ∷ k.d ∷ s2.value) x) end.1
    (in-front w m k.a k.b k.c k.d l s1.rest s2.value s2.rest k.small k.same more))
