-- The writer's steps: cells that may be left out, and the buckets in a row.
-- Assumes nothing.
use mathlib.Core.Path.{◌≡◌, refl, sym, ap, ◌∙◌}
use mathlib.Core.Bool.{Bool, true, false, cond, ◌||◌}
use mathlib.Core.List.{List, [], ◌∷◌, ◌++◌, append_assoc}
use Prim.Native.Nat.{ℕ, suc, ◌+◌, ◌/◌, ◌%◌, ◌≤◌}
use native.Mathlib.Numerals.{add-one}
use native.Mathlib.Omega.{arith}
use lib.ListN.{length, drop, set, length-append}
use lib.Seq.{sets}
use Rattle.lemmas.specs.Stores.{Put, PutBefore}
use Rattle.lemmas.proofs.Stores.{Left, left-before, left-none, put-from-start, stored-over}
use Rattle.refusals.specs.Outcomes.{given, outcome}
use Rattle.index.specs.declared.Settings.{Settings}
use Rattle.file_form.specs.Bytes.{pair, where?}
use Rattle.file_form.specs.Writer.{header, filled, cell_bytes, body, file_of, write_file, length_of_file}
use Rattle.holdfile.specs.Internal.{slack, bytes_of_bucket}
use Rattle.file_form.proofs.Sizes.{size-laws, file-length-laws}
use Rattle.file_form.proofs.Foretold.{length-foretold}

-- ── sizes ──
pub cond-le : (t : Bool) (n : ℕ) → cond t n 0 ≤ n
cond-le true n = omega arith
cond-le false n = omega arith

-- ── a cell ──
-- there is room for both bytes where they are stored
pub cell_room : (ahead : Bool) (v : ℕ) → (ahead || filled v) ≡ true → 2 ≤ length (cell_bytes v) + slack ahead
cell_room true v e = omega arith
cell_room false v e =
    let two : ◌≡◌ {A = ℕ} (cond (filled v) 2 0) 2 = ap (λ (t : Bool). cond t 2 0) e in
    omega (arith, size-laws.cell v)

module _ (ahead : Bool) (o : List ℕ) (at v : ℕ) where
  abbrev Stored : List ℕ → Type 0
  Stored e = PutBefore (slack ahead) o e at (cell_bytes v) (at + cond (filled v) 2 0)

  -- they are stored: the cell's, or something to be stored over
  pub cell-stored : (ahead || filled v) ≡ true → Stored (set (set o at (v % 256)) (at + 1) (v / 256))
  cell-stored e = rw (add-one at) (go ahead (filled v) e)
    where
      over : (more : List ℕ) → 2 ≤ length more → sets (set (set o at (v % 256)) (suc at) (v / 256)) at more ≡ sets o at more
      over [] h = absurd (omega arith)
      over (x ∷ []) h = absurd (omega arith)
      over (x ∷ y ∷ more) h = ap (λ (l : List ℕ). sets l (suc (suc at)) more) (stored-over o at (v % 256) (v / 256) x y)

      go : (a t : Bool) → (a || t) ≡ true → PutBefore (cond a 2 0) o (set (set o at (v % 256)) (suc at) (v / 256)) at (where? t (pair v)) (at + cond t 2 0)
      go a true e =
          let two : at + 2 ≡ suc (suc at) = omega arith in
          record { output = λ more h. ap (λ (n : ℕ). sets (set (set o at (v % 256)) (suc at) (v / 256)) n more) two; place = refl }
      go true false e =
          let none : at + 0 ≡ at = omega arith in
          record { output = λ more h. ap (λ (n : ℕ). sets (set (set o at (v % 256)) (suc at) (v / 256)) n more) none ∙ over more h; place = refl }
      go false false e = absurd (let z : ◌≡◌ {A = ℕ} 0 1 = cc in omega arith)

-- ── the loops ──
-- a bucket in front of others
pub body-parts : (f more : List ℕ) → length f ≡ 4 → body (f ++ more) ≡ bytes_of_bucket f ++ body more
unfolding body
body-parts [] more e = absurd (omega arith)
body-parts (a ∷ []) more e = absurd (omega arith)
body-parts (a ∷ b ∷ []) more e = absurd (omega arith)
body-parts (a ∷ b ∷ c ∷ []) more e = absurd (omega arith)
body-parts (a ∷ b ∷ c ∷ d ∷ []) more e = refl
body-parts (a ∷ b ∷ c ∷ d ∷ x ∷ f) more e = absurd (omega arith)

pub body_end : (c : List ℕ) → length c ≡ 0 → body c ≡ []
unfolding body
body_end [] e = refl
body_end (x ∷ c) e = absurd (omega arith)

-- two buckets have two bytes at least
pub body-two : (c : List ℕ) → length c % 4 ≡ 0 → 8 ≤ length c → 2 ≤ length (body c)
body-two c e h = omega (arith, size-laws.body (length c / 4) c (omega arith))

-- what is left to store are the buckets of two lists of cells
pub record Ahead (o e : List ℕ) (from at : ℕ) (all rest last : List ℕ) : Type 0 where
  pub left : Left o e from at (body all) (body (rest ++ last))
  pub whole : length rest % 4 ≡ 0

module _ {o e : List ℕ} {from at : ℕ} {all rest last : List ℕ} (A : Ahead o e from at all rest last) where
  -- the first bucket, and those behind it
  module _ (f more : List ℕ) (cut : rest ≡ f ++ more) (four : length f ≡ 4) where
    first : body (rest ++ last) ≡ bytes_of_bucket f ++ body (more ++ last)
    first = ap (λ (l : List ℕ). body (l ++ last)) cut ∙ ap body (append_assoc f more last) ∙ body-parts f (more ++ last) four

    pub ahead-room : (n : ℕ) → n ≤ length (body (more ++ last)) → from + length (body all) ≤ length o → at + length (bytes_of_bucket f) + n ≤ length e
    ahead-room n h r = omega (arith, A.left.place, A.left.long, ap length first, length-append (bytes_of_bucket f) (body (more ++ last)))

    pub ahead-turn : (n : ℕ) {g : List ℕ} {r : ℕ} → n ≤ length (body (more ++ last)) → PutBefore n e g at (bytes_of_bucket f) r → Ahead o g from r all more last
    ahead-turn n h p = record { left = left-before A.left (body (more ++ last)) p first h; whole = omega (arith, A.whole, ap length cut, length-append f more) }

    pub ahead-two : length last ≡ 8 → 2 ≤ length (body (more ++ last))
    ahead-two h =
        let both : length (more ++ last) ≡ length more + 8 = length-append more last ∙ ap (λ (k : ℕ). length more + k) h in
        body-two (more ++ last) (omega (arith, A.whole, ap length cut, length-append f more)) (omega arith)

  -- the first list is done
  module _ (none : length rest ≡ 0) where
    rest-none : (l : List ℕ) → length l ≡ 0 → l ++ last ≡ last
    rest-none [] h = refl
    rest-none (x ∷ l) h = absurd (omega arith)

    pub ahead-end : length last ≡ 0 → e ≡ sets o from (body all)
    ahead-end h = (left-none A.left (ap body (rest-none rest none) ∙ body_end last h)).output

-- ── what the call answers ──
module _ (s : Settings) (c out : List ℕ) (needed : ℕ) (e : length_of_file s c ≡ given needed) where
  -- the buckets behind the header
  pub parts : needed ≡ length (header s) + length (body c)
  parts = ((file-length-laws s c).tells needed e).1 ∙ (file-length-laws s c).parts

  pub answer-written : needed ≤ length out → (mid after : List ℕ) (at : ℕ) → Put out mid 0 (header s) at → after ≡ sets mid at (body c) → outcome (given needed) after ≡ write_file s c out
  unfolding file_of
  answer-written h mid after at k b =
      let all = ((file-length-laws s c).tells needed e).1 in
      let whole = put-from-start (body c) k b (omega (arith, all)) in
      ap (outcome (given needed)) (whole ∙ ap (λ (x : ℕ). (header s ++ body c) ++ drop x out) (sym all)) ∙ sym (length-foretold.fits s c out needed e h)
