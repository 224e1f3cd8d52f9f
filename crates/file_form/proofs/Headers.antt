-- The header: what the writer makes of good settings is read back, and what is read is what the writer makes.
-- Assumes nothing.
use mathlib.Core.Path.{◌≡◌, refl, sym, ap, ap₂, ◌∙◌, subst}
use mathlib.Core.Bool.{Bool, true, false, not, ◌&&◌, not-not}
use mathlib.Core.Option.{Option, none}
use mathlib.Core.List.{List, [], ◌∷◌, ◌++◌}
use Prim.Native.Nat.{ℕ, ◌+◌, ◌-◌}
use native.Mathlib.Omega.{arith}
use borrow.Author.Tests.{eq-eqb, eqb-true, eqb-false, not-false}
use lib.Dec.{eqb}
use lib.ListN.{length, take, get_or}
use Rattle.lemmas.specs.Bytes.{AllBytes}
use Rattle.refusals.specs.Checks.{first_met}
use Rattle.index.specs.Settings.{default_settings, Representable}
use Rattle.index.specs.declared.Settings.{Settings}
use Rattle.index.specs.Laws.{Laws}
use Rattle.file_form.specs.Parsed.{next, refuse_if, checked}
use Rattle.file_form.specs.Fields.{bit, spelled, Fit, field_bytes, take_fields}
use Rattle.file_form.specs.Header.{sizes, values_of, settings_from, defaults, standing, map_of, map_checks, misfits, misfit}
use Rattle.file_form.specs.Writer.{header}
use Rattle.file_form.specs.Reader.{take_byte, fitting, read_fields, settings_after_map, read_header}
use Rattle.file_form.proofs.Maps.{map-told, map-passes}
use Rattle.file_form.proofs.Parses.{onward, split, same_next, not-refused, not-checked, Back, back-then, byte-back}
use Rattle.file_form.proofs.Fields.{bit_at, from_low, Defaulted, Absent, absent-defaulted, fit_length, spelled_same, fields_read, fields_back, differ, Differing, differing-map}

-- ── what is to be said of each field ──
absent : (x d : ℕ) → not (eqb x d) ≡ false → x ≡ d
absent x d e = eqb-true x d (not-false (eqb x d) e)

module _ (s : Settings) (L : Laws s) where
  -- the values of good settings fit their bytes
  fitted : Representable s → Fit sizes (values_of s)
  fitted fits = (omega (arith, L.rule_high), (omega (arith, L.width_high), (omega (arith, L.few_buckets), (omega (arith, L.mask_below, L.few_buckets), (omega (arith, fits.salt), tt)))))

  -- what is left out has its default
  left_out : Absent (standing s) defaults (values_of s)
  left_out = (
    absent s.rule default_settings.rule,
    (
      absent s.width default_settings.width,
      (λ h. ap (λ (x : ℕ). x - 1) (absent s.buckets default_settings.buckets h), (λ h. L.no_mask (eqb-false s.rule 2 h), (absent s.salt default_settings.salt, tt))),
    ),
  )

  restored : settings_from (values_of s) ≡ s
  restored =
      let e : s.buckets - 1 + 1 ≡ s.buckets = omega (arith, L.some_bucket) in
      rw e refl

pub defaults-fit : Fit sizes defaults
defaults-fit = (omega arith, (omega arith, (omega arith, (omega arith, (omega arith, tt)))))

-- the settings' values are those that they were made of
values-back : (vs : List ℕ) → Fit sizes vs → values_of (settings_from vs) ≡ vs
values-back vs h =
    let e : get_or vs 2 0 + 1 - 1 ≡ get_or vs 2 0 = omega arith in
    rw e (spelled_same (length sizes) vs (fit_length sizes vs h))

-- a field that is there though it has its default differs from what the writer makes
needless : (t : Bool) (x d : ℕ) → (t ≡ false → x ≡ d) → (t && eqb x d) ≡ differ t (not (eqb x d))
needless true x d e = sym (not-not (eqb x d))
needless false x d e = sym (ap not (eq-eqb x d (e refl)))

-- bit by bit whether the map differs from the writer's; bit 5, which stands, does not
differing : (m : ℕ) (vs : List ℕ) → bit 5 m ≡ true → Defaulted m defaults (spelled (length sizes) (λ i. get_or vs i 0))
    → Differing m (standing (settings_from vs)) (misfits m (settings_from vs) ++ (false ∷ []))
differing m vs b d = (
  needless _ _ _ d.0,
  (
    needless _ _ _ d.1.0,
    (needless _ _ _ (λ h. ap (λ (x : ℕ). x + 1) (d.1.1.0 h)), (refl, (needless _ _ _ d.1.1.1.1.0, (sym (ap (λ (t : Bool). differ t true) b), tt)))),
  ),
)

-- ── the map ──
-- the other causes of 12 are one: the map is not the one that the writer makes of the settings that were read
misfit-map : (m : ℕ) (vs : List ℕ) → first_met (map_checks m) ≡ none → Fit sizes vs → Defaulted m defaults vs → misfit m (settings_from vs) ≡ not (eqb m (map_of (settings_from vs)))
unfolding misfit
misfit-map m vs e h d =
    differing-map m (standing (settings_from vs)) (misfits m (settings_from vs) ++ (false ∷ [])) (map-told m e).0
    (differing m vs (map-told m e).1 (subst (Defaulted m defaults) (sym (spelled_same (length sizes) vs (fit_length sizes vs h))) d))

-- so that the fields are settled by the map that they make
pub fitting-map : (m : ℕ) (vs rest : List ℕ) → first_met (map_checks m) ≡ none → Fit sizes vs → Defaulted m defaults vs
    → fitting m vs rest ≡ refuse_if (not (eqb m (map_of (settings_from vs)))) 12 (next (settings_from vs) rest)
unfolding fitting
fitting-map m vs rest e h d = ap (λ (t : Bool). refuse_if t 12 (next (settings_from vs) rest)) (misfit-map m vs e h d)

-- ── written, then read ──
module _ (s : Settings) (fits : Representable s) (L : Laws s) (rest : List ℕ) where
  passes : first_met (map_checks (map_of s)) ≡ none
  passes = map-passes (map_of s) (from_low (standing s)) (bit_at (take 5 (standing s)) true [])

  defaulted : Defaulted (map_of s) defaults (values_of s)
  defaulted = absent-defaulted (standing s) defaults (values_of s) (left_out s L)

  settled : refuse_if (not (eqb (map_of s) (map_of s))) 12 (next s rest) ≡ next s rest
  settled = ap (λ (t : Bool). refuse_if (not t) 12 (next s rest)) (eq-eqb (map_of s) (map_of s) refl)

  -- the fields by themselves, and the header
  pub fields-taken : take_fields sizes (map_of s) defaults (field_bytes sizes (map_of s) (values_of s) ++ rest) ≡ next (values_of s) rest
  fields-taken = fields_read sizes (map_of s) defaults (values_of s) rest (fitted s L fits) defaulted

  pub header_read : read_header (header s ++ rest) ≡ next s rest
  unfolding read_header header settings_after_map read_fields
  header_read =
      ap (λ (o : Option ℕ). checked o (read_fields (map_of s) (field_bytes sizes (map_of s) (values_of s) ++ rest))) passes
      ∙ onward _ (fitting (map_of s)) (values_of s) rest fields-taken
      ∙ fitting-map (map_of s) (values_of s) rest passes (fitted s L fits) defaulted
      ∙ ap (λ (x : Settings). refuse_if (not (eqb (map_of s) (map_of x))) 12 (next x rest)) (restored s L)
      ∙ settled

-- ── read, then written ──
-- the header of settings whose map and values these are
header_is : (s : Settings) (m : ℕ) (vs : List ℕ) → m ≡ map_of s → values_of s ≡ vs → (m ∷ []) ++ field_bytes sizes m vs ≡ header s
unfolding header
header_is s m vs e h = ap₂ (λ (x : ℕ) (y : List ℕ). x ∷ field_bytes sizes x y) e (sym h)

-- values that fit their bytes make settings that fit their types
fit-types : (vs : List ℕ) → Fit sizes (spelled (length sizes) (λ i. get_or vs i 0)) → Representable (settings_from vs)
fit-types vs (rule, (width, (less, (mask, (salt, _))))) = record { rule = omega arith; width = omega arith; buckets = omega arith; mask = omega arith; salt = omega arith }

pub record HeaderBack (l : List ℕ) (s : Settings) (rest : List ℕ) : Type 0 where
  pub back : Back l (header s) rest
  pub types : Representable s

pub header-back : (l : List ℕ) (s : Settings) (rest : List ℕ) → AllBytes l → read_header l ≡ next s rest → HeaderBack l s rest
unfolding read_header settings_after_map read_fields
header-back l s rest all e =
    let a = split (take_byte l) settings_after_map s rest e in
    let m : ℕ = a.value in
    let k = byte-back l m a.rest all a.first in
    let c = not-checked (first_met (map_checks m)) (read_fields m a.rest) s rest a.then in
    let b = split (take_fields sizes m defaults a.rest) (fitting m) s rest c.1 in
    let vs : List ℕ = b.value in
    let f = fields_back sizes m defaults a.rest vs b.rest defaults-fit k.left b.first in
    let t : Settings = settings_from vs in
    let n = not-refused (not (eqb m (map_of t))) 12 (next t b.rest) s rest (sym (fitting-map m vs b.rest c.0 f.fit f.default) ∙ b.then) in
    let q = same_next n.1 in
    let same : (m ∷ []) ++ field_bytes sizes m vs ≡ header t = header_is t m vs (eqb-true m (map_of t) (not-false (eqb m (map_of t)) n.0)) (values-back vs f.fit) in
    let done : Back l (header t) b.rest = subst (λ (x : List ℕ). Back l x b.rest) same (back-then (m ∷ []) (field_bytes sizes m vs) k f.back) in
    let fits : Representable t = fit-types vs (subst (Fit sizes) (sym (spelled_same (length sizes) vs (fit_length sizes vs f.fit))) f.fit) in
    subst (λ (x : Settings). HeaderBack l x rest) q.0 (record { back = subst (Back l (header t)) q.1 done; types = fits })
