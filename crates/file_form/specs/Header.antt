-- The fields of the header, in their order: rule, width, bucket count less 1, mask, salt. Nothing else names them, so that a new field is an
-- entry in each list here.
-- Assumes nothing.
use Rattle.std.specs.Prelude.{Bool, true, cond, not, ◌&&◌, List, [], ◌∷◌, ℕ, ◌+◌, ◌-◌, eqb, leb, get_or}
use Rattle.refusals.specs.Checks.{Check, check}
use Rattle.index.specs.Settings.{default_settings}
use Rattle.index.specs.declared.Settings.{Settings}
use Rattle.file_form.specs.Fields.{bit, from_bits, any_of}

-- the bytes that each takes where it is there
abbrev pub sizes : List ℕ
sizes = 1 ∷ 1 ∷ 2 ∷ 2 ∷ 8 ∷ []

-- the numbers that stand for the settings, and the settings that these stand for
abbrev pub values_of : Settings → List ℕ
values_of s = s.rule ∷ s.width ∷ (s.buckets - 1) ∷ s.mask ∷ s.salt ∷ []

abbrev pub settings_from : List ℕ → Settings
settings_from values = record { rule = get_or values 0 0; width = get_or values 1 0; buckets = get_or values 2 0 + 1; mask = get_or values 3 0; salt = get_or values 4 0 }

-- what an absent field has
abbrev pub defaults : List ℕ
defaults = values_of default_settings

-- ── the map ──
-- a mask is there exactly under the masked rule, whatever it is
abbrev pub masked : Settings → Bool
masked s = eqb s.rule 2

-- whether each is there: rule, width, bucket count and salt where they are not the default. Bit 5 has no field behind it: it stands in every
-- file, and says that the fingerprints are spread evenly, which those of files without it are not
abbrev pub standing : Settings → List Bool
standing s =
    not (eqb s.rule default_settings.rule)
    ∷ not (eqb s.width default_settings.width)
    ∷ not (eqb s.buckets default_settings.buckets)
    ∷ masked s
    ∷ not (eqb s.salt default_settings.salt)
    ∷ true
    ∷ []

abbrev pub map_of : Settings → ℕ
map_of s = from_bits (standing s)

-- the map's own tests, before any field is read: bits 6 and 7 are 0, and bit 5 stands
unfoldable pub map_checks : ℕ → List Check
map_checks map = check 12 (leb 64 map) ∷ check 23 (not (bit 5 map)) ∷ []

-- the other causes of 12, once the fields are read: one that is there though it has its default, and a mask's bit that does not fit the rule
abbrev pub misfits : ℕ → Settings → List Bool
misfits map s =
    (bit 0 map && eqb s.rule default_settings.rule)
    ∷ (bit 1 map && eqb s.width default_settings.width)
    ∷ (bit 2 map && eqb s.buckets default_settings.buckets)
    ∷ cond (bit 3 map) (not (masked s)) (masked s)
    ∷ (bit 4 map && eqb s.salt default_settings.salt)
    ∷ []

unfoldable pub misfit : ℕ → Settings → Bool
misfit map s = any_of (misfits map s)
