-- Fields behind a map: bit k of the map says whether field k is there. For lists of any sizes, values and defaults.
-- Assumes nothing.
use Rattle.std.specs.Prelude.{Bool, true, false, cond, ◌||◌, List, [], ◌∷◌, ◌++◌, ℕ, zero, suc, ◌+◌, ◌*◌, ◌/◌, ◌%◌, ◌^◌, ◌<◌, eqb, leb, length, take, drop}
use Rattle.lemmas.specs.Bytes.{bytes_of, number_from}
use Rattle.file_form.specs.Bytes.{one}
use Rattle.file_form.specs.Parsed.{Parsed, stop, next, and_then}

-- ── the map ──
-- bit k: bit 0 of the map halved k times
abbrev pub bit : ℕ → ℕ → Bool
bit zero map = eqb (map % 2) 1
bit (suc k) map = bit k (map / 2)

-- the map whose bits from 0 on are these
abbrev pub from_bits : List Bool → ℕ
from_bits [] = 0
from_bits (b ∷ bits) = one b + 2 * from_bits bits

-- one of these holds
abbrev pub any_of : List Bool → Bool
any_of [] = false
any_of (b ∷ l) = b || any_of l

-- ── values ──
-- a list by its places
abbrev pub spelled : ℕ → (ℕ → ℕ) → List ℕ
spelled zero f = []
spelled (suc k) f = f 0 ∷ spelled k (λ i. f (suc i))

-- every value fits the bytes of its size
abbrev pub Fit : List ℕ → List ℕ → Type 0
Fit [] [] = Unit {0}
Fit [] (v ∷ values) = ⊥
Fit (n ∷ sizes) [] = ⊥
Fit (n ∷ sizes) (v ∷ values) = (v < 2 ^ (8 * n)) × Fit sizes values

-- ── written ──
-- the bytes that a field of n bytes takes
abbrev pub part_size : ℕ → ℕ → ℕ
part_size map n = cond (bit 0 map) n 0

-- the fields whose bit stands, in their order, low byte first
abbrev pub field_bytes : List ℕ → ℕ → List ℕ → List ℕ
field_bytes [] map values = []
field_bytes (n ∷ sizes) map [] = []
field_bytes (n ∷ sizes) map (v ∷ values) = bytes_of (part_size map n) v ++ field_bytes sizes (map / 2) values

-- ── read ──
-- a number of n bytes, low byte first; 11 where the bytes end early
abbrev pub take_number : ℕ → List ℕ → Parsed ℕ
take_number n bytes = cond (leb n (length bytes)) (next (number_from (take n bytes)) (drop n bytes)) (stop 11)

-- a field where its bit stands, else its default, which takes no bytes
abbrev pub field : Bool → ℕ → (List ℕ → Parsed ℕ) → List ℕ → Parsed ℕ
field true d read bytes = read bytes
field false d read bytes = next d bytes

-- the fields in their order
abbrev pub take_fields : List ℕ → ℕ → List ℕ → List ℕ → Parsed (List ℕ)
take_fields [] map defaults bytes = next [] bytes
take_fields (n ∷ sizes) map [] bytes = next [] bytes
take_fields (n ∷ sizes) map (d ∷ defaults) bytes =
    and_then (field (bit 0 map) d (take_number n) bytes) (λ v rest.
    and_then (take_fields sizes (map / 2) defaults rest) (λ values end. next (v ∷ values) end))
