-- The words of a line: what stands between blanks.
-- Assumes nothing.
use Rattle.std.specs.Prelude.{Bool, true, false, cond, ◌||◌, List, [], ◌∷◌, ℕ, eqb, length, take, drop}
use Rattle.std.specs.List.{prefix_len}
use Rattle.std.specs.Bool.{beq}
use Prim.Native.Char.{code}
use Prim.Native.String.{String, [] as []ᵗ, ◌∷◌ as ◌∷ᵗ◌}

-- the bytes of a text in ASCII
abbrev pub letters : String → List ℕ
letters []ᵗ = []
letters (c ∷ᵗ s) = code c ∷ letters s

-- one value for an empty text and one for any other
abbrev pub if_empty : {A : Type 0} → List ℕ → A → A → A
if_empty l a b = cond (eqb (length l) 0) a b

-- space, tab and carriage return
abbrev pub blank : ℕ → Bool
blank b = eqb b 32 || eqb b 9 || eqb b 13

-- how many bytes in front are blanks (true), or are none (false)
abbrev pub front : Bool → List ℕ → ℕ
front t l = prefix_len (λ b. beq (blank b) t) l

-- without the blanks in front
unfoldable pub skip_blanks : List ℕ → List ℕ
skip_blanks l = drop (front true l) l

-- without the blanks at the end
abbrev pub unless_blank : ℕ → List ℕ → List ℕ
unless_blank b [] = cond (blank b) [] (b ∷ [])
unless_blank b (c ∷ l) = b ∷ c ∷ l

unfoldable pub trim_end : List ℕ → List ℕ
trim_end [] = []
trim_end (b ∷ l) = unless_blank b (trim_end l)

unfoldable pub trim : List ℕ → List ℕ
trim l = trim_end (skip_blanks l)

-- up to the first blank
unfoldable pub word : List ℕ → List ℕ
word l = take (front false l) l

-- what follows the first word and the blanks behind it
unfoldable pub after_word : List ℕ → List ℕ
after_word l = skip_blanks (drop (front false l) l)
