-- What a line asks for.
-- Assumes nothing.
use Rattle.std.specs.Prelude.{cond, List, [], ◌∷◌, ℕ, ◌-◌, ◌^◌, eqb, get_or, bytes_eq, Option, None, Some, Result, Ok, Err}
use Prim.Native.String.{String}
use Rattle.digits.specs.Numbers.{decimal_of, number_of}
use Rattle.commands.specs.Words.{letters, if_empty, trim, word, after_word}
use Rattle.commands.specs.declared.Asks.{Asks}
use Rattle.commands.specs.declared.Command.{Command}
use Rattle.commands.specs.declared.Expected.{Expected}
use Rattle.commands.specs.declared.Mistake.{Mistake}

-- ── the numbers that commands take, each a word ──
-- below 2 to the 32, in decimal digits
abbrev pub first_number : List ℕ → Option ℕ
first_number l = decimal_of (2 ^ 32 - 1) (word l)

-- a salt: below 2 to the 64, in decimal digits or in hexadecimal ones after 0x; 0 where it is left out
abbrev pub first_salt : List ℕ → Option ℕ
first_salt l = if_empty l (Some 0) (number_of (2 ^ 64 - 1) (word l))

-- ── what stands after the name: where it is not as it should be, the answer says what was expected ──
-- a tag or the name of a file: all that follows, blanks within it too
abbrev pub with_text : Result Command Mistake → Expected → List ℕ → Result Command Mistake
with_text c e l = if_empty l (Err (Mistake.Missing e)) c

-- nothing more
abbrev pub alone : Result Command Mistake → Expected → List ℕ → Result Command Mistake
alone c e l = if_empty l c (Err (Mistake.Extra e))

-- one word more, the last
abbrev pub last_word : Result Command Mistake → Expected → List ℕ → Result Command Mistake
last_word c e rest = with_text (alone c e (after_word rest)) e rest

-- one number
abbrev pub view_command : Option ℕ → Result Command Mistake
view_command None = Err (Mistake.NotNumber Expected.Bucket)
view_command (Some b) = Ok (Command.View b)

unfoldable pub view_line : List ℕ → Result Command Mistake
view_line rest = last_word (view_command (first_number rest)) Expected.Bucket rest

-- four numbers and a salt; the first that is none is told
abbrev pub settings_command : Option ℕ → Option ℕ → Option ℕ → Option ℕ → Option ℕ → Result Command Mistake
settings_command (Some r) (Some w) (Some m) (Some k) (Some s) = Ok (Command.Settings r w m k s)
settings_command (Some r) (Some w) (Some m) (Some k) None = Err (Mistake.NotNumber Expected.Salt)
settings_command (Some r) (Some w) (Some m) None s = Err (Mistake.NotNumber Expected.Mask)
settings_command (Some r) (Some w) None k s = Err (Mistake.NotNumber Expected.Buckets)
settings_command (Some r) None m k s = Err (Mistake.NotNumber Expected.Width)
settings_command None w m k s = Err (Mistake.NotNumber Expected.Rule)

-- the fourth word has to be there, and nothing may follow the fifth
unfoldable pub settings_numbers : List ℕ → Result Command Mistake
settings_numbers rest =
    let second = after_word rest in
    let third = after_word second in
    let fourth = after_word third in
    let fifth = after_word fourth in
    let command = settings_command (first_number rest) (first_number second) (first_number third) (first_number fourth) (first_salt fifth) in
    with_text (alone command Expected.Settings (after_word fifth)) Expected.Settings fourth

-- with nothing after it, the present settings are asked for
unfoldable pub settings_line : List ℕ → Result Command Mistake
settings_line rest = if_empty rest (Ok Command.Present) (settings_numbers rest)

-- ── the keywords ──
-- a name, and what it asks for
pub record Keyword : Type 0 where
  pub name : List ℕ
  pub asks : Asks

abbrev pub keyword : String → Asks → Keyword
keyword n a = record { name = letters n; asks = a }

abbrev pub keywords : List Keyword
keywords =
    keyword "hold" (Asks.Text Command.Hold Expected.Tag)
    ∷ keyword "release" (Asks.Text Command.Release Expected.Tag)
    ∷ keyword "lookup" (Asks.Text Command.Lookup Expected.Tag)
    ∷ keyword "forecast" (Asks.Text Command.Forecast Expected.Tag)
    ∷ keyword "save" (Asks.Text Command.Save Expected.File)
    ∷ keyword "load" (Asks.Text Command.Load Expected.File)
    ∷ keyword "pack" (Asks.Text Command.Pack Expected.File)
    ∷ keyword "unpack" (Asks.Text Command.Unpack Expected.File)
    ∷ keyword "convert" (Asks.Files Command.Convert)
    ∷ keyword "view" Asks.View
    ∷ keyword "settings" Asks.Settings
    ∷ keyword "clear" (Asks.Nothing Command.Clear)
    ∷ keyword "length" (Asks.Nothing Command.Length)
    ∷ keyword "stats" (Asks.Nothing Command.Stats)
    ∷ keyword "help" (Asks.Nothing Command.Help)
    ∷ []

-- what a name asks for
unfoldable pub asks_of : List ℕ → List Keyword → Option Asks
asks_of n [] = None
asks_of n (k ∷ ks) = cond (bytes_eq n k.name) (Some k.asks) (asks_of n ks)

-- and with what stands after it
abbrev pub asked : Option Asks → List ℕ → Result Command Mistake
asked (Some (Asks.Text c e)) rest = with_text (Ok c) e rest
asked (Some (Asks.Files c)) rest = with_text (Ok c) Expected.Files (after_word rest)
asked (Some (Asks.Nothing c)) rest = alone (Ok c) Expected.Nothing rest
asked (Some Asks.View) rest = view_line rest
asked (Some Asks.Settings) rest = settings_line rest
asked None rest = Err Mistake.Unknown

-- ── the line ──
unfoldable pub named : List ℕ → List ℕ → Result Command Mistake
named name rest = asked (asks_of name keywords) rest

-- an empty line and one that starts with # ask for nothing
unfoldable pub command_in : List ℕ → Result Command Mistake
command_in l = if_empty l (Ok Command.Nothing) (cond (eqb (get_or l 0 0) 35) (Ok Command.Nothing) (named (word l) (after_word l)))

unfoldable pub command_of : List ℕ → Result Command Mistake
command_of line = command_in (trim line)

-- the tag or the file's name that a line has
unfoldable pub argument_of : List ℕ → List ℕ
argument_of line = after_word (trim line)

-- of two names the first is a word, and the second all that follows, blanks within it too
unfoldable pub first_name_of : List ℕ → List ℕ
first_name_of line = word (argument_of line)

unfoldable pub second_name_of : List ℕ → List ℕ
second_name_of line = after_word (argument_of line)
