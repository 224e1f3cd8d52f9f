-- What stands before the first command: the tool's arguments, and the mark that some editors put in front of a text.
-- Assumes nothing.
use Rattle.std.specs.Prelude.{cond, List, [], ◌∷◌, ℕ, eqb, get_or, take, drop, bytes_eq, Option, None, Some}
use Rattle.commands.specs.Words.{letters}
use Rattle.commands.specs.declared.Choice.{Choice}

-- an option by its name; what else begins with a hyphen is none, and all the rest names a script
unfoldable pub option_of : List ℕ → Option Choice
option_of l =
    cond (bytes_eq l (letters "-")) (Some Choice.Input) (
    cond (bytes_eq l (letters "--strict")) (Some Choice.Strict) (
    cond (bytes_eq l (letters "--report")) (Some Choice.Report) (
    cond (bytes_eq l (letters "--version")) (Some Choice.Version) (
    cond (bytes_eq l (letters "--help")) (Some Choice.Help) (
    cond (bytes_eq l (letters "-h")) (Some Choice.Help) (
    cond (eqb (get_or l 0 0) 45) None (Some Choice.Script)))))))

-- a text without the byte order mark of UTF-8, where it begins with one
unfoldable pub without_mark : List ℕ → List ℕ
without_mark l = cond (bytes_eq (take 3 l) (239 ∷ 187 ∷ 191 ∷ [])) (drop 3 l) l
