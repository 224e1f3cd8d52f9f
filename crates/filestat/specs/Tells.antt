-- What the crate's contracts cite. Each is an `abbrev`, so that a caller's proof can use what it says. Assumes nothing.
use Rattle.std.specs.Prelude.{ℕ, zero, suc, ℤ, pos, negsuc, Option, None, Some, ◌<◌, ◌≡◌, nat_lt, if◌then◌else◌, List, length, get_or}
use Rattle.filestat.specs.declared.FileStatus.{FileStatus}

-- no byte is 0
abbrev pub NoZero : List ℕ → Type 0
NoZero bytes = (i : ℕ) → i < length bytes → get_or bytes i 0 ≡ 0 → ⊥

-- C can be handed all of it, with a 0 at its end
abbrev pub IsPath : List ℕ → Type 0
IsPath bytes = (length bytes < 4096) × NoZero bytes

-- why bytes of such a length are no text of a path: they are too many, or not of a path's form
abbrev pub path_error : ℕ → ℤ
path_error n = if nat_lt n 4096 then pos 22 else pos 36

-- the number of the system's error, one of the disk where it gave none
abbrev pub number_told : Option ℤ → ℤ
number_told None = pos 5
number_told (Some (pos zero)) = pos 5
number_told (Some (pos (suc n))) = pos (suc n)
number_told (Some (negsuc n)) = negsuc n

-- what is told of a file with such a mode and such owners
abbrev pub Tells : ℕ → ℕ → ℕ → FileStatus → Type 0
Tells mode owner group r = (r.mode ≡ mode) × (r.owner ≡ owner) × (r.group ≡ group)
