-- A line in a lent buffer: document 01, "Refusal numbers" (3).
-- Assumes nothing.
use Rattle.std.specs.Prelude.{ℕ, Bool, cond, List, ◌++◌, Option, Some, None, leb, length, drop}

abbrev pub fits_room : List ℕ → List ℕ → Bool
fits_room line room = leb (length line) (length room)

-- the line's length, or nothing where the buffer is shorter
unfoldable pub emitted : List ℕ → List ℕ → Option ℕ
emitted line room = cond (fits_room line room) (Some (length line)) None

-- the line and then the rest as before, or all as before where the buffer is shorter
unfoldable pub laid_in : List ℕ → List ℕ → List ℕ
laid_in line room = cond (fits_room line room) (line ++ drop (length line) room) room
