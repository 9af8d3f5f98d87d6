-- What a lent buffer is filled with, and whether a byte of it has changed.
-- Assumes nothing.
use Rattle.std.specs.Prelude.{ℕ, zero, suc, ◌+◌, ◌%◌, Bool, not, List, [], ◌∷◌, ◌++◌, length, drop}
use Rattle.text.specs.Ascii.{same_text}

-- the byte of place i: at every place, two seeds give two bytes
abbrev pub cell_at : ℕ → ℕ → ℕ
cell_at seed i = (seed + i % 256) % 256

-- the first n bytes
abbrev pub pattern : ℕ → ℕ → List ℕ
pattern seed zero = []
pattern seed (suc n) = pattern seed n ++ (cell_at seed n ∷ [])

-- whether a byte from a place on is not the pattern's
abbrev pub is_spilt : ℕ → ℕ → List ℕ → Bool
is_spilt seed from l = not (same_text (drop from l) (drop from (pattern seed (length l))))
