-- The bytes of the characters that a number is written with.
-- Assumes nothing.
use Rattle.std.specs.Prelude.{ℕ, ◌+◌}

abbrev pub space : ℕ
space = 32

abbrev pub quote : ℕ
quote = 34

abbrev pub minus : ℕ
minus = 45

abbrev pub point : ℕ
point = 46

-- the byte of a digit: 48 is "0"
abbrev pub digit : ℕ → ℕ
digit n = 48 + n
