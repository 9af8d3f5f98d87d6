-- The words of a whole-buffer call: two hexadecimal digits each, with "!" after those of a faulty byte.
-- Assumes nothing.
use Rattle.std.specs.Prelude.{ℕ, zero, suc, ◌+◌, ◌%◌, Bool, true, cond, ◌&&◌, ◌||◌, List, [], ◌∷◌, ◌++◌, unwrap_or, is_some, eqb, length, get_or}
use Rattle.script.specs.Hex.{hex_digit, hex_byte}
use Rattle.script.specs.Words.{word_at}

-- 33 is "!"
abbrev pub is_faulty : List ℕ → Bool
is_faulty w = eqb (get_or w 2 0) 33

-- two digits, and what a third character is
abbrev pub is_marked : List ℕ → Bool
is_marked w =
    is_some (hex_digit (get_or w 0 0))
    && is_some (hex_digit (get_or w 1 0))
    && (eqb (length w) 2 || (eqb (length w) 3 && is_faulty w))

-- the first n words of a text are such words
abbrev pub are_marked : ℕ → List ℕ → Bool
are_marked zero t = true
are_marked (suc n) t = are_marked n t && is_marked (word_at n t)

-- ---- what is lent

-- the byte that a word stands for
abbrev pub byte_of : List ℕ → ℕ
byte_of w = unwrap_or (hex_byte w 0) 0

-- the byte of place i
abbrev pub byte_at : List ℕ → ℕ → ℕ
byte_at t i = byte_of (word_at i t)

-- the mark of a word at place i: 0 is good, and the faulty ones have every other mark in turn
abbrev pub mark_of : List ℕ → ℕ → ℕ
mark_of w i = cond (is_faulty w) (i % 255 + 1) 0

-- past the last word, nothing is faulty
abbrev pub mark_at : List ℕ → ℕ → ℕ
mark_at t i = mark_of (word_at i t) i

-- those of the places below n
abbrev pub first_of : (ℕ → ℕ) → ℕ → List ℕ
first_of at zero = []
first_of at (suc n) = first_of at n ++ (at n ∷ [])
