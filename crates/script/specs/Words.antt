-- The words of a line, with one space between them.
-- Assumes nothing.
use Rattle.std.specs.Prelude.{ℕ, zero, suc, List, ◌==◌, count_by}
use Rattle.weight.specs.Characters.{space}
use Rattle.text.specs.Searching.{before_first, after_first}

-- all of the line where there is no space
abbrev pub first_word : List ℕ → List ℕ
first_word t = before_first space t

-- what follows the first space; nothing where there is none
abbrev pub after_word : List ℕ → List ℕ
after_word t = after_first space t

-- what follows n words and a space after each
abbrev pub after_words : ℕ → List ℕ → List ℕ
after_words zero t = t
after_words (suc n) t = after_word (after_words n t)

-- the word of place n; nothing past the last
abbrev pub word_at : ℕ → List ℕ → List ℕ
word_at n t = first_word (after_words n t)

-- how many spaces there are: as many words follow the first
abbrev pub spaces_in : List ℕ → ℕ
spaces_in t = count_by (λ c. c == space) t
