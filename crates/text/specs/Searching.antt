-- A text on both sides of the first place of a byte.
-- Assumes nothing.
use Rattle.std.specs.Prelude.{ℕ, ◌+◌, ◌≤◌, ◌≡◌, Bool, false, cond, ◌||◌, List, [], ◌∷◌, ltb, eqb, length, take, drop}
use Rattle.weight.specs.Characters.{space}

-- the bytes before the first b, all of them where there is none
abbrev pub before_first : ℕ → List ℕ → List ℕ
before_first b [] = []
before_first b (c ∷ t) = cond (eqb c b) [] (c ∷ before_first b t)

-- the bytes after the first b
abbrev pub after_first : ℕ → List ℕ → List ℕ
after_first b [] = []
after_first b (c ∷ t) = cond (eqb c b) t (after_first b t)

abbrev pub has_byte : ℕ → List ℕ → Bool
has_byte b [] = false
has_byte b (c ∷ t) = eqb c b || has_byte b t

-- the first b of t is at i, or i is the length and there is none
pub record FirstAt (b : ℕ) (t : List ℕ) (i : ℕ) : Type 0 where
  pub in_text : i ≤ length t
  pub before : take i t ≡ before_first b t
  pub after : drop (i + 1) t ≡ after_first b t
  pub has : ltb i (length t) ≡ has_byte b t

-- ---- a text by its spaces

-- the bytes before the first space, all of them where there is none
abbrev pub before_space : List ℕ → List ℕ
before_space t = before_first space t

-- the bytes after the first space
abbrev pub after_space : List ℕ → List ℕ
after_space t = after_first space t

abbrev pub has_space : List ℕ → Bool
has_space t = has_byte space t
