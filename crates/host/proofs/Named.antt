-- A line that begins with a word and a space.
-- Assumes nothing.
use mathlib.Core.Path.{◌≡◌, refl}
use mathlib.Core.Bool.{true, false, not, or-true}
use mathlib.Core.List.{List, [], ◌∷◌, ◌++◌}
use Prim.Native.Nat.{ℕ}
use borrow.Author.Tests.{not-true}
use lib.Dec.{eqb}
use Rattle.answer.specs.Commands.{names, name_of}
use Rattle.answer.proofs.Names.{at_name}
use Rattle.text.specs.Searching.{before_space, has_space}
use Rattle.weight.specs.Characters.{space}
use Rattle.weight.proofs.Allowed.{neither_left, neither_right}

-- ---- no name has a space

pub name_unspaced : (c : ℕ) → has_space (name_of c) ≡ false
name_unspaced c = not-true (has_space (name_of c)) (at_name (λ n. not (has_space n)) names c refl)

-- ---- how such a line is cut

-- the word stands before the space
pub before_word : (w r : List ℕ) → has_space w ≡ false → before_space (w ++ (space ∷ r)) ≡ w
before_word [] r e = refl
before_word (c ∷ w) r e = rw (neither_left (eqb c space) (has_space w) e, before_word w r (neither_right (eqb c space) (has_space w) e))

pub word_spaced : (w r : List ℕ) → has_space (w ++ (space ∷ r)) ≡ true
word_spaced [] r = refl
word_spaced (c ∷ w) r = rw (word_spaced w r) (or-true (eqb c space))
