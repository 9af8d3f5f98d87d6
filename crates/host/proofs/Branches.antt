-- The branches in which the reader guesses an answer: with a space and without.
-- Assumes nothing.
use mathlib.Core.Path.{◌≡◌, refl, sym, ◌∙◌}
use mathlib.Core.Bool.{Bool, true, false}
use mathlib.Core.List.{List, [], ◌∷◌}
use Prim.Native.Nat.{ℕ, suc, ◌≤◌, ◌<◌}
use native.Mathlib.Omega.{arith}
use borrow.Author.Tests.{lt-ltb, le-ltb}
use lib.Dec.{eqb, ltb, leb-suc-suc}
use lib.ListN.{length, get_or}
use Rattle.answer.specs.Commands.{place_of}
use Rattle.host.specs.Reads.{error_guess, named_guess, guessed}
use Rattle.text.specs.Searching.{before_space, has_space}
use Rattle.weight.specs.Characters.{space}

-- the line goes on after its name where there is a space
goes_on : (l : List ℕ) → ltb (length (before_space l)) (length l) ≡ has_space l
goes_on [] = refl
goes_on (c ∷ l) = go (eqb c space) refl (goes_on l)
  where
    go : (b : Bool) → eqb c space ≡ b → ltb (length (before_space l)) (length l) ≡ has_space l → ltb (length (before_space (c ∷ l))) (length (c ∷ l)) ≡ has_space (c ∷ l)
    go true e h = rw e (lt-ltb 0 (suc (length l)) (omega arith))
    go false e h = rw (e, leb-suc-suc (suc (length (before_space l))) (length l)) h

pub spaced_branch : (l : List ℕ) → length (before_space l) < length l → guessed l ≡ named_guess (place_of (before_space l)) l
unfolding guessed
spaced_branch l h = rw (sym (goes_on l) ∙ lt-ltb (length (before_space l)) (length l) h)

pub unspaced_branch : (l : List ℕ) → length l ≤ length (before_space l) → guessed l ≡ error_guess (get_or l 1 0)
unfolding guessed
unspaced_branch l h = rw (sym (goes_on l) ∙ le-ltb (length (before_space l)) (length l) h)
