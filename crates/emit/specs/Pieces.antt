-- Pieces laid one after another into a buffer. `sets d a s` is d with s stored from a on.
-- Assumes nothing.
use Rattle.std.specs.Prelude.{ℕ, ◌≡◌, ◌+◌, List, [], ◌∷◌, ◌++◌, length}
use Rattle.std.specs.Borrow.{Bor}
use Rattle.std.proofs.lemmas.List.Edits.{sets}

-- the pieces one after another
abbrev pub joined : List (Bor (List ℕ)) → List ℕ
joined [] = []
joined (p ∷ ps) = p.now ++ joined ps

-- s stands in e from a up to b, and the rest of e is as in d
abbrev pub Laid : List ℕ → ℕ → List ℕ → ℕ → List ℕ → Type 0
Laid d a e b s = (b ≡ a + length s) × (e ≡ sets d a s)
