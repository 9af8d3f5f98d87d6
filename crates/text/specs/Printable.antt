-- The texts that a line may carry between quotes.
-- Assumes nothing.
use Rattle.std.specs.Prelude.{ℕ, Bool, true, not, ◌&&◌, List, [], ◌∷◌, leb, eqb}
use Rattle.weight.specs.Characters.{space, quote}

-- bytes 32 to 255 without 34
abbrev pub is_printable : List ℕ → Bool
is_printable [] = true
is_printable (c ∷ t) = (leb space c && not (eqb c quote)) && is_printable t
