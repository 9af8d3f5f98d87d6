-- Texts as lists of bytes.
-- Assumes nothing.
use Rattle.std.specs.Prelude.{ℕ, Bool, true, false, ◌&&◌, List, eqb}
use Prim.Native.String.{String, [], ◌∷◌}
use Prim.Native.Char.{code}
use mathlib.Core.List as L

-- the bytes of a text, so that definitions show texts and not codes
abbrev pub ascii : String → List ℕ
ascii [] = L.[]
ascii (c ∷ s) = L.◌∷◌ (code c) (ascii s)

-- the same bytes
abbrev pub same_text : List ℕ → List ℕ → Bool
same_text L.[] L.[] = true
same_text L.[] (L.◌∷◌ b t) = false
same_text (L.◌∷◌ a s) L.[] = false
same_text (L.◌∷◌ a s) (L.◌∷◌ b t) = eqb a b && same_text s t
