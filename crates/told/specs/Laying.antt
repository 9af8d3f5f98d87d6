-- A text in a line of given length: what has no place is left out.
-- Assumes nothing.
use Rattle.std.specs.Prelude.{ℕ, ◌+◌, ◌-◌, min, ◌≡◌, List, ◌++◌, length, take, drop}
use Rattle.std.proofs.lemmas.List.Edits.{sets}
use Rattle.told.specs.declared.words.Sheet.{Sheet}

-- the text as far as there are places, then the rest as before
unfoldable pub laid_over : List ℕ → List ℕ → List ℕ
laid_over text line = take (length line) (text ++ drop (length text) line)

-- how many bytes of it there are
unfoldable pub laid_count : List ℕ → List ℕ → ℕ
laid_count text line = min (length text) (length line)

-- one text of several: it stands in `after` from place `at` up to `next`, the rest as before
pub record Laid (before : List ℕ) (at : ℕ) (text : List ℕ) (after : List ℕ) (next : ℕ) : Type 0 where
  pub written : after ≡ sets before at text
  pub reached : next ≡ at + min (length text) (length before - at)

-- the same of what is written to, which stays the same line
pub record LaidOn (before : Sheet) (text : List ℕ) (after : Sheet) : Type 0 where
  pub laid : Laid before.line.now before.at text after.line.now after.at
  pub same : after.line.ghost_name ≡ before.line.ghost_name
