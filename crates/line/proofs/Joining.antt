-- A byte that joins the line, in the two ways of the definition.
-- Assumes nothing.
use mathlib.Core.Path.{◌≡◌}
use mathlib.Core.Bool.{Bool, true, false, ◌||◌, or-true, or-false}
use Prim.Native.Nat.{ℕ, ◌+◌, ◌≤◌, ◌<◌}
use lib.ListN.{set}
use borrow.Author.Tests.{le-ltb, lt-ltb}
use Rattle.line.specs.declared.receive.Line.{Line}
use Rattle.line.specs.Receiving.{joined_line, line_limit}

module _ (l : Line) (b : ℕ) (bad : Bool) where
  -- all cells are taken
  pub no_room : line_limit ≤ l.len
      → record { bytes = l.bytes; len = l.len; over = true; faulty = l.faulty || bad; returned = false } ≡ joined_line l b bad
  unfolding joined_line
  no_room h = rw (le-ltb l.len line_limit h, or-true l.over)

  -- the byte takes the next cell
  pub next_cell : l.len < line_limit
      → record { bytes = set l.bytes l.len b; len = l.len + 1; over = l.over; faulty = l.faulty || bad; returned = false } ≡ joined_line l b bad
  unfolding joined_line
  next_cell h = rw (lt-ltb l.len line_limit h, or-false l.over)
