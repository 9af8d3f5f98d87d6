-- A byte keeps the 64 cells of the line and counts no more than these, whatever they hold.
-- Assumes nothing.
use Prim.Native.Nat.{ℕ, ◌≤◌}
use mathlib.Core.Path.{◌≡◌, refl, ◌∙◌}
use mathlib.Core.Bool.{Bool, true, false, not, ◌&&◌}
use native.Mathlib.Omega.{arith}
use lib.Dec.{ltb, eqb}
use lib.ListN.{length, length-set}
use borrow.Author.Tests.{ltb-true, ltb-false}
use Rattle.line.specs.declared.receive.Line.{Line}
use Rattle.line.specs.Receiving.{carriage_return, chosen_line, ends_line, joined_line, line_limit, received_byte, settled_line, with_return}
use Rattle.line.proofs.Joining.{next_cell, no_room}

pub record InCells (l : Line) : Type 0 where
  pub cells : length l.bytes ≡ line_limit
  pub len : l.len ≤ line_limit

chosen_in : (b : Bool) {l m : Line} → InCells l → InCells m → InCells (chosen_line b l m)
chosen_in true h k = h
chosen_in false h k = k

with_return_in : {l : Line} (r : Bool) → InCells l → InCells (with_return l r)
with_return_in r h = record { cells = h.cells; len = h.len }

module _ (l : Line) (h : InCells l) (b : ℕ) (bad : Bool) where
  joined_by : (room : Bool) → ltb l.len line_limit ≡ room → InCells (joined_line l b bad)
  joined_by true e =
      let free = ltb-true l.len line_limit e in
      rw (← next_cell l b bad free) (record { cells = length-set l.bytes l.len b ∙ h.cells; len = omega (arith, free) })
  joined_by false e = rw (← no_room l b bad (ltb-false l.len line_limit e)) (record { cells = h.cells; len = h.len })

  joined_in : InCells (joined_line l b bad)
  joined_in = joined_by (ltb l.len line_limit) refl

settled_in : (l : Line) → InCells l → InCells (settled_line l)
unfolding settled_line
settled_in l h = chosen_in l.returned (joined_in l h carriage_return false) h

pub received_in : (l : Line) → InCells l → (b : ℕ) (bad : Bool) → InCells (received_byte l b bad).line
unfolding received_byte
received_in l h b bad =
    chosen_in (ends_line l b bad) (with_return_in false h)
    (chosen_in (not bad && eqb b carriage_return) (with_return_in true (settled_in l h)) (joined_in (settled_line l) (settled_in l h) b bad))
