use Rattle.std.proofs.Common.{◌≡◌, length, take}
use Rattle.emit.proofs.emit.copy.Given as goal

abbrev pub invariant-loop-i : goal.invariant-loop-i
invariant-loop-i l = (length l.cells ≡ length l.piece) × (take l.i l.cells ≡ take l.i l.piece)
