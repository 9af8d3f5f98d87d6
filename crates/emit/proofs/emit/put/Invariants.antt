use Rattle.std.proofs.Common.{◌≡◌, length, take}
use Rattle.emit.specs.Pieces.{Laid, joined}
use Rattle.emit.proofs.emit.put.Given as goal

abbrev pub invariant-loop-piece : goal.invariant-loop-piece
invariant-loop-piece l = (length l.out ≡ length l.initial.out) × Laid l.initial.out l.at l.out l.end (joined (take l.piece-index l.pieces))
