use Rattle.std.proofs.Common.{length}
use Rattle.lent.proofs.Filling.{FilledSoFar}
use Rattle.lent.proofs.fill.Given as goal

abbrev pub invariant-loop-i : goal.invariant-loop-i
invariant-loop-i l = FilledSoFar l.seed (length l.initial.out) l.out l.i
