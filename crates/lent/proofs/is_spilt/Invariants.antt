use Rattle.std.proofs.Common.{◌+◌}
use Rattle.lent.proofs.Filling.{LookedAt}
use Rattle.lent.proofs.is_spilt.Given as goal

abbrev pub invariant-loop-byte : goal.invariant-loop-byte
invariant-loop-byte l = LookedAt l.seed l.from l.out l.spilt l.due (l.from + l.byte-index)
