use Rattle.std.proofs.Common.{◌-◌}
use Rattle.line.specs.Runs.{marked_bytes, SoFar}
use Rattle.line.proofs.run.receive_run.Given as goal

abbrev pub invariant-loop-i : goal.invariant-loop-i
invariant-loop-i l = SoFar l.fn.line (marked_bytes l.bytes l.marks) l.line l.i

abbrev pub decreases-loop-i : goal.decreases-loop-i
decreases-loop-i l = l.count - l.i
