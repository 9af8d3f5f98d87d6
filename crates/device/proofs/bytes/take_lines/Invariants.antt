use Prim.Native.Nat.{◌-◌, ◌≤◌}
use mathlib.Core.Path.{◌≡◌}
use mathlib.Core.Bool.{false}
use lib.ListN.{length}
use Rattle.line.specs.Receiving.{line_limit}
use Rattle.line.specs.Runs.{marked_bytes}
use Rattle.device.proofs.Turns.{TakenSoFar}
use Rattle.device.proofs.Turning.{turn_of}
use Rattle.device.proofs.bytes.take_lines.Given as goal

abbrev pub invariant-loop-at : goal.invariant-loop-at
invariant-loop-at l =
    (l.at ≤ length l.bytes)
    × (l.count ≤ length l.out)
    × (length l.state.line.bytes ≡ line_limit)
    × TakenSoFar l.profile l.initial.state (marked_bytes l.bytes l.marks) l.initial.out (turn_of l.state l.count l.at false) l.out

abbrev pub decreases-loop-at : goal.decreases-loop-at
decreases-loop-at l = length l.bytes - l.at
