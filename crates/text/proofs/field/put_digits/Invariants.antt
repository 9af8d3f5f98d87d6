use Prim.Native.Nat.{◌≤◌}
use Rattle.text.proofs.HighestFirst.{Written}
use Rattle.text.proofs.field.put_digits.Given as goal

abbrev pub invariant-loop-place : goal.invariant-loop-place
invariant-loop-place l = (l.low ≤ l.place) × Written l.initial.out l.at l.high l.value l.out l.rest l.place l.cell
