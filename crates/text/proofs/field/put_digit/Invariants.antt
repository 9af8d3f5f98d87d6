use Rattle.text.proofs.HighestFirst.{Counted}
use Rattle.text.proofs.field.put_digit.Given as goal

abbrev pub invariant-loop-rest : goal.invariant-loop-rest
invariant-loop-rest l = Counted l.value l.power l.rest l.byte

abbrev pub decreases-loop-rest : goal.decreases-loop-rest
decreases-loop-rest l = l.rest
