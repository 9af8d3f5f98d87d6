use borrow.Author.Rules.{rules}
use Rattle.text.proofs.HighestFirst.{counted_turn, counted_digit}
use Rattle.text.proofs.field.put_digit.Goals as goal

pub loop-rest-preserved : goal.loop-rest-preserved
loop-rest-preserved c = counted_turn _ _ _ _ c.loop-rest.invariant c.requires.power_nonzero (search rules)

pub returns-clause-out_after : goal.returns-clause-out_after
returns-clause-out_after c = rw (counted_digit c.args.value c.args.power c.loop-rest.rest c.loop-rest.byte c.loop-rest.invariant (search rules))
