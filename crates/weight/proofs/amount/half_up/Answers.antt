use borrow.Author.Rules.{rules}
use Rattle.weight.proofs.HalfUp.{half_up_above, half_up_below}
use Rattle.weight.proofs.amount.half_up.Goals as goal

pub returns-then-by-rest : goal.returns-then-by-rest
returns-then-by-rest c = search (rules, half_up_above)

pub returns-else-by-rest : goal.returns-else-by-rest
returns-else-by-rest c = search (rules, half_up_below)
