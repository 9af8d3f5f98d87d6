use borrow.Author.Rules.{rules}
use Rattle.weight.proofs.Allowed.{allowed_decimals}
use Rattle.weight.proofs.Moves.{distance_fits}
use Rattle.weight.proofs.changes.is_thirty_steps.Goals as goal

pub scale_of-requires : goal.scale_of-requires
scale_of-requires c = search (rules, allowed_decimals)

pub overflow_mul-result-2 : goal.overflow_mul-result-2
overflow_mul-result-2 c = search (rules, distance_fits)
