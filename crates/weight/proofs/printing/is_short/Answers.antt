use borrow.Author.Rules.{rules}
use Rattle.weight.proofs.Sure.{never_short, surely_short}
use Rattle.weight.proofs.printing.is_short.Goals as goal

pub returns-then-size-resolution : goal.returns-then-size-resolution
returns-then-size-resolution c = search (rules, never_short)

pub returns-then-resolution-sure_decimals : goal.returns-then-resolution-sure_decimals
returns-then-resolution-sure_decimals c = search (rules, surely_short)
