use borrow.Author.Rules.{rules}
use Rattle.weight.proofs.Allowed.{too_many_decimals, few_decimals}
use Rattle.weight.proofs.rounding.is_allowed.Goals as goal

pub returns-then-resolution-gt6 : goal.returns-then-resolution-gt6
returns-then-resolution-gt6 c = search (rules, too_many_decimals)

pub returns-else-resolution-gt6 : goal.returns-else-resolution-gt6
returns-else-resolution-gt6 c = rw (c.is_step_allowed.ensures, c.scale_of.ensures, c.divisor_of.ensures) (few_decimals c.args.resolution c.if-resolution-gt6.false)
