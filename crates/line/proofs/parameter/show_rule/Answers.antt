use Rattle.std.proofs.Common.{arith, rules}
use Rattle.line.proofs.Parameters.{short, shows, shows_not}
use Rattle.line.proofs.parameter.show_rule.Goals as goal

pub overflow_sub-result : goal.overflow_sub-result
overflow_sub-result c = (short _ c.is_quoted.ensures c.if-is_quoted.true).least

pub overflow_cast-result : goal.overflow_cast-result
overflow_cast-result c =
    let few = (short _ c.is_quoted.ensures c.if-is_quoted.true).few in
    record { fits = omega arith }

pub returns-then-is_quoted : goal.returns-then-is_quoted
returns-then-is_quoted c = search (rules, shows)

pub returns-else-is_quoted : goal.returns-else-is_quoted
returns-else-is_quoted c = search (rules, shows_not)
