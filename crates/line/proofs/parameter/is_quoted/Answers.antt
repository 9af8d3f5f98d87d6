use Rattle.std.proofs.Common.{rules}
use Rattle.line.proofs.Parameters.{no_quotes, in_quotes}
use Rattle.line.proofs.parameter.is_quoted.Goals as goal

pub returns-in_default : goal.returns-in_default
returns-in_default c = search (rules, no_quotes)

pub returns : goal.returns
returns c = search (rules, in_quotes)
