use Rattle.std.proofs.Common.{rules}
use Rattle.line.proofs.Parameters.{no_space, other_unit, own_unit}
use Rattle.line.proofs.parameter.number_in.Goals.{else-space-parameter-via-then-space-parameter+else-is_unit, else-space-parameter-via-else-space-parameter}
use Rattle.line.proofs.parameter.number_in.Goals as goal

pub returns-then-is_unit : goal.returns-then-is_unit
returns-then-is_unit c = search (rules, own_unit)

pub returns-else-space-parameter : goal.returns-else-space-parameter
returns-else-space-parameter c =
    elim c.else-space-parameter.branch [
      | else-space-parameter-via-then-space-parameter+else-is_unit w ↦ search (rules, other_unit)
      | else-space-parameter-via-else-space-parameter w ↦ search (rules, no_space)
    ]
