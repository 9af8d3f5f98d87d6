use Rattle.std.proofs.Common.{rules}
use Rattle.line.proofs.Parameters.{preset_taken, preset_above, preset_none}
use Rattle.line.proofs.parameter.preset_rule.Goals as goal

pub returns-in-Ok : goal.returns-in-Ok
returns-in-Ok c = search (rules, preset_taken)

pub returns-in_default : goal.returns-in_default
returns-in_default c = search (rules, preset_above)

pub returns-in_default-2 : goal.returns-in_default-2
returns-in_default-2 c = search (rules, preset_none)
