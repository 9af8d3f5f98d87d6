use Rattle.line.proofs.Parameters.{change_taken, change_outside, change_none}
use Rattle.line.proofs.parameter.change_rule.Goals as goal

pub returns-in-Ok : goal.returns-in-Ok
returns-in-Ok c =
    change_taken c.args.situation _ c.number_in.ensures c.read_typed.ensures c.map.ensures.cases c.in-Ok.is c.is_threshold_within.ensures c.if-threshold-is_threshold_within.true

pub returns-in_default : goal.returns-in_default
returns-in_default c =
    change_outside c.args.situation _ c.number_in.ensures c.read_typed.ensures c.map.ensures.cases c.in-Ok.is c.is_threshold_within.ensures c.if-threshold-is_threshold_within.false

pub returns-in_default-2 : goal.returns-in_default-2
returns-in_default-2 c = change_none c.args.situation _ c.number_in.ensures c.read_typed.ensures c.map.ensures.cases c.in_default.is
