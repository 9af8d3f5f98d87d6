use borrow.Author.Rules.{rules}
use Rattle.weight.proofs.Presets.{preset_not, preset_read, preset_refused}
use Rattle.weight.proofs.preset.preset_amount.Goals as goal

pub returns-in-Some : goal.returns-in-Some
returns-in-Some c = search (rules, preset_read)

pub returns-in_default : goal.returns-in_default
returns-in_default c = preset_not _ _ _ c.in-Some.allowed c.in-Some.ensures c.if-decimals-value.false

pub returns-in_default-2 : goal.returns-in_default-2
returns-in_default-2 c = search (rules, preset_refused)
