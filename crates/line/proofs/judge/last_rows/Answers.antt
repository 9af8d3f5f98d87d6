use Rattle.std.proofs.Common.{rules}
use Rattle.line.specs.Parts.{show_rule, preset_rule, change_rule, select_rule}
use Rattle.line.proofs.Rows.{by_parameter, show_row, preset_row, change_row, select_row, no_sample, runs}
use Rattle.line.proofs.judge.last_rows.Goals as goal

pub returns-in-12 : goal.returns-in-12
returns-in-12 c =
    by_parameter c.args.situation _ c.in-12.is c.requires _ c.get-parameter.ensures.lookup show_rule _ c.map_or.ensures (λ p told. told) (show_row _ _)

pub returns-in-16 : goal.returns-in-16
returns-in-16 c =
    let rule = preset_rule c.args.situation in
    by_parameter c.args.situation _ c.in-16.is c.requires _ c.get-parameter.ensures.lookup rule _ c.map_or-in-16.ensures (λ p told. search rules) (preset_row _ _)

pub returns-in-14 : goal.returns-in-14
returns-in-14 c =
    let rule = change_rule c.args.situation in
    by_parameter c.args.situation _ c.in-14.is c.requires _ c.get-parameter.ensures.lookup rule _ c.map_or-in-14.ensures (λ p told. search rules) (change_row _ _)

pub returns-in-19 : goal.returns-in-19
returns-in-19 c =
    by_parameter c.args.situation _ c.in-19.is c.requires _ c.get-parameter.ensures.lookup select_rule _ c.map_or-in-19.ensures (λ p told. told) (select_row _ _)

pub returns-in_default : goal.returns-in_default
returns-in_default c = search (rules, no_sample)

pub returns-in_default-2 : goal.returns-in_default-2
returns-in_default-2 c = search (rules, runs)
