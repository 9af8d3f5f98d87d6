use Rattle.std.proofs.Common.{rules, ◌∙◌, sym}
use Rattle.line.proofs.Parameters.{no_code, code_read, coded_row, other_place}
use Rattle.line.proofs.parameter.select_rule.Goals.{else-space-parameter-via-then-space-parameter+else-same_text, else-space-parameter-via-else-space-parameter}
use Rattle.line.proofs.parameter.select_rule.Goals as goal

pub returns-then-same_text : goal.returns-then-same_text
returns-then-same_text c =
    let read = code_read _ c.first_space-space.ensures c.if-space-parameter.true c.same_text.ensures c.if-same_text.true in
    coded_row _ _ (read ∙ sym c.read_code.ensures) c.map_or.ensures

pub returns-else-space-parameter : goal.returns-else-space-parameter
returns-else-space-parameter c =
    elim c.else-space-parameter.branch [
      | else-space-parameter-via-then-space-parameter+else-same_text w ↦ search (rules, other_place)
      | else-space-parameter-via-else-space-parameter w ↦ search (rules, no_code)
    ]
