use borrow.Author.Rules.{rules}
use Rattle.line.proofs.Rows.{row_1, row_2, row_3, row_4, row_5, rows_6_to_8, space_known}
use Rattle.line.proofs.Scanning.{place_limit}
use Rattle.line.proofs.judge.judge_text.Goals as goal

pub split_at-requires : goal.split_at-requires
split_at-requires c = search (rules, place_limit)

pub returns-then-faulty : goal.returns-then-faulty
returns-then-faulty c = search (rules, row_1)

pub returns-then-unknown : goal.returns-then-unknown
returns-then-unknown c = search (rules, row_2)

pub returns-then-extra : goal.returns-then-extra
returns-then-extra c = search (rules, row_3)

pub returns-then-command-eq-RESET : goal.returns-then-command-eq-RESET
returns-then-command-eq-RESET c = search (rules, row_4)

pub returns-then-situation : goal.returns-then-situation
returns-then-situation c = search (rules, row_5)

pub last_rows-requires : goal.last_rows-requires
last_rows-requires c = search (rules, space_known)

pub returns-else-situation : goal.returns-else-situation
returns-else-situation c = search (rules, rows_6_to_8)
