use borrow.Author.Rules.{rules}
use Rattle.line.proofs.Rows.{judged}
use Rattle.line.proofs.judge.judge_line.Goals as goal

pub returns : goal.returns
returns c = search (rules, judged)
