use borrow.Author.Rules.{rules}
use Rattle.line.proofs.Scanning.{control_by}
use Rattle.line.proofs.scan.has_control.Goals as goal

pub returns : goal.returns
returns c = search (rules, control_by)
