use borrow.Author.Rules.{rules}
use Rattle.text.proofs.Printing.{printable_by}
use Rattle.text.proofs.scanning.is_printable.Goals as goal

pub returns : goal.returns
returns c = search (rules, printable_by)
