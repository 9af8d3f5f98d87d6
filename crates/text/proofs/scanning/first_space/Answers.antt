use borrow.Author.Rules.{rules}
use Rattle.text.proofs.Searching.{first_space_at}
use Rattle.text.proofs.scanning.first_space.Goals as goal

pub returns : goal.returns
returns c = search (rules, first_space_at)
