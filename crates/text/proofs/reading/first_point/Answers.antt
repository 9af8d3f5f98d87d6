use borrow.Author.Rules.{rules}
use Rattle.text.proofs.Searching.{first_point_at}
use Rattle.text.proofs.reading.first_point.Goals as goal

pub returns : goal.returns
returns c = search (rules, first_point_at)
