use borrow.Author.Rules.{rules}
use Rattle.text.proofs.NumberText.{spaces_limit, spaces_counted}
use Rattle.text.proofs.reading.space_count.Goals as goal

pub returns-clause-upper_bound : goal.returns-clause-upper_bound
returns-clause-upper_bound c = search (rules, spaces_limit)

pub returns-clause-text_value : goal.returns-clause-text_value
returns-clause-text_value c = search (rules, spaces_counted)
