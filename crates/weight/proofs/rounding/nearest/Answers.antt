use borrow.Author.Rules.{rules}
use Rattle.weight.proofs.Nearest.{word_falls, word_rises, word_stays}
use Rattle.weight.proofs.rounding.nearest.Goals as goal

pub returns-then-x-lt0 : goal.returns-then-x-lt0
returns-then-x-lt0 c = search (rules, word_falls)

pub returns-else-x-lt0 : goal.returns-else-x-lt0
returns-else-x-lt0 c = search (rules, word_rises)

pub returns-else-by-rest : goal.returns-else-by-rest
returns-else-by-rest c = search (rules, word_stays)
