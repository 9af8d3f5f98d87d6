use borrow.Author.Rules.{rules}
use Rattle.waiting.proofs.Samples.{sample_is_lem}
use Rattle.waiting.proofs.sample.sample_reaction.Goals as goal

pub returns : goal.returns
returns c = search (rules, sample_is_lem)
