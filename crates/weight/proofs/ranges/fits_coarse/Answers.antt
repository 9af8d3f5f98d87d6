use borrow.Author.Rules.{rules}
use Rattle.weight.proofs.Coarse.{short_coarse}
use Rattle.weight.proofs.ranges.fits_coarse.Goals as goal

pub returns : goal.returns
returns c = search (rules, short_coarse)
