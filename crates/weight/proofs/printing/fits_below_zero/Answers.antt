use borrow.Author.Rules.{rules}
use Rattle.weight.proofs.Coarse.{short_fits}
use Rattle.weight.proofs.printing.fits_below_zero.Goals as goal

pub returns : goal.returns
returns c = search (rules, short_fits)
