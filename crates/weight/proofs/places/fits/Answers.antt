use borrow.Author.Rules.{rules}
use Rattle.weight.proofs.Width.{fits_tested}
use Rattle.weight.proofs.places.fits.Goals as goal

pub returns : goal.returns
returns c = search (rules, fits_tested)
