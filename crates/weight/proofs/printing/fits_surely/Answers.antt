use Rattle.weight.specs.Printing.{surely_fits}
use Rattle.weight.proofs.printing.fits_surely.Goals as goal

pub returns : goal.returns
unfolding surely_fits
returns c = rw (c.is_known_step.ensures, c.sure_decimals-most.ensures)
