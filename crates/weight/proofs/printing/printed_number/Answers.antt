use borrow.Author.Rules.{rules}
use Rattle.weight.proofs.Printable.{not_allowed, not_printed, out_of_range, places_word, printed}
use Rattle.weight.proofs.printing.printed_number.Goals as goal

pub returns-in_err-allowed : goal.returns-in_err-allowed
returns-in_err-allowed c = search (rules, not_allowed)

pub returns-in_err-near : goal.returns-in_err-near
returns-in_err-near c = search (rules, out_of_range)

pub places_of-places-requires : goal.places_of-places-requires
places_of-places-requires c =
    places_word _ _ c.in_ok-allowed.allowed c.in_ok-near.near c.in_ok-allowed.ensures c.in_ok-near.ensures c.steps_of.ensures

pub returns-then-fits : goal.returns-then-fits
returns-then-fits c = search (rules, printed)

pub returns-else-fits : goal.returns-else-fits
returns-else-fits c = search (rules, not_printed)
