use borrow.Author.Rules.{rules}
use Rattle.weight.proofs.SignedPlaces.{no_places, below_places, other_places}
use Rattle.weight.proofs.places.signed_places.Goals as goal

pub returns-then-size-ge-TEN_DIGITS : goal.returns-then-size-ge-TEN_DIGITS
returns-then-size-ge-TEN_DIGITS c = search (rules, no_places)

pub returns-then-negative : goal.returns-then-negative
returns-then-negative c = search (rules, below_places)

pub returns-else-negative : goal.returns-else-negative
returns-else-negative c = search (rules, other_places)
