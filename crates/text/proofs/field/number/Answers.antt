use borrow.Author.Rules.{rules}
use Rattle.text.proofs.Ending.{size_room, minus_room, minus_in, plain_done, minus_done}
use Rattle.text.proofs.field.number.Goals as goal

pub decimal-start-requires-clause-size_in_bounds : goal.decimal-start-requires-clause-size_in_bounds
decimal-start-requires-clause-size_in_bounds c = size_room _ _ _ c.args.places.0 c.size_of_number-size.ensures c.requires.places_in_bounds

pub overflow_sub-out : goal.overflow_sub-out
overflow_sub-out c = search (rules, minus_room)

pub bounds-out-start : goal.bounds-out-start
bounds-out-start c = search (rules, minus_in)

pub returns-then-is_below_zero : goal.returns-then-is_below_zero
returns-then-is_below_zero c = search (rules, minus_done)

pub returns-else-is_below_zero : goal.returns-else-is_below_zero
returns-else-is_below_zero c = search (rules, plain_done)
