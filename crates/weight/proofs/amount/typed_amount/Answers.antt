use borrow.Author.Rules.{rules}
use Rattle.weight.proofs.Range.{scale_positive}
use Rattle.weight.proofs.TypedLimit.{not_typed, typed_far, typed_large, typed_small}
use Rattle.weight.proofs.amount.typed_amount.Goals as goal

pub returns-then-decimals-gt6 : goal.returns-then-decimals-gt6
returns-then-decimals-gt6 c = search (rules, not_typed)

pub returns-then-most_places-value : goal.returns-then-most_places-value
returns-then-most_places-value c = search (rules, typed_far)

pub half_up-rounded-requires-clause-by_nonzero : goal.half_up-rounded-requires-clause-by_nonzero
half_up-rounded-requires-clause-by_nonzero c = search (rules, scale_positive)

pub returns-then-rounded-gt-LARGEST_CAPACITY : goal.returns-then-rounded-gt-LARGEST_CAPACITY
returns-then-rounded-gt-LARGEST_CAPACITY c = search (rules, typed_large)

pub returns-else-rounded-gt-LARGEST_CAPACITY : goal.returns-else-rounded-gt-LARGEST_CAPACITY
returns-else-rounded-gt-LARGEST_CAPACITY c = search (rules, typed_small)
