use borrow.Author.Rules.{rules}
use mir.Facts.{Fits-lt-pow}
use Rattle.weight.proofs.Coarse.{far_above}
use Rattle.weight.proofs.Range.{scaled_size_fits}
use Rattle.weight.proofs.ranges.is_typed_above.Goals as goal

pub overflow_mul-limit : goal.overflow_mul-limit
overflow_mul-limit c = search (rules, scaled_size_fits)

pub returns-then-most_places-value : goal.returns-then-most_places-value
returns-then-most_places-value c = search (rules, far_above, Fits-lt-pow)
