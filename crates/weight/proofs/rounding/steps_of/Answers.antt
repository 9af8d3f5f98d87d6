use borrow.Author.Rules.{rules}
use Rattle.weight.proofs.Allowed.{allowed_decimals, allowed_divisor_positive}
use Rattle.weight.proofs.Range.{scale_word, product_word, product_small, steps_word}
use Rattle.weight.proofs.rounding.steps_of.Goals as goal

pub scale_of-scale-requires : goal.scale_of-scale-requires
scale_of-scale-requires c = search (rules, allowed_decimals)

pub overflow_cast-scale : goal.overflow_cast-scale
overflow_cast-scale c = search (rules, scale_word)

pub overflow_mul-net : goal.overflow_mul-net
overflow_mul-net c = search (rules, product_word)

pub nearest-requires-clause-by_nonzero : goal.nearest-requires-clause-by_nonzero
nearest-requires-clause-by_nonzero c = search (rules, allowed_divisor_positive)

pub nearest-requires-clause-x_bound : goal.nearest-requires-clause-x_bound
nearest-requires-clause-x_bound c = search (rules, product_small)

pub returns : goal.returns
returns c = search (rules, steps_word)
