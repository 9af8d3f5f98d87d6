use borrow.Author.Rules.{rules}
use Rattle.weight.proofs.Allowed.{allowed_decimals}
use Rattle.weight.proofs.Presets.{exact_bound, exact_fits, by_positive, places_are, places_fit_word}
use Rattle.weight.proofs.preset.preset_places.Goals as goal

pub scale_of-requires : goal.scale_of-requires
scale_of-requires c = search (rules, allowed_decimals)

pub overflow_mul-exact : goal.overflow_mul-exact
overflow_mul-exact c = search (rules, exact_fits)

pub half_up-steps-requires-clause-by_nonzero : goal.half_up-steps-requires-clause-by_nonzero
half_up-steps-requires-clause-by_nonzero c = search (rules, by_positive)

pub half_up-steps-requires-clause-value_bound : goal.half_up-steps-requires-clause-value_bound
half_up-steps-requires-clause-value_bound c = search (rules, exact_bound)

pub overflow_mul-result : goal.overflow_mul-result
overflow_mul-result c = search (rules, places_fit_word)

pub returns : goal.returns
returns c = search (rules, places_are)
