use mathlib.Core.Path.{sym, ◌∙◌}
use borrow.Author.Rules.{rules}
use Rattle.text.proofs.DecimalText.{whole_room, fraction_room, no_whole, whole_only, no_fraction, long_fraction, with_fraction}
use Rattle.text.proofs.reading.read_decimal.Goals as goal

pub read_whole-requires : goal.read_whole-requires
read_whole-requires c = search (rules, whole_room)

pub read_whole-requires-2 : goal.read_whole-requires-2
read_whole-requires-2 c = fraction_room _ _ c.first_point-point.ensures (search rules) (sym c.read_whole.ensures ∙ c.in_ok-whole.was) (search rules)

pub returns-in_err-whole : goal.returns-in_err-whole
returns-in_err-whole c = search (rules, no_whole)

pub returns-then-text-point : goal.returns-then-text-point
returns-then-text-point c = search (rules, whole_only)

pub returns-in_err-value : goal.returns-in_err-value
returns-in_err-value c = search (rules, no_fraction)

pub returns-then-fraction-gt-MOST_DECIMALS : goal.returns-then-fraction-gt-MOST_DECIMALS
returns-then-fraction-gt-MOST_DECIMALS c = search (rules, long_fraction)

pub returns : goal.returns
returns c = search (rules, with_fraction)
