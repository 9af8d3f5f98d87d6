use mathlib.Core.Path.{sym, ◌∙◌}
use borrow.Author.Rules.{rules}
use Rattle.text.proofs.FieldText.{no_number, not_written, read_written}
use Rattle.text.proofs.reading.read_number.Goals as goal

pub returns-in_err-number : goal.returns-in_err-number
returns-in_err-number c = search (rules, no_number)

pub returns-then-minus_zero-no_leading_zero : goal.returns-then-minus_zero-no_leading_zero
returns-then-minus_zero-no_leading_zero c = search (rules, not_written)

pub returns : goal.returns
returns c =
    let split = c.split_minus-negative.ensures in
    read_written _ _ _ split.has split.after _ (sym c.read_decimal.ensures ∙ c.in_ok-number.was) c.signed_places.result c.requires
    (rw c.no_leading_zero.ensures at c.if-minus_zero-no_leading_zero.false) c.signed_places.ensures
