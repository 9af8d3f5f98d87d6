use borrow.Author.Rules.{rules}
use Rattle.text.proofs.TypedText.{typed_long, typed_short}
use Rattle.text.proofs.typed.typed_decimal.Goals as goal

pub returns-then-text-gt-LONGEST_TYPED : goal.returns-then-text-gt-LONGEST_TYPED
returns-then-text-gt-LONGEST_TYPED c = search (rules, typed_long)

pub returns : goal.returns
returns c = search (rules, typed_short)
