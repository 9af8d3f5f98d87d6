use borrow.Author.Rules.{rules}
use Rattle.text.proofs.TypedText.{typed_read, typed_stray}
use Rattle.text.proofs.typed.read_typed.Goals as goal

pub returns-in_err-number : goal.returns-in_err-number
returns-in_err-number c = search (rules, typed_stray)

pub returns : goal.returns
returns c = search (rules, typed_read)
