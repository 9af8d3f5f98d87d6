use borrow.Author.Rules.{rules}
use Rattle.text.proofs.NumberText.{no_number, nothing_read, digit_read}
use Rattle.text.proofs.reading.read_whole.Goals as goal

pub returns-then-text-first_in : goal.returns-then-text-first_in
returns-then-text-first_in c = no_number _ _ c.first_in.ensures c.if-text-first_in.true

pub loop-c-init : goal.loop-c-init
loop-c-init c = search (rules, nothing_read)

pub loop-c-preserved : goal.loop-c-preserved
loop-c-preserved c = search (rules, digit_read)
