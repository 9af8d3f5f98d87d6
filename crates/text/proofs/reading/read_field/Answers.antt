use borrow.Author.Rules.{rules}
use Rattle.text.proofs.FieldText.{wrong_width, coarse_read, fine_read}
use Rattle.text.proofs.reading.read_field.Goals as goal

pub returns-then-text-ne-FIELD_WIDTH : goal.returns-then-text-ne-FIELD_WIDTH
returns-then-text-ne-FIELD_WIDTH c = search (rules, wrong_width)

pub returns-then-coarse : goal.returns-then-coarse
returns-then-coarse c = coarse_read c.args.text.now (search rules) c.width_in.ensures.value c.read_aligned-read.ensures c.if-coarse.true c.coarsely.ensures

pub returns-else-coarse : goal.returns-else-coarse
returns-else-coarse c = fine_read c.args.text.now (search rules) c.width_in.ensures.value c.read_aligned-read.ensures c.if-coarse.false
