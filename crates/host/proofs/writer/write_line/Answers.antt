use borrow.Author.Rules.{rules}
use Rattle.host.proofs.Outcomes.{written}
use Rattle.host.proofs.writer.write_line.Goals as goal

pub returns-then-can_form : goal.returns-then-can_form
returns-then-can_form c =
    written c.args.answer c.args.text.now c.args.out.now _ _ (search rules) c.emit_answer.ensures.value c.ok_or.ensures.value c.emit_answer.ensures.out_after
