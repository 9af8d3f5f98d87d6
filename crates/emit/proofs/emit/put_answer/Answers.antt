use mathlib.Core.Path.{ap}
use Rattle.answer.specs.declared.answer.Answer.{Answer}
use Rattle.answer.specs.Lines.{line_of}
use Rattle.emit.proofs.emit.put_answer.Goals as goal

pub returns-in-Versions : goal.returns-in-Versions
unfolding line_of
returns-in-Versions c = rw (ap (λ (a : Answer). line_of a c.args.text.now) c.in-Versions.is) c.put.ensures
