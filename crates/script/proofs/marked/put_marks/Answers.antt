use Rattle.std.proofs.Common.{rules}
use Rattle.script.specs.Marked.{mark_of}
use Rattle.script.proofs.marked.put_marks.Goals as goal

pub returns : goal.returns
returns c = c.put_cells.ensures mark_of (λ w i r k. search rules)
