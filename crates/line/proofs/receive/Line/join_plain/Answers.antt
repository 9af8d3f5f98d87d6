use Rattle.std.proofs.Common.{rules}
use Rattle.line.proofs.Running.{filled_so_far}
use Rattle.line.proofs.receive.Line.join_plain.Goals as goal

pub returns : goal.returns
returns c =
    filled_so_far c.args.self.now _ c.args.bytes.now c.args.marks.now (search rules) c.if-self.false c.requires c.first_at-count.ensures
    (search rules) (search rules) c.copy_from_slice.ensures.after (search rules)
