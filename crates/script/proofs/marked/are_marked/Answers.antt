use Rattle.std.proofs.Common.{add-one, rules}
use Rattle.script.proofs.marked.are_marked.Goals as goal

pub loop-preserved : goal.loop-preserved
loop-preserved c = simp add-one (search rules)
