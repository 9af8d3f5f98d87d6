use Rattle.std.proofs.Common.{add-one, length, rules}
use Rattle.script.proofs.Cells.{all_put, one_put}
use Rattle.script.proofs.marked.put_cells.Goals as goal

pub loop-i-preserved : goal.loop-i-preserved
loop-i-preserved g c =
    (simp add-one (search rules), λ at h. one_put _ _ _ (c.loop-i.invariant.1 at h) _ (search rules) (search (rules, h)))

pub returns : goal.returns
returns g c = λ at h. all_put _ _ _ (c.loop-i.invariant.1 at h) (length c.args.cells.now) (search rules) (search rules) (search rules)
