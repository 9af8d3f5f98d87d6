use Rattle.told.proofs.Laying.{◌then◌}
use Rattle.told.specs.StateLines.{change_text}
use Rattle.told.proofs.words.Sheet.put_change.Goals as goal

pub returns : goal.returns
unfolding change_text
returns c =
    c.put.ensures
    then c.put_amount.ensures
    then c.put-2.ensures
    then c.put_threshold.ensures
    then c.put_if.ensures
    then c.put_if-2.ensures
