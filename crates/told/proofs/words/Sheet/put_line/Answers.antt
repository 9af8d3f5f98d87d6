use Rattle.told.proofs.Laying.{◌then◌}
use Rattle.told.specs.StateLines.{line_word}
use Rattle.told.proofs.words.Sheet.put_line.Goals as goal

pub returns : goal.returns
unfolding line_word
returns c =
    c.put.ensures
    then c.put_number.ensures
    then c.put_if.ensures
    then c.put_if-2.ensures
    then c.put_if-3.ensures
