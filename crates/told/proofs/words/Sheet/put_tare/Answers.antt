use Rattle.std.proofs.Common.{rules}
use Rattle.told.proofs.Laying.{◌then◌}
use Rattle.told.specs.StateLines.{tare_word}
use Rattle.told.proofs.words.Sheet.put_tare.Goals as goal

pub returns : goal.returns
unfolding tare_word
returns c = search (rules, ◌then◌)
