use Rattle.std.proofs.Common.{rules}
use Rattle.told.proofs.Laying.{◌then◌}
use Rattle.told.specs.StateLines.{zero_word}
use Rattle.told.proofs.words.Sheet.put_zero.Goals as goal

pub returns : goal.returns
unfolding zero_word
returns c = search (rules, ◌then◌)
