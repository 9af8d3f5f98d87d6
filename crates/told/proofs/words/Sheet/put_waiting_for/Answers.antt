use Rattle.std.proofs.Common.{rules}
use Rattle.told.proofs.Laying.{◌then◌}
use Rattle.told.proofs.words.Sheet.put_waiting_for.Goals as goal

pub returns : goal.returns
returns c = search (rules, ◌then◌)
