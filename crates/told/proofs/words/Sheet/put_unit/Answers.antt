use Rattle.std.proofs.Common.{rules}
use Rattle.told.proofs.StateLines.{laid_unit}
use Rattle.told.proofs.words.Sheet.put_unit.Goals as goal

pub returns : goal.returns
returns c = search (rules, laid_unit)
