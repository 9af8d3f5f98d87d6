use Rattle.std.proofs.Common.{rules}
use Rattle.told.proofs.StateLines.{laid_waits}
use Rattle.told.proofs.words.Sheet.put_waiting.Goals as goal

pub returns-in-None : goal.returns-in-None
returns-in-None c = search (rules, laid_waits)

pub returns-in-Some : goal.returns-in-Some
returns-in-Some c = search (rules, laid_waits)
