use Rattle.std.proofs.Common.{rules}
use Rattle.told.proofs.StateLines.{laid_text, laid_weight}
use Rattle.told.proofs.words.Sheet.put_display.Goals as goal

pub returns-then-display : goal.returns-then-display
returns-then-display c = search (rules, laid_text)

pub returns-else-display : goal.returns-else-display
returns-else-display c = search (rules, laid_weight)
