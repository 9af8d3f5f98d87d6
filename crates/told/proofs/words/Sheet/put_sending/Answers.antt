use Rattle.std.proofs.Common.{rules}
use Rattle.told.proofs.StateLines.{laid_repeats}
use Rattle.told.proofs.words.Sheet.put_sending.Goals as goal

pub returns-in-Off : goal.returns-in-Off
returns-in-Off c = search (rules, laid_repeats)

pub returns-in-EachSample : goal.returns-in-EachSample
returns-in-EachSample c = search (rules, laid_repeats)

pub returns-in-OnChange : goal.returns-in-OnChange
returns-in-OnChange c = search (rules, laid_repeats)
