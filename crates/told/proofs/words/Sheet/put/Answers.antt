use Rattle.std.proofs.Common.{rules}
use Rattle.told.proofs.Laying.{laid_more}
use Rattle.told.proofs.words.Sheet.put.Goals as goal

pub loop-byte-preserved : goal.loop-byte-preserved
loop-byte-preserved c = search (rules, laid_more)
