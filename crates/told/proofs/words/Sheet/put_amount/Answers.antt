use Rattle.std.proofs.Common.{rules}
use Rattle.told.proofs.Numbers.{laid_amount}
use Rattle.told.proofs.words.Sheet.put_amount.Goals as goal

pub returns : goal.returns
returns c = search (rules, laid_amount)
