use Rattle.std.proofs.Common.{rules}
use Rattle.told.proofs.Numbers.{laid_digit, laid_digits}
use Rattle.told.proofs.words.Sheet.+put_number.Goals as goal

pub returns-then-n-lt10 : goal.returns-then-n-lt10
returns-then-n-lt10 t c = search (rules, laid_digit)

pub returns-else-n-lt10 : goal.returns-else-n-lt10
returns-else-n-lt10 t c = search (rules, laid_digits)
