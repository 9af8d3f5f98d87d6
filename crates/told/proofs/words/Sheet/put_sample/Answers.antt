use borrow.Author.Tests.{not-true, not-false}
use Rattle.told.proofs.StateLines.{laid_none, laid_stable, laid_unstable}
use Rattle.told.proofs.words.Sheet.put_sample.Goals as goal

pub returns-then-not-weighing : goal.returns-then-not-weighing
returns-then-not-weighing c = laid_none _ (not-true _ c.if-not-weighing.true) c.put.ensures

pub returns-then-weighing : goal.returns-then-weighing
returns-then-weighing c = laid_stable _ (not-false _ c.if-not-weighing.false) c.if-weighing.true c.put-then-weighing.ensures c.put_load.ensures

pub returns-else-weighing : goal.returns-else-weighing
returns-else-weighing c =
    laid_unstable _ (not-false _ c.if-not-weighing.false) c.if-weighing.false c.put-else-weighing.ensures c.put_load-else-weighing.ensures
