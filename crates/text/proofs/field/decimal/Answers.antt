use native.Mathlib.Nat.{mod-lt, one-le-pow}
use mathlib.Core.Path.{◌∙◌}
use native.Mathlib.Omega.{arith}
use borrow.Author.Rules.{rules}
use Rattle.text.proofs.Ending.{parts_room, whole_laid, whole_room, laid_long, whole_done, parts_done}
use Rattle.text.proofs.field.decimal.Goals as goal

pub put_digits-rest-requires-clause-low_in_bounds : goal.put_digits-rest-requires-clause-low_in_bounds
put_digits-rest-requires-clause-low_in_bounds c =
    let begun = c.nine_digits-nine.ensures in
    omega (arith, begun.up_to, begun.long, whole_room c.args.out.now _ _ _ begun.start)

pub put_decimals-requires-clause-decimals_in_bounds : goal.put_decimals-requires-clause-decimals_in_bounds
put_decimals-requires-clause-decimals_in_bounds c =
    let begun = c.nine_digits-nine.ensures in
    omega (arith, parts_room c.args.out.now c.args.decimals c.args.size _ (search rules) begun.start, laid_long _ _ _ _ _ _ begun c.put_digits-rest.ensures.out_after)

pub put_decimals-requires-clause-value_bound : goal.put_decimals-requires-clause-value_bound
put_decimals-requires-clause-value_bound c = rw c.put_digits-rest.ensures.value (mod-lt _ (one-le-pow c.args.decimals 10 (omega arith)))

pub returns-then-decimals-gt0-clause-out_after : goal.returns-then-decimals-gt0-clause-out_after
returns-then-decimals-gt0-clause-out_after c =
    let begun = c.nine_digits-nine.ensures in
    parts_done _ _ _ _ _ _ _ (search rules) begun.start (whole_laid _ _ _ _ _ _ begun c.put_digits-rest.ensures.out_after) (c.put_digits-rest.ensures.value ∙ begun.decimals) c.put_decimals.ensures

pub returns-else-decimals-gt0-clause-out_after : goal.returns-else-decimals-gt0-clause-out_after
returns-else-decimals-gt0-clause-out_after c =
    let begun = c.nine_digits-nine.ensures in
    whole_done _ _ _ _ _ (search rules) begun.start (whole_laid _ _ _ _ _ _ begun c.put_digits-rest.ensures.out_after)
