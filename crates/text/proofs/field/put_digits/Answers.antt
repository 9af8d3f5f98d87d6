use mathlib.Core.Path.{◌≡◌}
use Prim.Native.Nat.{suc, ◌-◌}
use borrow.Author.Rules.{rules}
use Rattle.text.proofs.HighestFirst.{written_none, turn_power, turn_written, written_done}
use Rattle.text.proofs.field.put_digits.Goals as goal

pub loop-place-init : goal.loop-place-init
loop-place-init c = (search rules, written_none _ _ _ _ (search rules))

pub put_digit-rest-requires-clause-power_nonzero : goal.put_digit-rest-requires-clause-power_nonzero
put_digit-rest-requires-clause-power_nonzero c = turn_power _ _ c.power_of_ten.ensures

pub loop-place-preserved : goal.loop-place-preserved
loop-place-preserved c =
    let next : c.loop-place.place ≡ suc (c.loop-place.place - 1) = search rules in (
      search rules,
      turn_written _ _ _ _ _ _ _ _ c.loop-place.invariant.1 _ _ next c.power_of_ten.ensures _ _ _ (search rules) (search rules) c.put_digit-rest.ensures.value c.put_digit-rest.ensures.out_after,
    )

pub returns-clause-out_after : goal.returns-clause-out_after
returns-clause-out_after c = (written_done _ _ _ _ _ _ _ _ c.loop-place.invariant.1 _ (search rules)).1
