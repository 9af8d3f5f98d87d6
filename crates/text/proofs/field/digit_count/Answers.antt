use native.Mathlib.Omega.{arith}
use borrow.Author.Rules.{rules}
use Rattle.text.proofs.HighestFirst.{count_least, count_more, count_done}
use Rattle.text.proofs.field.digit_count.Goals as goal

pub overflow_add-count : goal.overflow_add-count
overflow_add-count c = omega (arith, count_least c.args.decimals c.args.value, c.requires)

pub loop-count-init : goal.loop-count-init
loop-count-init c = (omega arith, omega (arith, count_least c.args.decimals c.args.value))

pub loop-count-smaller : goal.loop-count-smaller
loop-count-smaller c =
    let more = count_more _ _ c.args.value _ c.loop-count.invariant.0 c.power_of_ten.ensures (search rules) in
    omega (arith, more, c.requires)

pub loop-count-preserved : goal.loop-count-preserved
loop-count-preserved c = (
  search rules,
  count_more _ _ _ _ c.loop-count.invariant.0 c.power_of_ten.ensures (search rules),
)

pub returns : goal.returns
returns c =
    let done = count_done _ _ c.args.value _ c.loop-count.invariant.0 c.power_of_ten.ensures (search rules) in
    omega (arith, done, c.loop-count.invariant.1)
