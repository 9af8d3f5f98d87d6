use borrow.Author.Rules.{rules}
use mathlib.Core.Path.{sym, ◌∙◌}
use mathlib.Core.Bool.{◌&&◌}
use Rattle.std.specs.Prelude.{leb}
use Rattle.weight.specs.Printing.{fits_below_zero, largest_reach, surely_fits}
use Rattle.weight.specs.Ranges.{fits_coarse}
use Rattle.model.specs.Reaches.{surely_in_all, closely_in_all, coarsely_in_all}
use Rattle.model.proofs.UnitsTested.{surely_closely}
use Rattle.model.proofs.profile.are_reached.Goals as goal

pub returns-then-ranged : goal.returns-then-ranged
unfolding coarsely_in_all
returns-then-ranged c =
    rw c.if-ranged.true (c.every_unit.ensures (λ r. leb c.args.reach largest_reach && fits_coarse r c.args.reach) (λ r b k. search rules))

pub returns-then-every_unit : goal.returns-then-every_unit
unfolding surely_in_all
returns-then-every_unit c =
    let sure = c.every_unit-2.ensures (λ r. surely_fits r c.args.reach) (λ r b k. search rules) in
    rw c.if-ranged.false (c.if-every_unit.true ∙ sym (surely_closely c.args.rows c.args.reach (sym sure ∙ c.if-every_unit.true)))

pub returns-else-every_unit : goal.returns-else-every_unit
unfolding closely_in_all
returns-else-every_unit c =
    rw c.if-ranged.false
    (c.every_unit-else-every_unit.ensures (λ r. leb c.args.reach largest_reach && fits_below_zero r c.args.reach) (λ r b k. search rules))
