use mathlib.Core.Bool.{Bool, true, ◌&&◌}
use Rattle.std.proofs.Common.{rules, tests}
use Rattle.std.proofs.lemmas.Iterator.{YieldsList-from_slice}
use Rattle.std.proofs.lemmas.Iterator.Consumers.{fold_from_yields_List}
use Rattle.model.specs.Profiles.{resolution_from}
use Rattle.weight.specs.declared.units.WeightUnit.{WeightUnit}
use Rattle.weight.specs.Units.{all_units}
use Rattle.model.proofs.UnitsTested.{every_told}
use Rattle.model.proofs.profile.every_unit.Goals as goal

pub returns : goal.returns
returns g c =
    λ test asked.
    let h : Bool → WeightUnit → Bool = λ all u. all && test (resolution_from c.args.rows u) in
    every_told (λ u. test (resolution_from c.args.rows u)) all_units
    (fold_from_yields_List _ h true c.fold.result c.fold.ensures.ran (YieldsList-from_slice all_units cc) (λ all u b q k. search (rules, tests, asked)))
