-- What the parts of a profile's test promise each other: that nets reach so far below zero in every unit, tested quickly and closely.
-- Assumes nothing.
use Rattle.std.specs.Prelude.{ℕ, ◌≡◌, Bool, true, false, ◌&&◌, List, leb}
use Rattle.model.specs.declared.profile.Readability.{Readability}
use Rattle.model.specs.Profiles.{resolution_from, every_unit}
use Rattle.weight.specs.declared.rounding.Resolution.{Resolution}
use Rattle.weight.specs.declared.units.WeightUnit.{WeightUnit}
use Rattle.weight.specs.Printing.{fits_below_zero, largest_reach, surely_fits}
use Rattle.weight.specs.Ranges.{fits_coarse}
use Rattle.weight.specs.Units.{all_units}

-- every unit's resolution was asked for what a closure tests
abbrev pub AsksEach : (Resolution → Bool → Type 0) → List Readability → Bool → Type 0
AsksEach post rows all =
    (test : Resolution → Bool) → ((r : Resolution) (b : Bool) → post r b → b ≡ test r) → all ≡ every_unit (λ u. test (resolution_from rows u)) all_units

abbrev pub surely_in : List Readability → ℕ → WeightUnit → Bool
surely_in rows m u = surely_fits (resolution_from rows u) m

abbrev pub closely_in : List Readability → ℕ → WeightUnit → Bool
closely_in rows m u = leb m largest_reach && fits_below_zero (resolution_from rows u) m

unfoldable pub surely_in_all : List Readability → ℕ → Bool
surely_in_all rows m = every_unit (surely_in rows m) all_units

unfoldable pub closely_in_all : List Readability → ℕ → Bool
closely_in_all rows m = every_unit (closely_in rows m) all_units

-- ---- with F below C

abbrev pub coarsely_in : List Readability → ℕ → WeightUnit → Bool
coarsely_in rows m u = leb m largest_reach && fits_coarse (resolution_from rows u) m

unfoldable pub coarsely_in_all : List Readability → ℕ → Bool
coarsely_in_all rows m = every_unit (coarsely_in rows m) all_units

-- whichever is asked for
abbrev pub reached_in_all : Bool → List Readability → ℕ → Bool
reached_in_all true rows m = coarsely_in_all rows m
reached_in_all false rows m = closely_in_all rows m
