-- Document 01, "Weights": the printed number of a net weight, and whether it fits ten characters ("The profile").
-- Assumes nothing.
use Rattle.std.specs.Prelude.{ℕ, ◌+◌, ◌*◌, ◌^◌, Bool, true, false, cond, ◌&&◌, ◌||◌, leb, ltb, eqb, ℤ, pos, neg_ℤ, Option, Some, None}
use Rattle.weight.specs.declared.rounding.LastPlaces.{LastPlaces}
use Rattle.weight.specs.declared.rounding.Resolution.{Resolution}
use Rattle.weight.specs.declared.units.WeightUnit.{WeightUnit}
use Rattle.weight.specs.declared.units.WeightUnit.TheVariants.{G, Mg, Ct, Oz, Ozt, Gn, Dwt, Kg, Lb}
use Rattle.weight.specs.Units.{nanograms_of}
use Rattle.weight.specs.Rounding.{allowed_resolution, in_range, places_of}
use Rattle.weight.specs.Places.{fits_field}

-- the resolution is allowed, the net is one that a device can meet, and its number fits the characters of its range
unfoldable pub printable : Resolution → ℤ → Bool
printable r net = allowed_resolution r && in_range net && fits_field r.coarse r.decimals (places_of r net)

-- the number of last places
unfoldable pub printed_number : Resolution → ℤ → Option LastPlaces
printed_number r net = cond (printable r net) (Some (record { 0 = places_of r net })) None

-- the resolution is allowed, and the number of a net of m micrograms below zero fits ten characters
abbrev pub fits_below_zero : Resolution → ℕ → Bool
fits_below_zero r m = allowed_resolution r && fits_field false r.decimals (places_of r (neg_ℤ (pos m)))

-- the most that U and C of a profile give together, in micrograms
abbrev pub largest_reach : ℕ
largest_reach = 2_000_000_000

-- ---- without a division: a number is below 10^8 when twice the exact steps, of m micrograms, and one step more are below 2 x 10^8 last
-- places, all of it times 1,000 x 10^d; coarse, below 10^7, with ten steps more

abbrev pub is_short : ℕ → Resolution → ℕ → Bool
is_short n r m =
    allowed_resolution r
    && ltb (2 * (m * (1000 * 10 ^ r.decimals)) + n * (r.step * nanograms_of r.unit)) (nanograms_of r.unit * 200_000_000)

-- ---- a quick test: with few decimals every net of that size fits, whatever the step

abbrev pub is_near : ℕ → Bool
is_near m = leb m 600_000_000

-- so few, up to 600 g and up to the largest reach
abbrev pub sure_decimals : Bool → WeightUnit → ℕ
sure_decimals true G = 5
sure_decimals true Mg = 2
sure_decimals true Ct = 4
sure_decimals true Oz = 6
sure_decimals true Ozt = 6
sure_decimals true Gn = 4
sure_decimals true Dwt = 5
sure_decimals true Kg = 6
sure_decimals true Lb = 6
sure_decimals false G = 4
sure_decimals false Mg = 1
sure_decimals false Ct = 3
sure_decimals false Oz = 6
sure_decimals false Ozt = 6
sure_decimals false Gn = 3
sure_decimals false Dwt = 4
sure_decimals false Kg = 6
sure_decimals false Lb = 6

abbrev pub is_known_step : ℕ → Bool
is_known_step k = eqb k 1 || eqb k 2 || eqb k 5

-- what passes is allowed and fits; what does not is to be tested closely
unfoldable pub surely_fits : Resolution → ℕ → Bool
surely_fits r m = leb m largest_reach && is_known_step r.step && leb r.decimals (sure_decimals (is_near m) r.unit)
