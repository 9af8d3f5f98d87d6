-- Document 01, "What each command does", TA number unit: rounded once to the nearest microgram, a tie upwards.
-- Assumes nothing.
use Rattle.std.specs.Prelude.{ℕ, suc, ◌-◌, ◌*◌, ◌^◌, ◌≤◌, ◌<◌, cond, leb, Result, Ok, Err}
use Rattle.weight.specs.declared.units.WeightUnit.{WeightUnit}
use Rattle.weight.specs.declared.amount.NoAmount.{NoAmount}
use Rattle.weight.specs.declared.amount.NoAmount.TheVariants.{TooLarge, NotTyped}
use Rattle.weight.specs.declared.amount.Tare.{Tare}
use Rattle.weight.specs.Units.{nanograms_of}
use Rattle.weight.specs.Rounding.{half_up}

-- v last places with d decimals, to the nearest microgram
unfoldable pub typed_micrograms : WeightUnit → ℕ → ℕ → ℕ
typed_micrograms u d v = half_up (v * nanograms_of u) (1000 * 10 ^ d)

-- the same, exact, in femtograms
unfoldable pub typed_femtograms : WeightUnit → ℕ → ℕ → ℕ
typed_femtograms u d v = v * nanograms_of u * 10 ^ (6 - d)

-- the largest capacity of any profile, in micrograms: a typed number above it is refused whatever the profile
abbrev pub largest_capacity : ℕ
largest_capacity = 1_000_000_000

unfoldable pub amount_of : ℕ → Result Tare NoAmount
amount_of m = cond (leb m largest_capacity) (Ok (record { 0 = m })) (Err TooLarge)

-- as a number with d decimals that is typed: one with more than 6 is none
unfoldable pub typed_amount : WeightUnit → ℕ → ℕ → Result Tare NoAmount
typed_amount u d v = cond (leb d 6) (amount_of (typed_micrograms u d v)) (Err NotTyped)

-- the largest number of last places whose product with a unit stays below 2^63
pub record MostPlaces (u : WeightUnit) (n : ℕ) : Type 0 where
  pub fits : n * nanograms_of u < 2 ^ 63
  pub above : 2 ^ 63 ≤ suc n * nanograms_of u
