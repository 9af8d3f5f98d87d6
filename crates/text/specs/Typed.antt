-- Document 01, "What each command does", TA number unit, and document 02, No. 3 and No. 7: the text of a typed number.
-- Assumes nothing.
use Rattle.std.specs.Prelude.{ℕ, Bool, cond, ◌&&◌, Option, Some, None, Result, Err, List, leb, length}
use Rattle.weight.specs.declared.rounding.Resolution.{Resolution}
use Rattle.weight.specs.declared.units.WeightUnit.{WeightUnit}
use Rattle.weight.specs.declared.amount.Tare.{Tare}
use Rattle.weight.specs.declared.amount.NoAmount.{NoAmount}
use Rattle.weight.specs.declared.amount.NoAmount.TheVariants.{NotTyped}
use Rattle.weight.specs.Amounts.{typed_micrograms, amount_of}
use Rattle.weight.specs.Presets.{preset_micrograms}
use Rattle.weight.specs.Ranges.{typed_resolution}
use Rattle.weight.specs.Rounding.{allowed_resolution}
use Rattle.text.specs.declared.reading.Decimal.{Decimal}
use Rattle.text.specs.Reading.{is_decimal, decimals_in, value_in}

-- 1 to 10 characters, digits with at most one point that has digits on both sides, at most 6 decimals
unfoldable pub is_typed : List ℕ → Bool
is_typed t = leb (length t) 10 && is_decimal t

-- its decimals and its number without the point
unfoldable pub typed_number : List ℕ → Option Decimal
typed_number t = cond (is_typed t) (Some (record { decimals = decimals_in t; value = value_in t })) None

-- to the nearest microgram, as SR takes it
unfoldable pub read_typed : WeightUnit → List ℕ → Result Tare NoAmount
read_typed u t = cond (is_typed t) (amount_of (typed_micrograms u (decimals_in t) (value_in t))) (Err NotTyped)

-- to the nearest display step and that to the nearest microgram, as TA takes it; to a resolution that no profile may have, none is read
unfoldable pub read_preset : Resolution → List ℕ → Result Tare NoAmount
read_preset r t =
    cond (allowed_resolution r && is_typed t) (amount_of (preset_micrograms r (decimals_in t) (value_in t))) (Err NotTyped)

-- to the resolution of its range: the coarse one for a number above F, if F is below C (document 02, No. 7)
unfoldable pub preset_resolution : ℕ → ℕ → Resolution → List ℕ → Resolution
preset_resolution capacity fine r t = typed_resolution capacity fine r (decimals_in t) (value_in t)
