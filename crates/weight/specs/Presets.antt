-- Document 02, No. 3: a typed tare (the field's preset tare) in two roundings, in the paper's order.
-- Assumes nothing.
use Rattle.std.specs.Prelude.{ℕ, ◌*◌, ◌^◌, cond, ◌&&◌, leb, Result, Err}
use Rattle.weight.specs.declared.rounding.Resolution.{Resolution}
use Rattle.weight.specs.declared.amount.NoAmount.{NoAmount}
use Rattle.weight.specs.declared.amount.NoAmount.TheVariants.{NotTyped}
use Rattle.weight.specs.declared.amount.Tare.{Tare}
use Rattle.weight.specs.Amounts.{typed_micrograms, typed_femtograms, amount_of}
use Rattle.weight.specs.Rounding.{half_up, allowed_resolution}

-- v last places with d decimals, to the nearest display step, a tie upwards
unfoldable pub preset_steps : Resolution → ℕ → ℕ → ℕ
preset_steps r d v = half_up (v * 10 ^ r.decimals) (r.step * 10 ^ d)

-- that decimal: steps x k, in last places of the resolution
unfoldable pub preset_places : Resolution → ℕ → ℕ → ℕ
preset_places r d v = preset_steps r d v * r.step

-- likewise to the nearest microgram
unfoldable pub preset_micrograms : Resolution → ℕ → ℕ → ℕ
preset_micrograms r d v = typed_micrograms r.unit r.decimals (preset_places r d v)

-- the decimal exact, in femtograms: steps x k x unit x 10^(6-d)
unfoldable pub preset_femtograms : Resolution → ℕ → ℕ → ℕ
preset_femtograms r d v = typed_femtograms r.unit r.decimals (preset_places r d v)

-- the largest number of ten digits
abbrev pub largest_typed : ℕ
largest_typed = 9_999_999_999

-- as a number that is typed: of up to ten digits, up to 6 of them decimals, and to a resolution that a profile may have
unfoldable pub preset_amount : Resolution → ℕ → ℕ → Result Tare NoAmount
preset_amount r d v =
    cond (allowed_resolution r && leb d 6 && leb v largest_typed) (amount_of (preset_micrograms r d v)) (Err NotTyped)
