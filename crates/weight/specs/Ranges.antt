-- Document 02, No. 7 (DeltaRange): the fine range, which goes up to the limit F, and the coarse one above it. The resolution in force
-- is made here, of the fine one and of the weight that decides.
-- Assumes nothing.
use Rattle.std.specs.Prelude.{ℕ, ◌-◌, ◌*◌, ◌^◌, Bool, true, cond, ◌&&◌, leb, ltb, ℤ, pos, neg_ℤ}
use Rattle.std.specs.Int.Signed.{lt_z}
use Rattle.weight.specs.declared.rounding.Resolution.{Resolution}
use Rattle.weight.specs.declared.units.WeightUnit.{WeightUnit}
use Rattle.weight.specs.Units.{nanograms_of}
use Rattle.weight.specs.Places.{fits_field}
use Rattle.weight.specs.Rounding.{allowed_resolution, places_of}

-- coarse, the step is ten times larger and the last decimal place is left out: one decimal fewer, and the same k in the last place
abbrev pub ranged : Bool → Resolution → Resolution
ranged coarse r = record { unit = r.unit; decimals = cond coarse (r.decimals - 1) r.decimals; step = r.step; coarse = coarse }

-- when the weight that decides (gross; in a tare answer, the tare) is above F
abbrev pub resolution_at : ℕ → Resolution → ℤ → Resolution
resolution_at fine r weight = ranged (lt_z (pos fine) weight) r

-- v last places with d decimals are above F, exactly: v x unit / (1,000 x 10^d) > F; with over 6 decimals it is no number
abbrev pub is_typed_above : ℕ → WeightUnit → ℕ → ℕ → Bool
is_typed_above fine u d v = leb d 6 && ltb (fine * (1000 * 10 ^ d)) (v * nanograms_of u)

-- for a typed number above F, if F is below C
unfoldable pub typed_resolution : ℕ → ℕ → Resolution → ℕ → ℕ → Resolution
typed_resolution capacity fine r d v = ranged (ltb fine capacity && is_typed_above fine r.unit d v) r

-- what a profile with F below C asks of a unit: two decimals at least, and a net of m micrograms below zero fits coarse too
abbrev pub fits_coarse : Resolution → ℕ → Bool
fits_coarse r m =
    leb 2 r.decimals && (allowed_resolution r && fits_field true (r.decimals - 1) (places_of (ranged true r) (neg_ℤ (pos m))))
