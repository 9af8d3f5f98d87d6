-- Document 01, "Weights", the field of a printed number: right aligned in ten characters; document 02, No. 7: in the coarse range in nine,
-- and the last place is a space.
-- Assumes nothing.
use Rattle.std.specs.Prelude.{ℕ, ◌+◌, ◌-◌, ◌/◌, ◌^◌, Bool, true, false, cond, Option, Some, None, List, [], ◌∷◌, ◌++◌, ℤ, length, replicate}
use Rattle.weight.specs.Characters.{space}
use Rattle.weight.specs.Places.{digits_of, number_text, width_of}

-- how many digits m last places with d decimals are written with
unfoldable pub digit_count : ℕ → ℕ → ℕ
digit_count d m = length (digits_of (m / 10 ^ d)) + d

-- right aligned in w characters
abbrev pub aligned_in : ℕ → ℕ → ℤ → List ℕ
aligned_in w d n = replicate (w - width_of d n) space ++ number_text d n

-- ten characters; coarse nine, and a space
unfoldable pub field_of : Bool → ℕ → ℤ → List ℕ
field_of true d n = aligned_in 9 d n ++ (space ∷ [])
field_of false d n = aligned_in 10 d n

abbrev pub blank : List ℕ
blank = replicate 10 space

-- the field of a number if it fits
abbrev pub field_if : Bool → Bool → ℕ → ℤ → Option (List ℕ)
field_if fits coarse d n = cond fits (Some (field_of coarse d n)) None
