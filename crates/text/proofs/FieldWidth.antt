-- How wide a field is.
-- Assumes nothing.
use mathlib.Core.Path.{◌≡◌}
use mathlib.Core.Bool.{Bool, true, false}
use Prim.Native.Nat.{ℕ, ◌≤◌}
use native.Mathlib.Omega.{arith}
use lib.IntN.{ℤ}
use lib.ListN.{length, length-append, length-replicate}
use Rattle.weight.specs.Places.{width_of, fits_field}
use Rattle.weight.proofs.Width.{fits_width}
use Rattle.text.specs.Field.{aligned_in, field_of}

-- what fits fills its characters
pub aligned_length : (w d : ℕ) (n : ℤ) → width_of d n ≤ w → length (aligned_in w d n) ≡ w
unfolding width_of
aligned_length w d n h = rw (length-append, length-replicate) (omega arith)

-- and with the space of the coarse range the field
pub field_length : (c : Bool) (d : ℕ) (n : ℤ) → fits_field c d n ≡ true → length (field_of c d n) ≡ 10
unfolding field_of
field_length true d n h = rw (length-append) (omega (arith, aligned_length 9 d n (fits_width true d n h)))
field_length false d n h = aligned_length 10 d n (fits_width false d n h)
