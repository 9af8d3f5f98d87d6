-- A number from its sign and its size, in a machine word.
-- Assumes nothing.
use mathlib.Core.Path.{◌≡◌}
use mathlib.Core.Bool.{Bool, true, false}
use Prim.Native.Nat.{ℕ, ◌≤◌, ◌<◌}
use native.Mathlib.Omega.{arith}
use borrow.Author.Tests.{le-leb, lt-leb}
use lib.IntN.{pos, ◌-ℤ◌}
use mir.Syntax.{w64}
use mir.Val.{to_z, of_z}
use mir.Facts.{to_z_pos}
use Rattle.weight.specs.Places.{signed, signed_places}
use Rattle.weight.proofs.Machine.{opposite_gives}

-- over ten digits
pub no_places : (b : Bool) (m : ℕ) → 10_000_000_000 ≤ m → pos 0 ≡ signed_places b m
unfolding signed_places
no_places b m h = rw (le-leb 10_000_000_000 m h)

-- ten digits, which fit a signed word below zero and not
module _ (b : Bool) (m : ℕ) (h : m < 10_000_000_000) where
  pub signed_within : signed_places b m ≡ signed b m
  unfolding signed_places
  signed_within = rw (lt-leb 10_000_000_000 m h)

  pub below_places : b ≡ true → to_z w64 (of_z w64 (pos 0 -ℤ to_z w64 m)) ≡ signed_places b m
  below_places e = rw (signed_within, e) (opposite_gives m (omega arith))

  pub other_places : b ≡ false → to_z w64 m ≡ signed_places b m
  other_places e = rw (signed_within, e) (to_z_pos w64 (omega arith))
