-- How far from zero a signed number is, by the ends that it lies between.
-- Assumes nothing.
use mathlib.Core.Path.{◌≡◌}
use mathlib.Core.Bool.{true, false≢true}
use Prim.Native.Nat.{ℕ, zero, suc, ◌≤◌}
use native.Mathlib.Omega.{arith}
use borrow.Author.Tests.{leb-true}
use lib.IntN.{ℤ, pos, negsuc, neg_ℤ, nat_abs}
use lib.Signed.{le_z}

-- between -low and high, where high is not the larger one
pub size_between
    : (low high : ℕ) (z : ℤ) → high ≤ low → le_z (neg_ℤ (pos low)) z ≡ true → le_z z (pos high) ≡ true → nat_abs z ≤ low
size_between low high (pos m) h above below = omega (arith, leb-true m high below)
size_between zero high (negsuc m) h above below = absurd (false≢true above)
size_between (suc low) high (negsuc m) h above below = omega (arith, leb-true m low above)
