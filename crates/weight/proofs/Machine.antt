-- Signed machine operations as integers: what an operation asks of its operands and what it gives.
-- Assumes nothing.
use mathlib.Core.Path.{◌≡◌, refl}
use mathlib.Core.Bool.{not}
use Prim.Native.Nat.{ℕ, zero, suc, ◌/◌, ◌^◌, ◌≤◌, ◌<◌, zero-le}
use native.Mathlib.Nat.{div-le_self, lt_of_le_of_lt, le_of_suc-le-suc}
use native.Mathlib.Omega.{arith}
use borrow.Author.Tests.{le-ltb}
use lib.IntN.{ℤ, pos, negsuc, neg_ℤ, ◌-ℤ◌, +ℤ_idl}
use lib.Signed.{mag, non_neg, quot_z, rem_z, lt_z, mag_rem}
use mir.Syntax.{w64}
use mir.Val.{SFits, to_z, of_z}
use mir.Facts.{to_z-of_z, to_z_pos, sfits_lit}

-- a size that is at most one more than a bound: its opposite is within the bound
neg_within : (r : ℕ) {a : ℕ} → r ≤ suc a → mag (neg_ℤ (pos r)) ≤ a
neg_within zero h = zero-le
neg_within (suc r) h = le_of_suc-le-suc h

-- a quotient is no larger than what is divided
quotient_within : (n : ℤ) (d : ℕ) → mag (quot_z n (pos d)) ≤ mag n
quotient_within (pos a) d = div-le_self a d
quotient_within (negsuc a) d = neg_within (suc a / d) (div-le_self (suc a) d)

pub quotient_fits : {n : ℤ} (d : ℕ) → SFits w64 n → SFits w64 (quot_z n (pos d))
quotient_fits {n} d f = record { sfits = lt_of_le_of_lt (quotient_within n d) f.sfits }

pub rest_fits : {n : ℤ} (d : ℕ) → SFits w64 n → SFits w64 (rem_z n (pos d))
rest_fits {n} d f = record { sfits = lt_of_le_of_lt (mag_rem n (pos d)) f.sfits }

-- the opposite of a natural number
pub opposite_fits : (n : ℕ) → n < 2 ^ 63 → SFits w64 (neg_ℤ (pos n))
opposite_fits zero h = sfits_lit tt
opposite_fits (suc n) h = record { sfits = omega arith }

-- and in a machine word
module _ (n : ℕ) (h : n < 2 ^ 63) where
  pub opposite_asks : SFits w64 (pos 0 -ℤ to_z w64 n)
  opposite_asks = rw (to_z_pos w64 h, +ℤ_idl) (opposite_fits n h)

  pub opposite_gives : to_z w64 (of_z w64 (pos 0 -ℤ to_z w64 n)) ≡ neg_ℤ (pos n)
  opposite_gives = rw (to_z_pos w64 h, +ℤ_idl) (to_z-of_z (opposite_fits n h))

-- below zero
below_zero_lem : (n : ℤ) → lt_z n (pos 0) ≡ not (non_neg n)
below_zero_lem (pos n) = le-ltb n 0 zero-le
below_zero_lem (negsuc n) = refl

pub negative_gives : (n : ℤ) → SFits w64 n → lt_z (to_z w64 (of_z w64 n)) (pos 0) ≡ not (non_neg n)
negative_gives n f = rw (to_z-of_z f) (below_zero_lem n)
