-- Document 01, "The profile": every net weight from -(U+C) to C, printed, fits ten characters. The two ends decide it,
-- since rounding keeps the order and a number nearer to zero is not wider.
-- Assumes nothing.
use Prim.Native.Nat.{ℕ, zero, suc, ◌≤◌}
use native.Mathlib.Omega.{arith}
use mathlib.Core.Path.{◌≡◌, refl}
use mathlib.Core.Logic.{◌↔◌}
use mathlib.Core.Bool.{Bool, true, false, ◌&&◌, false≢true}
use borrow.Author.Tests.{leb-true, le-leb}
use lib.IntN.{ℤ, pos, negsuc, neg_ℤ}
use lib.Signed.{le_z}
use Rattle.weight.specs.declared.rounding.Resolution.{Resolution}
use Rattle.weight.specs.Rounding.{places_of}
use Rattle.weight.specs.Places.{fits_field}
use Rattle.weight.proofs.Allowed.{both_hold, both_left, both_right}
use Rattle.weight.proofs.Monotone.{natural_places, natural_places_monotone, places_amount, places_of_pos, places_of_negated}
use Rattle.weight.proofs.Width.{fits_below, fits_above}

-- the printed net fits the characters of its range
abbrev net_fits : Resolution → ℤ → Bool
net_fits r net = fits_field r.coarse r.decimals (places_of r net)

-- a negative net not below -low is at most low from zero
negative_amount : (m low : ℕ) → le_z (neg_ℤ (pos low)) (negsuc m) ≡ true → suc m ≤ low
negative_amount m zero h = absurd (false≢true h)
negative_amount m (suc low) h = omega (arith, leb-true m low h)

-- both ends lie between the ends
low_below_high : (low high : ℕ) → le_z (neg_ℤ (pos low)) (pos high) ≡ true
low_below_high zero high = le-leb 0 high (omega arith)
low_below_high (suc low) high = refl

low_itself : (low : ℕ) → le_z (neg_ℤ (pos low)) (neg_ℤ (pos low)) ≡ true
low_itself zero = refl
low_itself (suc low) = le-leb low low (omega arith)

-- a net between two ends that fit prints no wider than the end on its side of zero
fits_between
    : (r : Resolution) (low high : ℕ) (net : ℤ)
    → net_fits r (neg_ℤ (pos low)) ≡ true
    → net_fits r (pos high) ≡ true
    → le_z (neg_ℤ (pos low)) net ≡ true
    → le_z net (pos high) ≡ true
    → net_fits r net ≡ true
fits_between r low high (pos m) lowFits highFits above below =
    rw
    (places_of_pos r m)
    (fits_below
    r.coarse
    r.decimals
    (natural_places r m)
    (natural_places r high)
    (rw (places_of_pos r high) at highFits)
    (natural_places_monotone r m high (leb-true m high below)))
fits_between r low high (negsuc m) lowFits highFits above below =
    fits_above
    r.coarse
    r.decimals
    (places_of r (negsuc m))
    (natural_places r low)
    (rw (places_of_negated r low) at lowFits)
    (rw
    (places_amount r (negsuc m))
    (natural_places_monotone r (suc m) low (negative_amount m low above)))

-- the minus only takes room: where the end below zero fits, so does one above zero that is no further from it
pub low_end_decides
    : (r : Resolution) (low high : ℕ)
    → high ≤ low
    → fits_field r.coarse r.decimals (places_of r (neg_ℤ (pos low))) && fits_field r.coarse r.decimals (places_of r (pos high))
    ≡ fits_field r.coarse r.decimals (places_of r (neg_ℤ (pos low)))
low_end_decides r low high h = go (net_fits r (neg_ℤ (pos low))) refl
  where
    go : (t : Bool) → net_fits r (neg_ℤ (pos low)) ≡ t → net_fits r (neg_ℤ (pos low)) && net_fits r (pos high) ≡ net_fits r (neg_ℤ (pos low))
    go false e = rw e
    go true e =
        rw e
        (fits_above
        r.coarse
        r.decimals
        (places_of r (pos high))
        (natural_places r low)
        (rw (places_of_negated r low) at e)
        (rw (places_amount r (pos high)) (natural_places_monotone r high low h)))

-- every net weight from -low to high fits exactly when the two ends do
pub every_net_fits
    : (r : Resolution) (low high : ℕ)
    → (fits_field r.coarse r.decimals (places_of r (neg_ℤ (pos low))) && fits_field r.coarse r.decimals (places_of r (pos high)) ≡ true)
    ↔ ((net : ℤ)
    → le_z (neg_ℤ (pos low)) net ≡ true
    → le_z net (pos high) ≡ true
    → fits_field r.coarse r.decimals (places_of r net) ≡ true)
every_net_fits r low high = (
  λ ends net above below.
      fits_between
      r
      low
      high
      net
      (both_left (net_fits r (neg_ℤ (pos low))) (net_fits r (pos high)) ends)
      (both_right (net_fits r (neg_ℤ (pos low))) (net_fits r (pos high)) ends)
      above
      below,
  λ all.
      both_hold
      _
      _
      (all (neg_ℤ (pos low)) (low_itself low) (low_below_high low high))
      (all (pos high) (low_below_high low high) (le-leb high high (omega arith))),
)
