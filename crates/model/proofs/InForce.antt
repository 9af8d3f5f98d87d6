-- The resolution in force of an allowed profile is allowed, and prints every net from -(U+C) to C, whatever the weighing and the weight
-- that decides, if that is not above C.
-- Assumes nothing.
use mathlib.Core.Path.{◌≡◌, refl}
use mathlib.Core.Bool.{Bool, true, false, false≢true}
use Prim.Native.Nat.{ℕ, ◌+◌, ◌≤◌}
use native.Mathlib.Omega.{arith}
use borrow.Author.Tests.{le-leb, lt-ltb, ltb-true, ltb-false}
use lib.Dec.{ltb}
use lib.IntN.{ℤ, pos, negsuc, neg_ℤ, nat_abs}
use lib.Signed.{le_z, lt_z}
use Rattle.weight.specs.Places.{fits_field}
use Rattle.weight.specs.Printing.{printable}
use Rattle.weight.specs.Ranges.{ranged, resolution_at}
use Rattle.weight.specs.Rounding.{allowed_resolution, net_limit, places_of}
use Rattle.weight.proofs.Coarse.{coarse_allowed_lem}
use Rattle.model.specs.declared.profile.Profile.{Profile}
use Rattle.model.specs.declared.weighing.Weighing.{Weighing}
use Rattle.model.specs.Profiles.{is_ranged, profile_allowed, resolution_in, resolution_of}
use Rattle.model.proofs.Nets.{nets_fit, nets_fit_coarse}
use Rattle.model.proofs.ProfileFacts.{AllowedProfile, allowed_profile}
use Rattle.model.proofs.Sizes.{size_between}

-- a weight above F and not above C shows that F is below C
pub between_ranged : (fine capacity : ℕ) (x : ℤ) → lt_z (pos fine) x ≡ true → lt_z (pos capacity) x ≡ false → ltb fine capacity ≡ true
between_ranged fine capacity (pos m) above within = lt-ltb fine capacity (omega (arith, ltb-true fine m above, ltb-false capacity m within))
between_ranged fine capacity (negsuc m) above within = absurd (false≢true above)

-- the resolution of a unit is a fine one
pub in_fine_lem : (p : Profile) (w : Weighing) → (resolution_in p w).coarse ≡ false
unfolding resolution_in
in_fine_lem p w = refl

pub fine_itself : (p : Profile) (w : Weighing) → ranged false (resolution_in p w) ≡ resolution_in p w
unfolding resolution_in
fine_itself p w = refl

module _ (p : Profile) (h : profile_allowed p ≡ true) (w : Weighing) where
  pub allowed_in_force : allowed_resolution (resolution_in p w) ≡ true
  unfolding resolution_in
  allowed_in_force = ((allowed_profile p h).units w.unit).resolution

  -- in either range
  allowed_ranged : (c : Bool) → (c ≡ true → is_ranged p ≡ true) → allowed_resolution (ranged c (resolution_in p w)) ≡ true
  unfolding resolution_in
  allowed_ranged true has =
      let unit = (allowed_profile p h).units w.unit in
      coarse_allowed_lem _ (omega (arith, unit.two (has refl))) unit.resolution
  allowed_ranged false has = allowed_in_force

  pub allowed_at : (x : ℤ) → lt_z (pos p.capacity) x ≡ false → allowed_resolution (resolution_at p.fine (resolution_in p w) x) ≡ true
  allowed_at x within = allowed_ranged (lt_z (pos p.fine) x) (λ above. between_ranged p.fine p.capacity x above within)

  module _ (net : ℤ) (low : le_z (neg_ℤ (pos (p.underload + p.capacity))) net ≡ true) (high : le_z net (pos p.capacity) ≡ true) where
    printable_ranged : (c : Bool) → (c ≡ true → is_ranged p ≡ true) → printable (ranged c (resolution_in p w)) net ≡ true
    unfolding printable resolution_in
    printable_ranged c has =
        let facts : AllowedProfile p = allowed_profile p h in
        let size : nat_abs net ≤ p.underload + p.capacity = size_between (p.underload + p.capacity) p.capacity net (omega arith) low high in
        rw (allowed_ranged c has, le-leb (nat_abs net) net_limit (omega arith)) (fits c has)
      where
        fits : (c : Bool) → (c ≡ true → is_ranged p ≡ true) → fits_field c (ranged c (resolution_of p w.unit)).decimals (places_of (ranged c (resolution_of p w.unit)) net) ≡ true
        fits true has = nets_fit_coarse p h (has refl) w.unit net low high
        fits false has = nets_fit p h w.unit net low high

    pub nets_printable : (x : ℤ) → lt_z (pos p.capacity) x ≡ false → printable (resolution_at p.fine (resolution_in p w) x) net ≡ true
    nets_printable x within = printable_ranged (lt_z (pos p.fine) x) (λ above. between_ranged p.fine p.capacity x above within)
