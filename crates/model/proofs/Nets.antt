-- Document 01, "The profile": every net weight from -(U+C) to C, printed, fits ten characters, and coarse nine where there is a coarse range.
-- Assumes nothing.
use mathlib.Core.Path.{◌≡◌}
use mathlib.Core.Bool.{true}
use Prim.Native.Nat.{◌+◌}
use lib.IntN.{ℤ, pos, neg_ℤ}
use lib.Signed.{le_z}
use Rattle.weight.specs.declared.rounding.Resolution.{Resolution}
use Rattle.weight.specs.declared.units.WeightUnit.{WeightUnit}
use Rattle.weight.specs.Places.{fits_field}
use Rattle.weight.specs.Ranges.{ranged}
use Rattle.weight.specs.Rounding.{places_of}
use Rattle.weight.proofs.EveryNet.{every_net_fits}
use Rattle.model.specs.declared.profile.Profile.{Profile}
use Rattle.model.specs.Profiles.{is_ranged, nets_allowed, profile_allowed, resolution_of}
use Rattle.model.proofs.ProfileFacts.{allowed_profile}

-- the line as the paper has it
abbrev pub EveryNetFits : Profile → Resolution → Type 0
EveryNetFits p r =
    (net : ℤ)
    → le_z (neg_ℤ (pos (p.underload + p.capacity))) net ≡ true
    → le_z net (pos p.capacity) ≡ true
    → fits_field r.coarse r.decimals (places_of r net) ≡ true

-- in an allowed profile every net fits, in every unit
pub nets_fit : (p : Profile) → profile_allowed p ≡ true → (u : WeightUnit) → EveryNetFits p (resolution_of p u)
nets_fit p h u = (every_net_fits (resolution_of p u) (p.underload + p.capacity) p.capacity).0 ((allowed_profile p h).units u).nets

-- and coarse too
pub nets_fit_coarse : (p : Profile) → profile_allowed p ≡ true → is_ranged p ≡ true → (u : WeightUnit) → EveryNetFits p (ranged true (resolution_of p u))
nets_fit_coarse p h e u =
    (every_net_fits (ranged true (resolution_of p u)) (p.underload + p.capacity) p.capacity).0 (((allowed_profile p h).units u).coarse e)

-- and where every net does, the test of the two ends holds
pub nets_allowed_lem : (p : Profile) (r : Resolution) → EveryNetFits p r → nets_allowed p r ≡ true
nets_allowed_lem p r all = (every_net_fits r (p.underload + p.capacity) p.capacity).1 all
