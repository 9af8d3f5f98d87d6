-- What an allowed profile gives: the lines of document 01, "The profile".
-- Assumes nothing.
use mathlib.Core.Path.{◌≡◌, refl}
use mathlib.Core.Bool.{Bool, true, false, ◌&&◌}
use mathlib.Core.List.{List, [], ◌∷◌}
use Prim.Native.Nat.{ℕ, zero, suc, ◌≤◌, ◌<◌}
use native.Mathlib.Nat.{le_of_suc-le-suc, not-suc-le-zero}
use native.Mathlib.Omega.{arith}
use borrow.Author.Tests.{leb-true}
use lib.Dec.{leb}
use lib.ListN.{length, get_or, take, length-take}
use Rattle.text.specs.Printable.{is_printable}
use Rattle.weight.specs.declared.units.WeightUnit.{WeightUnit}
use Rattle.weight.specs.declared.units.WeightUnit.TheVariants.{G, Mg, Ct, Oz, Ozt, Gn, Dwt, Kg, Lb}
use Rattle.weight.specs.Ranges.{ranged}
use Rattle.weight.specs.Rounding.{allowed_resolution}
use Rattle.weight.specs.Units.{all_units, unit_place}
use Rattle.weight.proofs.Allowed.{both_left, both_right}
use Rattle.model.specs.declared.profile.Profile.{Profile}
use Rattle.model.specs.Profiles.{capacity_allowed, underload_allowed, zero_range_allowed, timeout_allowed, resolution_of, nets_allowed, is_ranged, coarse_allowed, fine_allowed, unit_allowed, every_unit, units_allowed, text_allowed, texts_allowed, profile_allowed}
use Rattle.model.proofs.Conjunctions.{Four, four, implied}

-- the lines on C, U, R and W
abbrev pub limits_allowed : Profile → Bool
limits_allowed p = capacity_allowed p && underload_allowed p && zero_range_allowed p && timeout_allowed p

-- each of them as a fact
pub record AllowedLimits (p : Profile) : Type 0 where
  pub capacity_least : 1 ≤ p.capacity
  pub capacity_most : p.capacity ≤ 1_000_000_000
  pub underload_most : p.underload ≤ p.capacity
  pub zeroing_most : p.zeroing ≤ p.capacity
  pub timeout_least : 1 ≤ p.timeout
  pub timeout_most : p.timeout ≤ 1000

-- they hold where their tests do
pub allowed_limits : (p : Profile) → limits_allowed p ≡ true → AllowedLimits p
allowed_limits p h =
    let lines : Four (capacity_allowed p) (underload_allowed p) (zero_range_allowed p) (timeout_allowed p) =
    four (capacity_allowed p) (underload_allowed p) (zero_range_allowed p) (timeout_allowed p) h in
    record {
      capacity_least = leb-true _ _ (both_left (leb 1 p.capacity) (leb p.capacity 1_000_000_000) lines.first);
      capacity_most = leb-true _ _ (both_right (leb 1 p.capacity) (leb p.capacity 1_000_000_000) lines.first);
      underload_most = leb-true _ _ lines.second;
      zeroing_most = leb-true _ _ lines.third;
      timeout_least = leb-true _ _ (both_left (leb 1 p.timeout) (leb p.timeout 1000) lines.fourth);
      timeout_most = leb-true _ _ (both_right (leb 1 p.timeout) (leb p.timeout 1000) lines.fourth);
    }

-- limits that are not allowed refuse the profile
pub limits_refuse : (p : Profile) → limits_allowed p ≡ false → profile_allowed p ≡ false
unfolding profile_allowed
limits_refuse p e = rw e

-- and with those that are the rest decides
pub limits_allow
    : (p : Profile) → limits_allowed p ≡ true
    → profile_allowed p ≡ (units_allowed p && texts_allowed p && fine_allowed p)
unfolding profile_allowed
limits_allow p e = rw e

-- ---- every unit

every_at : (f : WeightUnit → Bool) (us : List WeightUnit) (i : ℕ) → every_unit f us ≡ true → i < length us → f (get_or us i G) ≡ true
every_at f [] i e h = absurd (not-suc-le-zero h)
every_at f (u ∷ us) zero e h = both_left (f u) (every_unit f us) e
every_at f (u ∷ us) (suc i) e h = every_at f us i (both_right (f u) (every_unit f us) e) (le_of_suc-le-suc h)

-- a unit stands at its place
pub unit_at : (u : WeightUnit) → (unit_place u < 9) × (get_or all_units (unit_place u) G ≡ u)
unit_at G = (omega arith, refl)
unit_at Mg = (omega arith, refl)
unit_at Ct = (omega arith, refl)
unit_at Oz = (omega arith, refl)
unit_at Ozt = (omega arith, refl)
unit_at Gn = (omega arith, refl)
unit_at Dwt = (omega arith, refl)
unit_at Kg = (omega arith, refl)
unit_at Lb = (omega arith, refl)

-- what every unit passes, each does
pub each_unit : (f : WeightUnit → Bool) → every_unit f all_units ≡ true → (u : WeightUnit) → f u ≡ true
each_unit f e u = let place = unit_at u in rw place.1 at (every_at f all_units (unit_place u) e place.0)

-- the lines on a unit
pub record AllowedUnit (p : Profile) (u : WeightUnit) : Type 0 where
  pub resolution : allowed_resolution (resolution_of p u) ≡ true
  pub nets : nets_allowed p (resolution_of p u) ≡ true
  pub two : is_ranged p ≡ true → 2 ≤ (resolution_of p u).decimals
  pub coarse : is_ranged p ≡ true → nets_allowed p (ranged true (resolution_of p u)) ≡ true

allowed_unit : (p : Profile) (u : WeightUnit) → unit_allowed p u ≡ true → AllowedUnit p u
unfolding unit_allowed
allowed_unit p u h =
    let r = resolution_of p u in
    let fine = both_left (allowed_resolution r && nets_allowed p r) (coarse_allowed p r) h in
    let both = leb 2 r.decimals && nets_allowed p (ranged true r) in
    let coarse = implied (is_ranged p) both (both_right (allowed_resolution r && nets_allowed p r) (coarse_allowed p r) h) in
    record {
      resolution = both_left (allowed_resolution r) (nets_allowed p r) fine;
      nets = both_right (allowed_resolution r) (nets_allowed p r) fine;
      two = λ e. leb-true 2 r.decimals (both_left (leb 2 r.decimals) (nets_allowed p (ranged true r)) (coarse e));
      coarse = λ e. both_right (leb 2 r.decimals) (nets_allowed p (ranged true r)) (coarse e);
    }

-- all lines of an allowed profile
pub record AllowedProfile (p : Profile) : Type 0 where
  pub limits : AllowedLimits p
  pub units : (u : WeightUnit) → AllowedUnit p u
  pub model : text_allowed 40 p.model ≡ true
  pub software : text_allowed 40 p.software ≡ true
  pub serial : text_allowed 20 p.serial ≡ true
  pub release : text_allowed 20 p.release ≡ true
  pub fine : p.fine ≤ p.capacity

-- they hold where the profile's test does
pub allowed_profile : (p : Profile) → profile_allowed p ≡ true → AllowedProfile p
unfolding profile_allowed
allowed_profile p h =
    let before = both_left (limits_allowed p && units_allowed p && texts_allowed p) (fine_allowed p) h in
    let first = both_left (limits_allowed p && units_allowed p) (texts_allowed p) before in
    let texts = both_right (limits_allowed p && units_allowed p) (texts_allowed p) before in
    let long = text_allowed 40 p.model && text_allowed 40 p.software in
    let short = text_allowed 20 p.serial && text_allowed 20 p.release in
    let longs = both_left long short texts in
    let shorts = both_right long short texts in
    record {
      limits = allowed_limits p (both_left (limits_allowed p) (units_allowed p) first);
      units = λ u. allowed_unit p u (each_unit (unit_allowed p) (both_right (limits_allowed p) (units_allowed p) first) u);
      model = both_left (text_allowed 40 p.model) (text_allowed 40 p.software) longs;
      software = both_right (text_allowed 40 p.model) (text_allowed 40 p.software) longs;
      serial = both_left (text_allowed 20 p.serial) (text_allowed 20 p.release) shorts;
      release = both_right (text_allowed 20 p.serial) (text_allowed 20 p.release) shorts;
      fine = leb-true _ _ (both_right (limits_allowed p && units_allowed p && texts_allowed p) (fine_allowed p) h);
    }

-- a text that is allowed is not longer than its limit
pub text_short : (limit len : ℕ) (bytes : List ℕ) → (leb len limit && is_printable (take len bytes)) ≡ true → length (take len bytes) ≤ limit
text_short limit len bytes h =
    let few = leb-true len limit (both_left (leb len limit) (is_printable (take len bytes)) h) in
    omega (arith, length-take len bytes)
