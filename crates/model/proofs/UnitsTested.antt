-- The tests that the code makes of the units are those of the profile's lines.
-- Assumes nothing.
use mathlib.Core.Path.{◌≡◌, refl, sym, ap₂, ◌∙◌}
use mathlib.Core.Bool.{Bool, true, false, not, ◌&&◌, and-true, and-false, and_assoc}
use mathlib.Core.List.{List, [], ◌∷◌}
use Prim.Native.Nat.{ℕ, ◌+◌, ◌≤◌}
use native.Mathlib.Omega.{arith}
use borrow.Author.Tests.{le-leb, not-false}
use lib.Dec.{leb}
use Rattle.std.specs.List.{fold}
use Rattle.weight.specs.declared.units.WeightUnit.{WeightUnit}
use Rattle.weight.specs.Printing.{largest_reach}
use Rattle.weight.specs.Ranges.{ranged}
use Rattle.weight.specs.Rounding.{allowed_resolution}
use Rattle.weight.specs.Units.{all_units}
use Rattle.weight.proofs.Allowed.{both_hold, both_left, both_right}
use Rattle.weight.proofs.Coarse.{coarse_fits_fine}
use Rattle.weight.proofs.Sure.{in_word_lem, surely_fits_lem}
use Rattle.weight.proofs.EveryNet.{low_end_decides}
use Rattle.model.specs.declared.profile.Profile.{Profile}
use Rattle.model.specs.declared.profile.Readability.{Readability}
use Rattle.model.specs.Profiles.{every_unit, fine_allowed, is_ranged, nets_allowed, resolution_from, resolution_of, profile_allowed, texts_allowed, unit_allowed, units_allowed}
use Rattle.model.proofs.ProfileFacts.{AllowedLimits, allowed_limits, limits_allowed, limits_allow}
use Rattle.model.specs.Reaches.{surely_in, closely_in, surely_in_all, closely_in_all, coarsely_in, coarsely_in_all, reached_in_all}

every_same : (f g : WeightUnit → Bool) → ((u : WeightUnit) → f u ≡ g u) → (us : List WeightUnit) → every_unit f us ≡ every_unit g us
every_same f g same [] = refl
every_same f g same (u ∷ us) = ap₂ ◌&&◌ (same u) (every_same f g same us)

every_implies : (f g : WeightUnit → Bool) → ((u : WeightUnit) → f u ≡ true → g u ≡ true) → (us : List WeightUnit) → every_unit f us ≡ true → every_unit g us ≡ true
every_implies f g then [] e = refl
every_implies f g then (u ∷ us) e =
    both_hold (g u) (every_unit g us) (then u (both_left (f u) (every_unit f us) e)) (every_implies f g then us (both_right (f u) (every_unit f us) e))

-- what passes the quick test reaches
pub surely_closely : (rows : List Readability) (m : ℕ) → surely_in_all rows m ≡ true → closely_in_all rows m ≡ true
unfolding surely_in_all closely_in_all
surely_closely rows m e =
    every_implies (surely_in rows m) (closely_in rows m) (λ u h. surely_fits_lem (resolution_from rows u) m h) all_units e

-- what fits coarse fits fine, so that one test decides
coarse_alone : (t a c b : Bool) → ((t && (a && c)) ≡ true → (a && b) ≡ true) → (t && (a && c)) ≡ (a && b && (t && c))
coarse_alone t false c b h = and-false t
coarse_alone false true c b h = sym (and-false b)
coarse_alone true true true b h = sym (rw (h refl))
coarse_alone true true false b h = sym (and-false b)

module _ (p : Profile) (most : p.capacity ≤ 1_000_000_000) (margin : p.underload ≤ p.capacity) where
  abbrev reach : ℕ
  reach = p.underload + p.capacity

  small : reach ≤ largest_reach
  small = omega arith

  -- the lower end decides, of the fine nets
  fine_tested : (u : WeightUnit) → is_ranged p ≡ false → closely_in p.readability reach u ≡ unit_allowed p u
  unfolding unit_allowed
  fine_tested u e =
      let r = resolution_of p u in
      rw (e, and-true (allowed_resolution r && nets_allowed p r), le-leb reach largest_reach small, low_end_decides r reach p.capacity (omega arith))

  -- and of the coarse ones
  coarse_tested : (u : WeightUnit) → is_ranged p ≡ true → coarsely_in p.readability reach u ≡ unit_allowed p u
  unfolding unit_allowed
  coarse_tested u e =
      let r = resolution_of p u in
      rw (e, le-leb reach largest_reach small, low_end_decides r reach p.capacity (omega arith), low_end_decides (ranged true r) reach p.capacity (omega arith))
      (coarse_alone (leb 2 r.decimals) (allowed_resolution r) _ _ (coarse_fits_fine r reach (in_word_lem reach small)))

  reached_allowed : {all : Bool} → all ≡ reached_in_all (is_ranged p) p.readability reach → all ≡ units_allowed p
  unfolding closely_in_all coarsely_in_all
  reached_allowed {all} e = by (is_ranged p) refl e
    where
      by : (t : Bool) → is_ranged p ≡ t → all ≡ reached_in_all t p.readability reach → all ≡ units_allowed p
      by true k e = e ∙ every_same (coarsely_in p.readability reach) (unit_allowed p) (λ u. coarse_tested u k) all_units
      by false k e = e ∙ every_same (closely_in p.readability reach) (unit_allowed p) (λ u. fine_tested u k) all_units

-- the whole profile
pub profile_tested
    : (p : Profile) {limits units texts : Bool} → limits ≡ limits_allowed p → not limits ≡ false
    → units ≡ reached_in_all (is_ranged p) p.readability (p.underload + p.capacity)
    → texts ≡ texts_allowed p
    → (units && texts && fine_allowed p) ≡ profile_allowed p
profile_tested p {limits} known e u t =
    let holds : limits_allowed p ≡ true = sym known ∙ not-false limits e in
    let facts : AllowedLimits p = allowed_limits p holds in
    ap₂ (λ (x y : Bool). x && y && fine_allowed p) (reached_allowed p facts.capacity_most facts.underload_most u) t ∙ sym (limits_allow p holds)

-- ---- every unit asked, one after another

every_along : (f : WeightUnit → Bool) (a : Bool) (us : List WeightUnit) → fold (λ (b : Bool) (u : WeightUnit). b && f u) a us ≡ (a && every_unit f us)
every_along f a [] = sym (and-true a)
every_along f a (u ∷ us) = every_along f (a && f u) us ∙ and_assoc a (f u) (every_unit f us)

pub every_told : (f : WeightUnit → Bool) (us : List WeightUnit) {r : Bool} → r ≡ fold (λ (b : Bool) (u : WeightUnit). b && f u) true us → r ≡ every_unit f us
every_told f us e = e ∙ every_along f true us
