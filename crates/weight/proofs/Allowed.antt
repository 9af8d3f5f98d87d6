-- What an allowed resolution gives: bounds on its decimals, its step and its unit.
-- Assumes nothing.
use Prim.Native.Nat.{ℕ, ◌*◌, ◌^◌, ◌≤◌, ◌<◌}
use native.Mathlib.Nat.{mul-pos, mul-le-mul, one-le-pow, pow-le-pow_right}
use native.Mathlib.Omega.{arith}
use mathlib.Core.Path.{◌≡◌, refl}
use mathlib.Core.Logic.{◌⊎◌, inl, inr, ⊎_elim}
use mathlib.Core.Bool.{Bool, true, false, ◌&&◌, ◌||◌, true≢false}
use borrow.Author.Tests.{leb-true, lt-leb, le-leb, eqb-true}
use lib.Dec.{leb, eqb}
use Rattle.weight.specs.declared.units.WeightUnit.{WeightUnit}
use Rattle.weight.specs.declared.units.WeightUnit.TheVariants.{G, Mg, Ct, Oz, Ozt, Gn, Dwt, Kg, Lb}
use Rattle.weight.specs.declared.rounding.Resolution.{Resolution}
use Rattle.weight.specs.Units.{nanograms_of}
use Rattle.weight.specs.Rounding.{allowed_resolution}

-- an `and` holds when both its tests do
pub both_hold : (a b : Bool) → a ≡ true → b ≡ true → a && b ≡ true
both_hold true b h k = k
both_hold false b h k = h

-- the first test of an `and` that holds
pub both_left : (a b : Bool) → a && b ≡ true → a ≡ true
both_left true b h = search
both_left false b h = search

-- the second
pub both_right : (a b : Bool) → a && b ≡ true → b ≡ true
both_right true b h = search
both_right false b h = search

-- one test of an `or` holds
pub either_holds : (a b : Bool) → a || b ≡ true → (a ≡ true) ⊎ (b ≡ true)
either_holds true b h = inl refl
either_holds false b h = inr h

-- neither test of an `or` that fails does
pub neither_left : (a b : Bool) → a || b ≡ false → a ≡ false
neither_left true b h = h
neither_left false b h = refl

pub neither_right : (a b : Bool) → a || b ≡ false → b ≡ false
neither_right true b h = absurd (true≢false h)
neither_right false b h = h

-- the milligram is the lightest unit
pub nanograms_least : (u : WeightUnit) → 1_000_000 ≤ nanograms_of u
nanograms_least G = omega arith
nanograms_least Mg = omega arith
nanograms_least Ct = omega arith
nanograms_least Oz = omega arith
nanograms_least Ozt = omega arith
nanograms_least Gn = omega arith
nanograms_least Dwt = omega arith
nanograms_least Kg = omega arith
nanograms_least Lb = omega arith

-- so every unit weighs something
pub nanograms_positive : (u : WeightUnit) → 0 < nanograms_of u
nanograms_positive u = omega (arith, nanograms_least u)

-- the kilogram is the heaviest unit
pub nanograms_limit : (u : WeightUnit) → nanograms_of u ≤ 1_000_000_000_000
nanograms_limit G = omega arith
nanograms_limit Mg = omega arith
nanograms_limit Ct = omega arith
nanograms_limit Oz = omega arith
nanograms_limit Ozt = omega arith
nanograms_limit Gn = omega arith
nanograms_limit Dwt = omega arith
nanograms_limit Kg = omega arith
nanograms_limit Lb = omega arith

-- the three tests of a resolution
abbrev decimals_test : Resolution → Bool
decimals_test r = leb r.decimals 6

abbrev step_test : Resolution → Bool
step_test r = eqb r.step 1 || eqb r.step 2 || eqb r.step 5

abbrev least_test : Resolution → Bool
least_test r = leb (1000 * 10 ^ r.decimals) (r.step * nanograms_of r.unit)

-- with more than six decimals none is allowed
pub too_many_decimals : (r : Resolution) → 6 < r.decimals → false ≡ allowed_resolution r
unfolding allowed_resolution
too_many_decimals r h = simp (lt-leb r.decimals 6 h)

-- with up to six the tests of the step decide
pub few_decimals : (r : Resolution) → r.decimals ≤ 6 → (step_test r && least_test r) ≡ allowed_resolution r
unfolding allowed_resolution
few_decimals r h = simp (le-leb r.decimals 6 h)

-- decimals 0 to 6
pub allowed_decimals : (r : Resolution) → allowed_resolution r ≡ true → r.decimals ≤ 6
unfolding allowed_resolution
allowed_decimals r h =
    leb-true
    r.decimals
    6
    (both_left (decimals_test r) (step_test r) (both_left (decimals_test r && step_test r) (least_test r) h))

-- step 1, 2 or 5
pub known_step : (k : ℕ) → (eqb k 1 || eqb k 2 || eqb k 5) ≡ true → (k ≡ 1) ⊎ ((k ≡ 2) ⊎ (k ≡ 5))
known_step k h =
    ⊎_elim
    (λ low. ⊎_elim (λ e. inl (eqb-true _ _ e)) (λ e. inr (inl (eqb-true _ _ e))) (either_holds (eqb k 1) (eqb k 2) low))
    (λ e. inr (inr (eqb-true _ _ e)))
    (either_holds _ _ h)

pub allowed_known : (r : Resolution) → allowed_resolution r ≡ true → (eqb r.step 1 || eqb r.step 2 || eqb r.step 5) ≡ true
unfolding allowed_resolution
allowed_known r h = both_right (decimals_test r) (step_test r) (both_left (decimals_test r && step_test r) (least_test r) h)

pub allowed_step : (r : Resolution) → allowed_resolution r ≡ true → (r.step ≡ 1) ⊎ ((r.step ≡ 2) ⊎ (r.step ≡ 5))
allowed_step r h = known_step r.step (allowed_known r h)

-- the step is at least one microgram
pub allowed_least_step
    : (r : Resolution) → allowed_resolution r ≡ true → 1000 * 10 ^ r.decimals ≤ r.step * nanograms_of r.unit
unfolding allowed_resolution
allowed_least_step r h = leb-true _ _ (both_right (decimals_test r && step_test r) (least_test r) h)

-- all three
pub allowed_of : (r : Resolution) → r.decimals ≤ 6 → (eqb r.step 1 || eqb r.step 2 || eqb r.step 5) ≡ true
    → 1000 * 10 ^ r.decimals ≤ r.step * nanograms_of r.unit → allowed_resolution r ≡ true
unfolding allowed_resolution
allowed_of r few known least = rw (le-leb r.decimals 6 few, known, le-leb _ _ least)

-- no step of zero
pub allowed_step_positive : (r : Resolution) → allowed_resolution r ≡ true → 0 < r.step
allowed_step_positive r h =
    ⊎_elim (λ e. omega arith) (λ e. ⊎_elim (λ e. omega arith) (λ e. omega arith) e) (allowed_step r h)

-- no step above five
pub allowed_step_limit : (r : Resolution) → allowed_resolution r ≡ true → r.step ≤ 5
allowed_step_limit r h =
    ⊎_elim (λ e. omega arith) (λ e. ⊎_elim (λ e. omega arith) (λ e. omega arith) e) (allowed_step r h)

-- what a rounding divides by is positive
pub allowed_divisor_positive : (r : Resolution) → allowed_resolution r ≡ true → 0 < r.step * nanograms_of r.unit
allowed_divisor_positive r h = mul-pos (allowed_step_positive r h) (nanograms_positive r.unit)

-- and at most five kilograms, so that it stays far from what a machine word holds
pub allowed_divisor_limit
    : (r : Resolution) → allowed_resolution r ≡ true → r.step * nanograms_of r.unit ≤ 5_000_000_000_000
allowed_divisor_limit r h = mul-le-mul (allowed_step_limit r h) (nanograms_limit r.unit)

-- a power of ten is positive
pub power_positive : (d : ℕ) → 0 < 10 ^ d
power_positive d = one-le-pow d 10 (omega arith)

-- up to 6 decimals, 10^d is a million at most
pub power_limit : (d : ℕ) → d ≤ 6 → 10 ^ d ≤ 1_000_000
power_limit d h = pow-le-pow_right (omega arith) h
