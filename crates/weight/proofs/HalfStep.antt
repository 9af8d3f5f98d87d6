-- How far the printed and the stored number stand from the exact one.
-- Assumes nothing.
use Prim.Native.Nat.{ℕ, suc, ◌+◌, ◌-◌, ◌*◌, ◌^◌, ◌≤◌, ◌<◌}
use native.Mathlib.Nat.{mul-le-mul_right, mul-pos, mul_assoc, add-sub_of_le}
use native.Mathlib.Omega.{arith}
use mathlib.Core.Path.{◌≡◌, sym, ap}
use mathlib.Core.Bool.{true}
use lib.Pow.{pow-add}
use lib.IntN.{ℤ, pos, negsuc, nat_abs, ◌-ℤ◌}
use Rattle.weight.specs.declared.units.WeightUnit.{WeightUnit}
use Rattle.weight.specs.declared.rounding.Resolution.{Resolution}
use Rattle.weight.specs.Units.{nanograms_of}
use Rattle.weight.specs.Rounding.{allowed_resolution, half_up, places_of, place_femtograms, step_femtograms, printed_femtograms, exact_femtograms, Near}
use Rattle.weight.specs.Amounts.{typed_micrograms, typed_femtograms}
use Rattle.weight.proofs.Allowed.{allowed_decimals, allowed_divisor_positive, power_positive}
use Rattle.weight.proofs.HalfUp.{half_up_not_over, half_up_near, half_up_only, half_up_scaled}
use Rattle.weight.proofs.Monotone.{natural_places, places_of_pos, places_of_negsuc, times_odd}
use Rattle.weight.proofs.Nearness.{near_naturals, near_negated, difference_times}
use Rattle.weight.proofs.Range.{size_product}

-- ---- the printed number

-- up to 6 decimals, the scale to last places and the one to femtograms multiply to a microgram's femtograms
scale_split : (d : ℕ) → d ≤ 6 → 1000 * 10 ^ d * 10 ^ (6 - d) ≡ 1_000_000_000
scale_split d h = rw (mul_assoc 1000, ← (pow-add 10 d), add-sub_of_le h)

-- m micrograms, printed: s and e are the two scales, t their product, k the step and u the unit
printed_over
    : (k u e s t m : ℕ) → s * e ≡ t → 2 * (half_up (m * s) (k * u) * k * (u * e)) ≤ 2 * (m * t) + k * (u * e)
printed_over k u e s t m scales =
    omega (arith, mul-le-mul_right e (half_up_not_over (m * s) (k * u)), ap (λ (x : ℕ). m * x) scales)

-- nor is the printed number too low
printed_under
    : (k u e s t m : ℕ)
    → s * e ≡ t
    → 0 < k * u
    → 2 * (m * t) ≤ 2 * (half_up (m * s) (k * u) * k * (u * e)) + k * (u * e)
printed_under k u e s t m scales h =
    omega (arith, mul-le-mul_right e (half_up_near (m * s) (k * u) h).1, ap (λ (x : ℕ). m * x) scales)

-- the law below for a net weight that is not negative
natural_half_step
    : (r : Resolution) (m : ℕ)
    → allowed_resolution r ≡ true
    → Near (step_femtograms r) (printed_femtograms r (pos (natural_places r m))) (exact_femtograms (pos m))
unfolding step_femtograms place_femtograms printed_femtograms exact_femtograms
natural_half_step r m h =
    near_naturals
    _
    _
    _
    (printed_over r.step _ (10 ^ (6 - r.decimals)) _ _ m (scale_split r.decimals (allowed_decimals r h)))
    (printed_under
    r.step
    _
    (10 ^ (6 - r.decimals))
    _
    _
    m
    (scale_split r.decimals (allowed_decimals r h))
    (allowed_divisor_positive r h))

-- the printed number is within half a display step of the exact net weight
pub half_step
    : (r : Resolution) (net : ℤ)
    → allowed_resolution r ≡ true
    → Near (step_femtograms r) (printed_femtograms r (places_of r net)) (exact_femtograms net)
unfolding printed_femtograms exact_femtograms
half_step r (pos m) h = rw (places_of_pos r m) (natural_half_step r m h)
half_step r (negsuc m) h =
    rw
    (places_of_negsuc r m, times_odd (pos (natural_places r (suc m))))
    (near_negated _ _ _ (natural_half_step r (suc m) h))

-- ---- a typed number

-- v last places of a unit of w nanograms, to the nearest microgram: s and e are the two scales, t their product
typed_over : (w e s t v : ℕ) → s * e ≡ t → 2 * (half_up (v * w) s * t) ≤ 2 * (v * w * e) + t
typed_over w e s t v scales =
    omega
    (arith, mul-le-mul_right e (half_up_not_over (v * w) s), ap (λ (x : ℕ). half_up (v * w) s * x) scales, scales)

-- nor is the stored number too low
typed_under : (w e s t v : ℕ) → s * e ≡ t → 0 < s → 2 * (v * w * e) ≤ 2 * (half_up (v * w) s * t) + t
typed_under w e s t v scales h =
    omega
    (arith, mul-le-mul_right e (half_up_near (v * w) s h).1, ap (λ (x : ℕ). half_up (v * w) s * x) scales, scales)

-- what a typed number is stored as is within half a microgram of it
pub typed_near
    : (u : WeightUnit) (d v : ℕ)
    → d ≤ 6
    → Near 1_000_000_000 (exact_femtograms (pos (typed_micrograms u d v))) (pos (typed_femtograms u d v))
unfolding exact_femtograms typed_micrograms typed_femtograms
typed_near u d v h =
    near_naturals
    _
    _
    _
    (typed_over (nanograms_of u) (10 ^ (6 - d)) (1000 * 10 ^ d) _ v (scale_split d h))
    (typed_under
    (nanograms_of u)
    (10 ^ (6 - d))
    (1000 * 10 ^ d)
    _
    v
    (scale_split d h)
    (mul-pos {m = 1000} (omega arith) (power_positive d)))

-- what a typed number is stored as is the nearest microgram of its femtograms, a tie upwards
pub typed_rounded : (u : WeightUnit) (d v : ℕ) → d ≤ 6 → typed_micrograms u d v ≡ half_up (typed_femtograms u d v) 1_000_000_000
unfolding typed_micrograms typed_femtograms
typed_rounded u d v h =
    sym (half_up_scaled (v * nanograms_of u) (1000 * 10 ^ d) (10 ^ (6 - d)) 1_000_000_000 (scale_split d h)
    (mul-pos {m = 1000} (omega arith) (power_positive d))
    (power_positive (6 - d)))

-- and so is a number of whole micrograms
pub rounded_exact : (z : ℤ) → half_up (nat_abs (exact_femtograms z)) 1_000_000_000 ≡ nat_abs z
unfolding exact_femtograms
rounded_exact z =
    rw (size_product z 1_000_000_000)
    (half_up_only (nat_abs z * 1_000_000_000) 1_000_000_000 (nat_abs z) (omega arith) (omega arith) (omega arith))

-- femtograms of a difference
pub exact_difference
    : (a b : ℤ) → exact_femtograms (a -ℤ b) ≡ exact_femtograms a -ℤ exact_femtograms b
unfolding exact_femtograms
exact_difference a b = difference_times a b 1_000_000_000
