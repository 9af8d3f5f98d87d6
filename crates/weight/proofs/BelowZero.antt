-- A number below zero fits exactly when it is below 10^8, coarse 10^7, which is seen without dividing.
-- Assumes nothing.
use mathlib.Core.Path.{◌≡◌, refl, sym, ap, ◌∙◌}
use mathlib.Core.Logic.{⊎_elim}
use mathlib.Core.Bool.{Bool, true, false, ◌&&◌}
use Prim.Native.Nat.{ℕ, zero, suc, ◌+◌, ◌-◌, ◌*◌, ◌/◌, ◌^◌, ◌≤◌, ◌<◌}
use native.Mathlib.Nat.{mul-pos, mul-le-mul_right, mul-lt-mul_of_pos_right, lt_of_mul-lt-mul_right, one-le-pow, pow-suc}
use native.Mathlib.Omega.{arith}
use borrow.Author.Tests.{le-leb, le-ltb, lt-ltb, ltb-true}
use lib.Dec.{ltb}
use lib.IntN.{pos, negsuc, neg_ℤ}
use Rattle.weight.specs.declared.rounding.Resolution.{Resolution}
use Rattle.weight.specs.Units.{nanograms_of}
use Rattle.weight.specs.Rounding.{allowed_resolution, half_up}
use Rattle.weight.specs.Places.{fits_field}
use Rattle.weight.specs.Printing.{fits_below_zero, is_short}
use Rattle.weight.specs.Ranges.{ranged, fits_coarse}
use Rattle.weight.proofs.Allowed.{nanograms_least, nanograms_positive, allowed_decimals, allowed_known, allowed_least_step, allowed_of, allowed_step, allowed_step_positive, allowed_step_limit}
use Rattle.weight.proofs.Monotone.{natural_places, places_of_negated}
use Rattle.weight.proofs.Width.{tests_agree, div_test, fits_limit, facts_fit}

-- a rounded number in steps of k, where k divides the limit: nothing is rounded if both sides are multiplied
step_test_lem
    : (limit m u k p : ℕ) → 0 < u → 0 < k → p * k ≡ limit
    → ltb (half_up m (k * u) * k) limit ≡ ltb (m + m + k * u) (u * (2 * limit))
unfolding half_up
step_test_lem limit m u k p h j e =
    let n : ℕ = k * u in
    let q : ℕ = (2 * m + n) / (2 * n) in
    let positive : 0 < n = mul-pos j h in
    let doubled : 2 * m + n ≡ m + m + n = omega arith in
    let same : p * (2 * n) ≡ u * (2 * limit) = omega (arith, ap (λ (x : ℕ). x * u) e) in
    tests_agree (suc (q * k)) limit (suc q) p (λ l. lt_of_mul-lt-mul_right k (rw e l)) (λ l. rw (← e) (mul-lt-mul_of_pos_right l j))
    ∙ div_test (2 * m + n) (2 * n) p (omega arith)
    ∙ rw (doubled, same)

-- eight digits beside the minus and the point; without a point there would be nine
eight_digits : (d n : ℕ) → d ≤ 6 → (d ≡ 0 → n < 100_000_000) → fits_field false d (neg_ℤ (pos n)) ≡ ltb n 100_000_000
eight_digits d zero h small = facts_fit false d (pos 0) (le-leb d 6 h) (one-le-pow _ 10 (omega arith))
eight_digits zero (suc n) h small =
    rw (lt-ltb (suc n) 100_000_000 (small refl)) (facts_fit false 0 (negsuc n) (le-leb 0 6 h) (omega (arith, small refl)))
eight_digits (suc d) (suc n) h small = rw (fits_limit false (suc d) (negsuc n), le-leb (suc d) 6 h, le-ltb (suc d) 1 (omega arith))

-- coarse seven, beside a minus and a point
seven_digits : (d n : ℕ) → suc d ≤ 5 → fits_field true (suc d) (neg_ℤ (pos n)) ≡ ltb n 10_000_000
seven_digits d zero h = facts_fit true (suc d) (pos 0) (rw (le-leb 1 (suc d) (omega arith)) (le-leb (suc d) 5 h)) (one-le-pow _ 10 (omega arith))
seven_digits d (suc n) h =
    rw (fits_limit true (suc d) (negsuc n), le-leb 1 (suc d) (omega arith), le-leb (suc d) 5 h, le-ltb (suc d) 1 (omega arith))

step_divides : (r : Resolution) → allowed_resolution r ≡ true → 100_000_000 / r.step * r.step ≡ 100_000_000
step_divides r h = ⊎_elim (λ e. rw e) (λ e. ⊎_elim (λ e. rw e) (λ e. rw e) e) (allowed_step r h)

step_divides_seven : (r : Resolution) → allowed_resolution r ≡ true → 10_000_000 / r.step * r.step ≡ 10_000_000
step_divides_seven r h = ⊎_elim (λ e. rw e) (λ e. ⊎_elim (λ e. rw e) (λ e. rw e) e) (allowed_step r h)

-- micrograms, before they are divided by the display step
abbrev pub scaled : Resolution → ℕ → ℕ
scaled r m = m * (1000 * 10 ^ r.decimals)

abbrev pub display_step : Resolution → ℕ
display_step r = r.step * nanograms_of r.unit

module _ (r : Resolution) (m : ℕ) (allowed : allowed_resolution r ≡ true) where
  -- whether the number of m micrograms is below 10^8
  places_test : ltb (natural_places r m) 100_000_000 ≡ ltb (scaled r m + scaled r m + display_step r) (nanograms_of r.unit * 200_000_000)
  places_test =
      step_test_lem
      100_000_000
      (scaled r m)
      (nanograms_of r.unit)
      r.step
      (100_000_000 / r.step)
      (nanograms_positive r.unit)
      (allowed_step_positive r allowed)
      (step_divides r allowed)

  module _ (small : m < 2 ^ 32) where
    -- without decimals it always is, since every unit has a million nanograms or more
    few_places : r.decimals ≡ 0 → natural_places r m < 100_000_000
    few_places e =
        let whole : scaled r m ≡ m * 1000 = rw e in
        let step : display_step r ≤ 5 * nanograms_of r.unit = mul-le-mul_right (nanograms_of r.unit) (allowed_step_limit r allowed) in
        let below : scaled r m + scaled r m + display_step r < nanograms_of r.unit * 200_000_000 = omega (arith, nanograms_least r.unit) in
        ltb-true _ _ (places_test ∙ lt-ltb _ _ below)

    below_zero_test : ltb (2 * scaled r m + 1 * display_step r) (nanograms_of r.unit * 200_000_000) ≡ fits_below_zero r m
    below_zero_test =
        let same : 2 * scaled r m + 1 * display_step r ≡ scaled r m + scaled r m + display_step r = omega arith in
        rw (same, allowed, places_of_negated r m, eight_digits r.decimals (natural_places r m) (allowed_decimals r allowed) few_places)
        (sym places_test)

-- whether it is allowed or not
pub below_zero_short : (r : Resolution) (m : ℕ) → m < 2 ^ 32 → is_short 1 r m ≡ fits_below_zero r m
below_zero_short r m small = go (allowed_resolution r) refl
  where
    go : (b : Bool) → allowed_resolution r ≡ b → is_short 1 r m ≡ fits_below_zero r m
    go true e = ap (λ (t : Bool). t && ltb (2 * scaled r m + 1 * display_step r) (nanograms_of r.unit * 200_000_000)) e ∙ below_zero_test r m e small
    go false e = rw e

-- ---- the coarse range

-- one decimal more is ten times as much
ten_times : (d : ℕ) → 1 ≤ d → 10 ^ d ≡ 10 * 10 ^ (d - 1)
ten_times zero h = elim h [ ]
ten_times (suc d) h =
    let same : suc d - 1 ≡ d = omega arith in
    rw (pow-suc 10 d, same) (omega arith)

-- with one decimal fewer the step is still at least one microgram
pub coarse_allowed_lem : (r : Resolution) → 1 ≤ r.decimals → allowed_resolution r ≡ true → allowed_resolution (ranged true r) ≡ true
coarse_allowed_lem r some allowed =
    allowed_of (ranged true r) (omega (arith, allowed_decimals r allowed)) (allowed_known r allowed)
    (omega (arith, allowed_least_step r allowed, ten_times r.decimals some))

module _ (r : Resolution) (m : ℕ) (two : 2 ≤ r.decimals) (allowed : allowed_resolution r ≡ true) where
  abbrev coarse : Resolution
  coarse = ranged true r

  -- the number has seven digits, and seven digits of coarse places are eight of fine ones
  coarse_test : ltb (2 * scaled r m + 10 * display_step r) (nanograms_of r.unit * 200_000_000) ≡ fits_coarse r m
  coarse_test =
      let held : allowed_resolution coarse ≡ true = coarse_allowed_lem r (omega (arith, two)) allowed in
      let scale : scaled r m ≡ 10 * scaled coarse m = omega (arith, ap (λ (x : ℕ). m * (1000 * x)) (ten_times r.decimals (omega (arith, two)))) in
      let left : 2 * scaled r m + 10 * display_step r ≡ 10 * (scaled coarse m + scaled coarse m + display_step coarse) = omega (arith, scale) in
      let right : nanograms_of r.unit * 200_000_000 ≡ 10 * (nanograms_of r.unit * (2 * 10_000_000)) = omega arith in
      let x : ℕ = scaled coarse m + scaled coarse m + display_step coarse in
      let y : ℕ = nanograms_of r.unit * (2 * 10_000_000) in
      rw (left, right, le-leb 2 r.decimals two, allowed, places_of_negated coarse m)
      (tests_agree (suc (10 * x)) (10 * y) (suc x) y (λ h. omega arith) (λ h. omega arith)
      ∙ sym (step_test_lem 10_000_000 (scaled coarse m) (nanograms_of r.unit) r.step (10_000_000 / r.step)
      (nanograms_positive r.unit) (allowed_step_positive r allowed) (step_divides_seven r allowed))
      ∙ sym (seven r.decimals (natural_places coarse m) two (allowed_decimals r allowed)))
    where
      seven : (d n : ℕ) → 2 ≤ d → d ≤ 6 → fits_field true (d - 1) (neg_ℤ (pos n)) ≡ ltb n 10_000_000
      seven (suc (suc d)) n h k =
          let same : suc (suc d) - 1 ≡ suc d = omega arith in
          rw same (seven_digits d n (omega arith))
      seven (suc zero) n h k = absurd (omega arith)
      seven zero n h k = absurd (omega arith)

pub coarse_short : (r : Resolution) (m : ℕ) → 2 ≤ r.decimals → is_short 10 r m ≡ fits_coarse r m
coarse_short r m two = go (allowed_resolution r) refl
  where
    go : (b : Bool) → allowed_resolution r ≡ b → is_short 10 r m ≡ fits_coarse r m
    go true e = ap (λ (t : Bool). t && ltb (2 * scaled r m + 10 * display_step r) (nanograms_of r.unit * 200_000_000)) e ∙ coarse_test r m two e
    go false e = rw (le-leb 2 r.decimals two, e)
