-- A typed tare: what it is stored and shown as, and what typing the shown number again gives.
-- Assumes nothing.
use Prim.Native.Nat.{ℕ, ◌+◌, ◌*◌, ◌^◌, ◌≤◌, ◌<◌}
use native.Mathlib.Nat.{mul-pos, mul-le-mul, mul-le-mul_right, le_of_mul-le-mul_left, eq-or-lt_of_le}
use native.Mathlib.Omega.{arith}
use mathlib.Core.Path.{◌≡◌, ap, ◌∙◌}
use mathlib.Core.Logic.{◌⊎◌, inl, inr}
use mathlib.Core.Bool.{true, false, ◌&&◌}
use lib.Dec.{leb}
use lib.IntN.{pos}
use mir.Syntax.{w64}
use mir.Val.{Fits}
use Rattle.std.specs.Prelude.{Result, Err}
use Rattle.weight.specs.declared.rounding.Allowed.{Allowed}
use Rattle.weight.specs.declared.rounding.Resolution.{Resolution}
use Rattle.weight.specs.Units.{nanograms_of}
use Rattle.weight.specs.Rounding.{allowed_resolution, half_up, places_of, exact_femtograms, Near}
use Rattle.weight.specs.declared.amount.NoAmount.{NoAmount}
use Rattle.weight.specs.declared.amount.NoAmount.TheVariants.{NotTyped}
use Rattle.weight.specs.declared.amount.Tare.{Tare}
use Rattle.weight.specs.Amounts.{typed_micrograms, typed_amount}
use Rattle.weight.specs.Presets.{largest_typed, preset_steps, preset_places, preset_micrograms, preset_femtograms, preset_amount}
use Rattle.weight.proofs.Allowed.{allowed_decimals, allowed_least_step, allowed_step_positive, allowed_step_limit, power_positive, power_limit}
use Rattle.weight.proofs.HalfStep.{typed_near, typed_rounded}
use Rattle.weight.proofs.HalfUp.{half_up_not_over, half_up_tie_up, half_up_only, half_up_scaled}
use Rattle.weight.proofs.Monotone.{places_of_pos}
use Rattle.weight.proofs.Range.{scale_limit}
use Rattle.weight.proofs.TypedLimit.{typed_amount_lem}

-- ---- the first rounding

-- a factor of both cancels
pub preset_scaled
    : (r : Resolution) (d v : ℕ)
    → 0 < r.step
    → half_up (v * (1000 * 10 ^ r.decimals)) (r.step * (1000 * 10 ^ d)) ≡ preset_steps r d v
unfolding preset_steps
preset_scaled r d v h =
    ap (λ (x : ℕ). half_up x (r.step * (1000 * 10 ^ d))) (omega arith)
    ∙ half_up_scaled (v * 10 ^ r.decimals) (r.step * 10 ^ d) 1000 (r.step * (1000 * 10 ^ d)) (omega arith) (mul-pos h (power_positive d)) (omega arith)

-- for a number of ten digits nothing leaves a word: neither what is divided
pub preset_exact_small : (d v : ℕ) → d ≤ 6 → v ≤ largest_typed → v * (1000 * 10 ^ d) + 1 < 2 ^ 64
preset_exact_small d v few small = omega (arith, mul-le-mul small (scale_limit d few))

-- nor what it is divided by
pub preset_by_small : (r : Resolution) (d : ℕ) → allowed_resolution r ≡ true → d ≤ 6
    → (0 < r.step * (1000 * 10 ^ d)) × (r.step * (1000 * 10 ^ d) < 2 ^ 62)
preset_by_small r d allowed few = (
  mul-pos (allowed_step_positive r allowed) (mul-pos {m = 1000} (omega arith) (power_positive d)),
  omega (arith, mul-le-mul (allowed_step_limit r allowed) (scale_limit d few)),
)

-- nor the decimal
pub preset_places_small : (r : Resolution) (d v : ℕ) → allowed_resolution r ≡ true → d ≤ 6 → v ≤ largest_typed → preset_places r d v < 2 ^ 64
unfolding preset_places preset_steps
preset_places_small r d v allowed few small =
    let steps : ℕ = half_up (v * 10 ^ r.decimals) (r.step * 10 ^ d) in
    let most : v * 10 ^ r.decimals ≤ largest_typed * 1_000_000 = mul-le-mul small (power_limit r.decimals (allowed_decimals r allowed)) in
    let by : r.step * 10 ^ d ≤ 5 * 1_000_000 = mul-le-mul (allowed_step_limit r allowed) (power_limit d few) in
    let grows : 1 * (steps * r.step) ≤ 10 ^ d * (steps * r.step) = mul-le-mul_right (steps * r.step) (power_positive d) in
    omega (arith, half_up_not_over (v * 10 ^ r.decimals) (r.step * 10 ^ d))

-- ---- the same of the scales s and t that the machine has

module _ (r : Resolution) (v : ℕ) (allowed : allowed_resolution r ≡ true) (small : v ≤ largest_typed) {s : ℕ} (scale : s ≡ 1000 * 10 ^ r.decimals) where
  pub exact_bound : v * s + 1 < 2 ^ 64
  exact_bound = rw scale (preset_exact_small r.decimals v (allowed_decimals r allowed) small)

  pub exact_fits : Fits w64 (v * s)
  exact_fits = record { fits = omega (arith, exact_bound) }

  module _ (d : ℕ) (few : d ≤ 6) {t : ℕ} (by : t ≡ 1000 * 10 ^ d) where
    pub by_positive : 0 < r.step * t
    by_positive = rw by (preset_by_small r d allowed few).0

    module _ {n : ℕ} (steps : n ≡ half_up (v * s) (r.step * t)) where
      pub places_are : n * r.step ≡ preset_places r d v
      unfolding preset_places
      places_are = ap (λ (x : ℕ). x * r.step) (rw (steps, scale, by) (preset_scaled r d v (allowed_step_positive r allowed)))

      pub places_fit_word : Fits w64 (n * r.step)
      places_fit_word = record { fits = omega (arith, places_are, preset_places_small r d v allowed few small) }

-- a number of whole steps with the resolution's decimals stays
pub preset_of_steps : (r : Resolution) (n : ℕ) → 0 < r.step → preset_steps r r.decimals (n * r.step) ≡ n
unfolding preset_steps
preset_of_steps r n h =
    let by : ℕ = r.step * 10 ^ r.decimals in
    let positive : 0 < by = mul-pos h (power_positive r.decimals) in
    half_up_only (n * r.step * 10 ^ r.decimals) by n positive (omega arith) (omega (arith, positive))

-- ---- the second

-- n steps of b to the nearest a, and that to the nearest b: no step is finer than a microgram, so they are n again
there_and_back : (a b n : ℕ) → 0 < a → a ≤ b → half_up (half_up (n * b) a * a) b ≡ n
there_and_back a b n h k =
    half_up_only (half_up (n * b) a * a) b n (omega arith)
    (omega (arith, half_up_tie_up (n * b) a h))
    (above (eq-or-lt_of_le k))
  where
    above : (a ≡ b) ⊎ (a < b) → 2 * (half_up (n * b) a * a) < 2 * (b * n) + b
    above (inr less) = omega (arith, half_up_not_over (n * b) a)
    above (inl same) =
        let m : ℕ = half_up (n * b) a in
        let near : a * (2 * m) ≤ a * (2 * n + 1) = omega (arith, half_up_not_over (n * b) a, ap (λ (x : ℕ). n * x) same) in
        let most : m ≤ n = omega (arith, le_of_mul-le-mul_left near h) in
        omega (arith, mul-le-mul_right a most, ap (λ (x : ℕ). n * x) same)

module _ (r : Resolution) (d v : ℕ) (allowed : allowed_resolution r ≡ true) where
  -- the stored tare is printed as the rounded decimal
  pub preset_printed : places_of r (pos (preset_micrograms r d v)) ≡ pos (preset_places r d v)
  unfolding preset_micrograms typed_micrograms preset_places
  preset_printed =
      places_of_pos r _
      ∙ ap (λ (x : ℕ). pos (x * r.step))
      (ap (λ (x : ℕ). half_up (half_up x (1000 * 10 ^ r.decimals) * (1000 * 10 ^ r.decimals)) (r.step * nanograms_of r.unit)) (omega arith)
      ∙ there_and_back (1000 * 10 ^ r.decimals) (r.step * nanograms_of r.unit) (preset_steps r d v)
      (mul-pos {m = 1000} (omega arith) (power_positive r.decimals))
      (allowed_least_step r allowed))

  -- and typing that decimal gives it again
  pub preset_again : preset_micrograms r r.decimals (preset_places r d v) ≡ preset_micrograms r d v
  unfolding preset_micrograms preset_places
  preset_again =
      ap (λ (x : ℕ). typed_micrograms r.unit r.decimals (x * r.step)) (preset_of_steps r (preset_steps r d v) (allowed_step_positive r allowed))

  -- it is within half a microgram of the decimal, and the nearest
  pub preset_near : Near 1_000_000_000 (exact_femtograms (pos (preset_micrograms r d v))) (pos (preset_femtograms r d v))
  unfolding preset_micrograms preset_femtograms
  preset_near = typed_near r.unit r.decimals (preset_places r d v) (allowed_decimals r allowed)

  pub preset_rounded : preset_micrograms r d v ≡ half_up (preset_femtograms r d v) 1_000_000_000
  unfolding preset_micrograms preset_femtograms
  preset_rounded = typed_rounded r.unit r.decimals (preset_places r d v) (allowed_decimals r allowed)

-- ---- the tests

module _ (r : Resolution) (d v : ℕ) where
  pub preset_refused : allowed_resolution r ≡ false → Err NotTyped ≡ preset_amount r d v
  unfolding preset_amount
  preset_refused e = rw e

  module _ (a : Allowed) (same : a.resolution ≡ r) where
    allowed : allowed_resolution r ≡ true
    allowed = rw same at a.holds

    pub preset_not : (leb d 6 && leb v largest_typed) ≡ false → Err NotTyped ≡ preset_amount r d v
    unfolding preset_amount
    preset_not e = rw (allowed, e)

    pub preset_read : {places : ℕ} {n : Result Tare NoAmount} → (leb d 6 && leb v largest_typed) ≡ true
        → places ≡ preset_places a.resolution d v → n ≡ typed_amount r.unit r.decimals places → n ≡ preset_amount r d v
    unfolding preset_amount preset_micrograms
    preset_read {places} e found read =
        read ∙ typed_amount_lem r.unit r.decimals places (allowed_decimals r allowed) ∙ rw (found, same, allowed, e)
