-- A typed number whose product with its unit would leave a word is above every capacity.
-- Assumes nothing.
use mathlib.Core.Path.{◌≡◌, sym, ◌∙◌}
use Prim.Native.Nat.{ℕ, suc, ◌*◌, ◌^◌, ◌≤◌, ◌<◌}
use native.Mathlib.Nat.{mul-le-mul, mul-le-mul_right, lt_of_le_of_lt, lt_of_not-le}
use native.Mathlib.Omega.{arith}
use borrow.Author.Tests.{le-leb, lt-leb}
use Rattle.std.specs.Prelude.{Ok, Err}
use Rattle.weight.specs.declared.units.WeightUnit.{WeightUnit}
use Rattle.weight.specs.declared.amount.NoAmount.TheVariants.{TooLarge, NotTyped}
use Rattle.weight.specs.Units.{nanograms_of}
use Rattle.weight.specs.Rounding.{half_up}
use Rattle.weight.specs.Amounts.{MostPlaces, typed_micrograms, largest_capacity, amount_of, typed_amount}
use Rattle.weight.proofs.Allowed.{power_positive}
use Rattle.weight.proofs.HalfUp.{half_up_tie_up}
use Rattle.weight.proofs.Range.{scale_limit}

module _ (u : WeightUnit) (n v : ℕ) (most : MostPlaces u n) where
  pub product_small : v ≤ n → v * nanograms_of u < 2 ^ 63
  product_small h = lt_of_le_of_lt (mul-le-mul_right (nanograms_of u) h) most.fits

  -- rounded down to a capacity, it would be far off
  never_small : (d : ℕ) → d ≤ 6 → n < v → typed_micrograms u d v ≤ largest_capacity → ⊥
  unfolding typed_micrograms
  never_small d few h small =
      let by : ℕ = 1000 * 10 ^ d in
      let exact : ℕ = v * nanograms_of u in
      let large : suc n * nanograms_of u ≤ exact = mul-le-mul_right (nanograms_of u) h in
      let positive : 0 < by = omega (arith, power_positive d) in
      let product : by * half_up exact by ≤ 1_000_000_000 * largest_capacity = mul-le-mul (scale_limit d few) small in
      omega (arith, most.above, half_up_tie_up exact by positive, scale_limit d few)

  pub too_large : (d : ℕ) → d ≤ 6 → n < v → largest_capacity < typed_micrograms u d v
  too_large d few h = lt_of_not-le (never_small d few h)

pub amount_large : (m : ℕ) → largest_capacity < m → Err TooLarge ≡ amount_of m
unfolding amount_of
amount_large m h = rw (lt-leb m largest_capacity h)

pub amount_small : (m : ℕ) → m ≤ largest_capacity → Ok (record { 0 = m }) ≡ amount_of m
unfolding amount_of
amount_small m h = rw (le-leb m largest_capacity h)

-- ---- the test of the decimals

module _ (u : WeightUnit) (d v : ℕ) where
  pub not_typed : 6 < d → Err NotTyped ≡ typed_amount u d v
  unfolding typed_amount
  not_typed h = rw (lt-leb d 6 h)

  pub typed_amount_lem : d ≤ 6 → typed_amount u d v ≡ amount_of (typed_micrograms u d v)
  unfolding typed_amount
  typed_amount_lem h = rw (le-leb d 6 h)

  -- ---- each way to an amount

  pub typed_far : {n : ℕ} → d ≤ 6 → MostPlaces u n → n < v → Err TooLarge ≡ typed_amount u d v
  typed_far {n} few most h = amount_large _ (too_large u n v most d few h) ∙ sym (typed_amount_lem few)

  -- n nanograms, rounded by the scale s
  module _ (few : d ≤ 6) {n s m : ℕ} (unit : n ≡ nanograms_of u) (scale : s ≡ 1000 * 10 ^ d) (rounded : m ≡ half_up (v * n) s) where
    amount_is : amount_of m ≡ typed_amount u d v
    unfolding typed_micrograms
    amount_is = rw (typed_amount_lem few, rounded, unit, scale)

    pub typed_large : largest_capacity < m → Err TooLarge ≡ typed_amount u d v
    typed_large h = amount_large m h ∙ amount_is

    pub typed_small : m ≤ largest_capacity → Ok (record { 0 = m }) ≡ typed_amount u d v
    typed_small h = amount_small m h ∙ amount_is
