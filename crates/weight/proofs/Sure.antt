-- With so few decimals that every net of a size fits, the step alone decides.
-- Assumes nothing.
use mathlib.Core.Path.{◌≡◌, refl, sym, ◌∙◌}
use mathlib.Core.Logic.{⊎_elim}
use mathlib.Core.Bool.{Bool, true, false, cond, not, ◌&&◌, ◌||◌, and-false, true≢false}
use Prim.Native.Nat.{ℕ, ◌+◌, ◌*◌, ◌^◌, ◌≤◌, ◌<◌}
use native.Mathlib.Nat.{mul-le-mul, mul-le-mul_right, pow-le-pow_right, lt_of_le_of_lt}
use native.Mathlib.Omega.{arith}
use borrow.Author.Tests.{le-leb, le-ltb, lt-ltb, leb-true, leb-false, ltb-false, not-false}
use lib.Dec.{leb, ltb, lit<, lit≤}
use Rattle.weight.specs.declared.rounding.Resolution.{Resolution}
use Rattle.weight.specs.declared.units.WeightUnit.{WeightUnit}
use Rattle.weight.specs.declared.units.WeightUnit.TheVariants.{G, Mg, Ct, Oz, Ozt, Gn, Dwt, Kg, Lb}
use Rattle.weight.specs.Units.{nanograms_of}
use Rattle.weight.specs.Rounding.{allowed_resolution}
use Rattle.weight.specs.Printing.{fits_below_zero, is_known_step, is_short, is_near, largest_reach, sure_decimals, surely_fits}
use Rattle.weight.proofs.Allowed.{both_left, both_right, neither_left, neither_right, known_step, few_decimals, too_many_decimals}
use Rattle.weight.proofs.BelowZero.{scaled, display_step, below_zero_short}

-- the sizes up to which the quick test's decimals are meant
abbrev pub reach_of : Bool → ℕ
reach_of near = cond near 600_000_000 largest_reach

-- with n decimals no step of a unit is below a microgram and every net up to m fits, whatever the step, also a coarse one of ten times
-- as much; with fewer than 6 of them the unit is so light that 2 x 10^8 of it stay within a word
pub record Sure (u : WeightUnit) (m n : ℕ) : Type 0 where
  pub few : n ≤ 6
  pub least : 1000 * 10 ^ n ≤ nanograms_of u
  pub fits : 2 * (m * (1000 * 10 ^ n)) + 50 * nanograms_of u < nanograms_of u * 200_000_000
  pub light : n < 6 → nanograms_of u ≤ 1_555_173_840

pub sure_of : (near : Bool) (u : WeightUnit) → Sure u (reach_of near) (sure_decimals near u)
sure_of true G = record { few = lit≤ tt; least = lit≤ tt; fits = lit< tt; light = λ h. lit≤ tt }
sure_of true Mg = record { few = lit≤ tt; least = lit≤ tt; fits = lit< tt; light = λ h. lit≤ tt }
sure_of true Ct = record { few = lit≤ tt; least = lit≤ tt; fits = lit< tt; light = λ h. lit≤ tt }
sure_of true Oz = record { few = lit≤ tt; least = lit≤ tt; fits = lit< tt; light = λ h. absurd (omega arith) }
sure_of true Ozt = record { few = lit≤ tt; least = lit≤ tt; fits = lit< tt; light = λ h. absurd (omega arith) }
sure_of true Gn = record { few = lit≤ tt; least = lit≤ tt; fits = lit< tt; light = λ h. lit≤ tt }
sure_of true Dwt = record { few = lit≤ tt; least = lit≤ tt; fits = lit< tt; light = λ h. lit≤ tt }
sure_of true Kg = record { few = lit≤ tt; least = lit≤ tt; fits = lit< tt; light = λ h. absurd (omega arith) }
sure_of true Lb = record { few = lit≤ tt; least = lit≤ tt; fits = lit< tt; light = λ h. absurd (omega arith) }
sure_of false G = record { few = lit≤ tt; least = lit≤ tt; fits = lit< tt; light = λ h. lit≤ tt }
sure_of false Mg = record { few = lit≤ tt; least = lit≤ tt; fits = lit< tt; light = λ h. lit≤ tt }
sure_of false Ct = record { few = lit≤ tt; least = lit≤ tt; fits = lit< tt; light = λ h. lit≤ tt }
sure_of false Oz = record { few = lit≤ tt; least = lit≤ tt; fits = lit< tt; light = λ h. absurd (omega arith) }
sure_of false Ozt = record { few = lit≤ tt; least = lit≤ tt; fits = lit< tt; light = λ h. absurd (omega arith) }
sure_of false Gn = record { few = lit≤ tt; least = lit≤ tt; fits = lit< tt; light = λ h. lit≤ tt }
sure_of false Dwt = record { few = lit≤ tt; least = lit≤ tt; fits = lit< tt; light = λ h. lit≤ tt }
sure_of false Kg = record { few = lit≤ tt; least = lit≤ tt; fits = lit< tt; light = λ h. absurd (omega arith) }
sure_of false Lb = record { few = lit≤ tt; least = lit≤ tt; fits = lit< tt; light = λ h. absurd (omega arith) }

module _ (r : Resolution) (m : ℕ) (near : Bool) (few : r.decimals ≤ sure_decimals near r.unit) (small : m ≤ reach_of near) (e : is_known_step r.step ≡ true) where
  abbrev sure : Sure r.unit (reach_of near) (sure_decimals near r.unit)
  sure = sure_of near r.unit

  up_to_six : r.decimals ≤ 6
  up_to_six = omega (arith, sure.few)

  scale_least : 1000 * 10 ^ r.decimals ≤ 1000 * 10 ^ sure_decimals near r.unit
  scale_least =
      let powers : 10 ^ r.decimals ≤ 10 ^ sure_decimals near r.unit = pow-le-pow_right (omega arith) few in
      omega arith

  positive : 1 ≤ r.step
  positive = ⊎_elim (λ e. omega arith) (λ e. ⊎_elim (λ e. omega arith) (λ e. omega arith) e) (known_step r.step e)

  limited : r.step ≤ 5
  limited = ⊎_elim (λ e. omega arith) (λ e. ⊎_elim (λ e. omega arith) (λ e. omega arith) e) (known_step r.step e)

  sure_allowed : allowed_resolution r ≡ true
  sure_allowed =
      let least : 1 * nanograms_of r.unit ≤ r.step * nanograms_of r.unit = mul-le-mul_right (nanograms_of r.unit) positive in
      sym (few_decimals r up_to_six)
      ∙ rw (e, le-leb (1000 * 10 ^ r.decimals) (r.step * nanograms_of r.unit) (omega (arith, scale_least, sure.least)))

  -- what is asked for one step more is so for up to ten
  pub sure_short : (n : ℕ) → n ≤ 10 → true ≡ is_short n r m
  sure_short n few =
      let scaledMost : scaled r m ≤ reach_of near * (1000 * 10 ^ sure_decimals near r.unit) = mul-le-mul small scale_least in
      let stepMost : display_step r ≤ 5 * nanograms_of r.unit = mul-le-mul_right (nanograms_of r.unit) limited in
      let stepsMost : n * display_step r ≤ 10 * (5 * nanograms_of r.unit) = mul-le-mul few stepMost in
      rw sure_allowed (sym (lt-ltb (2 * scaled r m + n * display_step r) (nanograms_of r.unit * 200_000_000) (omega (arith, sure.fits))))

-- a size below the largest reach is a word's
pub in_word_lem : (m : ℕ) → m ≤ largest_reach → m < 2 ^ 32
in_word_lem m small = lt_of_le_of_lt small (lit< tt)

-- an unknown step is not allowed
pub unknown_step : (r : Resolution) → is_known_step r.step ≡ false → allowed_resolution r ≡ false
unfolding allowed_resolution
unknown_step r e = rw (e, and-false (leb r.decimals 6))

-- ---- each way of the test

module _ (r : Resolution) (m n : ℕ) {k : Bool} (known : k ≡ is_known_step r.step) where
  pub never_short : ltb largest_reach m || ltb 6 r.decimals || not k ≡ true → false ≡ (leb m largest_reach && is_short n r m)
  never_short e = go (leb m largest_reach) refl (leb r.decimals 6) refl k refl
    where
      go : (a : Bool) → leb m largest_reach ≡ a → (b : Bool) → leb r.decimals 6 ≡ b → (t : Bool) → k ≡ t → false ≡ (leb m largest_reach && is_short n r m)
      go false f b g t h = rw f
      go true f false g t h = rw (f, ← too_many_decimals r (leb-false r.decimals 6 g))
      go true f true g false h = rw (f, unknown_step r (sym known ∙ h))
      go true f true g true h = absurd (true≢false (sym e ∙ rw (le-ltb 6 r.decimals (leb-true r.decimals 6 g), le-ltb largest_reach m (leb-true m largest_reach f), h)))

  pub surely_short : n ≤ 10 → ltb largest_reach m || ltb 6 r.decimals || not k ≡ false → r.decimals ≤ sure_decimals false r.unit
      → true ≡ (leb m largest_reach && is_short n r m)
  surely_short few e sure =
      let reach : ltb largest_reach m ≡ false = neither_left (ltb largest_reach m) _ (neither_left (ltb largest_reach m || ltb 6 r.decimals) _ e) in
      let small : m ≤ largest_reach = ltb-false largest_reach m reach in
      rw (le-leb m largest_reach small) (sure_short r m false sure small (sym known ∙ not-false k (neither_right (ltb largest_reach m || ltb 6 r.decimals) _ e)) n few)

-- the quick test
pub surely_fits_lem : (r : Resolution) (m : ℕ) → surely_fits r m ≡ true → (leb m largest_reach && fits_below_zero r m) ≡ true
unfolding surely_fits
surely_fits_lem r m h =
    let first = both_left (leb m largest_reach && is_known_step r.step) (leb r.decimals (sure_decimals (is_near m) r.unit)) h in
    let few = leb-true r.decimals (sure_decimals (is_near m) r.unit) (both_right (leb m largest_reach && is_known_step r.step) (leb r.decimals (sure_decimals (is_near m) r.unit)) h) in
    let small = leb-true m largest_reach (both_left (leb m largest_reach) (is_known_step r.step) first) in
    let known = both_right (leb m largest_reach) (is_known_step r.step) first in
    rw (le-leb m largest_reach small, ← below_zero_short r m (in_word_lem m small)) (by (is_near m) refl few small known)
  where
    by : (near : Bool) → is_near m ≡ near → r.decimals ≤ sure_decimals near r.unit → m ≤ largest_reach → is_known_step r.step ≡ true → is_short 1 r m ≡ true
    by true e few small known = sym (sure_short r m true few (leb-true m 600_000_000 e) known 1 (omega arith))
    by false e few small known = sym (sure_short r m false few small known 1 (omega arith))
