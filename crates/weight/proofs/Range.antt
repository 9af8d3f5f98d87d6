-- In the range of nets no product leaves a machine word.
-- Assumes nothing.
use mathlib.Core.Path.{◌≡◌, refl, ◌∙◌}
use mathlib.Core.Bool.{true}
use Prim.Native.Nat.{ℕ, suc, ◌+◌, ◌*◌, ◌<◌, ◌≤◌, ◌^◌}
use native.Mathlib.Nat.{mul-le-mul, mul-le-mul_left, mul_comm, mul_left_comm, mul-add, mul-one, le_trans, lt_of_le_of_lt, le_of_suc-le-suc, le_of_mul-le-mul_left}
use native.Mathlib.Omega.{arith}
use borrow.Author.Tests.{leb-true}
use lib.Dec.{lit<}
use lib.IntN.{ℤ, pos, negsuc, nat_abs, ◌*ℤ◌}
use mir.Syntax.{w32, w64}
use mir.Val.{Fits, SFits, to_z}
use mir.Facts.{Fits-lt-pow, to_z-of_z, to_z_pos}
use Rattle.weight.specs.declared.rounding.Resolution.{Resolution}
use Rattle.weight.specs.Units.{nanograms_of}
use Rattle.weight.specs.Rounding.{allowed_resolution, half_up, round_away, steps_of, in_range, net_limit}
use Rattle.weight.proofs.Allowed.{allowed_decimals, allowed_step_limit, allowed_least_step, allowed_divisor_positive, power_limit, power_positive}
use Rattle.weight.proofs.HalfUp.{half_up_not_over}
use Rattle.weight.proofs.Nearest.{size_fits, word}
use Rattle.weight.proofs.Nearness.{size_opposite}

pub size_product : (z : ℤ) (n : ℕ) → nat_abs (z *ℤ pos n) ≡ nat_abs z * n
size_product (pos m) n = refl
size_product (negsuc m) n = size_opposite (suc m * n)

pub size_rounded : (z : ℤ) (n : ℕ) → nat_abs (round_away z n) ≡ half_up (nat_abs z) n
unfolding round_away
size_rounded (pos m) n = refl
size_rounded (negsuc m) n = size_opposite (half_up (suc m) n)

pub scale_limit : (d : ℕ) → d ≤ 6 → 1000 * 10 ^ d ≤ 1_000_000_000
scale_limit d h = omega (arith, power_limit d h)

-- a size in a word, scaled
pub size_scaled : {m s : ℕ} (d : ℕ) → m < 2 ^ 32 → d ≤ 6 → s ≡ 1000 * 10 ^ d → m * s ≤ 4_294_967_295 * 1_000_000_000
size_scaled {s} d h few e = let scale : s ≤ 1_000_000_000 = omega (arith, scale_limit d few) in mul-le-mul (le_of_suc-le-suc h) scale

pub scaled_size_fits : {m s : ℕ} (d : ℕ) → Fits w32 m → d ≤ 6 → s ≡ 1000 * 10 ^ d → Fits w64 (m * s)
scaled_size_fits d h few e = record { fits = omega (arith, size_scaled d (Fits-lt-pow h) few e) }

pub scale_positive : {s : ℕ} (d : ℕ) → s ≡ 1000 * 10 ^ d → 0 < s
scale_positive d e = omega (arith, power_positive d)

few : (size scale by rounded : ℕ) → 0 < by → scale ≤ by → 2 * (by * rounded) ≤ 2 * (size * scale) + by → rounded ≤ size
few size scale by rounded h k near =
    let most : size * scale ≤ size * by = mul-le-mul_left size k in
    let turned : size * by ≡ by * size = mul_comm size by in
    let both : by * (2 * rounded) ≤ by * (2 * size + 1) = simp (mul-add, mul_left_comm, mul-one) (omega arith) in
    omega (arith, le_of_mul-le-mul_left both h)

module _ (r : Resolution) (net : ℤ) (allowed : allowed_resolution r ≡ true) (near : in_range net ≡ true) where
  pub scaled_small : nat_abs (net *ℤ pos (1000 * 10 ^ r.decimals)) < 2 ^ 63
  scaled_small =
      rw size_product
      (lt_of_le_of_lt (mul-le-mul (leb-true (nat_abs net) net_limit near) (scale_limit r.decimals (allowed_decimals r allowed))) (lit< tt))

  pub scaled_fits : SFits w64 (net *ℤ pos (1000 * 10 ^ r.decimals))
  scaled_fits = size_fits _ scaled_small

  -- a step is at least a microgram, so there are no more steps than micrograms
  steps_within : nat_abs (steps_of r net) ≤ nat_abs net
  unfolding steps_of
  steps_within =
      rw (size_rounded, size_product)
      (few (nat_abs net) (1000 * 10 ^ r.decimals) (r.step * nanograms_of r.unit) _ (allowed_divisor_positive r allowed)
      (allowed_least_step r allowed) (half_up_not_over _ _))

  pub places_fit : SFits w64 (steps_of r net *ℤ pos r.step)
  places_fit =
      size_fits _ (rw size_product
      (lt_of_le_of_lt (mul-le-mul (le_trans steps_within (leb-true (nat_abs net) net_limit near)) (allowed_step_limit r allowed)) (lit< tt)))

-- ---- the same in machine words

module _ (r : Resolution) (net : ℤ) (allowed : allowed_resolution r ≡ true) (near : in_range net ≡ true) {s : ℕ} (scale : s ≡ 1000 * 10 ^ r.decimals) where
  pub scale_word : SFits w64 (pos s)
  scale_word = record { sfits = omega (arith, scale_limit r.decimals (allowed_decimals r allowed)) }

  net_word : SFits w64 net
  net_word = size_fits net (lt_of_le_of_lt (leb-true (nat_abs net) net_limit near) (lit< tt))

  product_is : word net *ℤ to_z w64 s ≡ net *ℤ pos (1000 * 10 ^ r.decimals)
  product_is = rw (to_z-of_z net_word, to_z_pos w64 scale_word.sfits, scale)

  pub product_word : SFits w64 (word net *ℤ to_z w64 s)
  product_word = rw product_is (scaled_fits r net allowed near)

  product_again : word (word net *ℤ to_z w64 s) ≡ net *ℤ pos (1000 * 10 ^ r.decimals)
  product_again = to_z-of_z product_word ∙ product_is

  pub product_small : nat_abs (word (word net *ℤ to_z w64 s)) < 2 ^ 63
  product_small = rw product_again (scaled_small r net allowed near)

  pub steps_word : {d : ℕ} {q : ℤ} → d ≡ r.step * nanograms_of r.unit → q ≡ round_away (word (word net *ℤ to_z w64 s)) d → word q ≡ steps_of r net
  unfolding steps_of
  steps_word {d} {q} divisor e =
      let steps : q ≡ steps_of r net = rw product_again at (rw divisor at e) in
      rw steps (to_z-of_z (size_fits _ (lt_of_le_of_lt (le_trans (steps_within r net allowed near) (leb-true (nat_abs net) net_limit near)) (lit< tt))))
