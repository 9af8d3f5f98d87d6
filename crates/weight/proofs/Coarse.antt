-- The two ranges: what the coarse resolution keeps of the fine one, when the coarse one is in force, and each way of the test whether a
-- profile's nets fit coarse too.
-- Assumes nothing.
use mathlib.Core.Path.{◌≡◌, refl, sym, ap, ◌∙◌}
use mathlib.Core.Bool.{Bool, true, false, ◌&&◌, and-false}
use Prim.Native.Nat.{ℕ, suc, ◌+◌, ◌*◌, ◌^◌, ◌≤◌, ◌<◌}
use native.Mathlib.Nat.{mul-le-mul, mul-le-mul_right}
use native.Mathlib.Omega.{arith}
use borrow.Author.Tests.{le-leb, lt-ltb, leb-true, ltb-true}
use lib.Dec.{leb}
use lib.IntN.{ℤ, pos}
use lib.Signed.{lt_z}
use Rattle.weight.specs.declared.rounding.Resolution.{Resolution}
use Rattle.weight.specs.declared.units.WeightUnit.{WeightUnit}
use Rattle.weight.specs.Amounts.{MostPlaces}
use Rattle.weight.specs.Printing.{fits_below_zero, is_short, largest_reach}
use Rattle.weight.specs.Ranges.{ranged, resolution_at, is_typed_above, fits_coarse}
use Rattle.weight.specs.Rounding.{allowed_resolution}
use Rattle.weight.specs.Units.{nanograms_of}
use Rattle.weight.proofs.Allowed.{both_left, both_right}
use Rattle.weight.proofs.BelowZero as below
use Rattle.weight.proofs.Range.{scale_limit}
use Rattle.weight.proofs.Sure.{in_word_lem}

-- ---- the coarse resolution

-- is allowed where the fine one is
pub coarse_allowed_lem : (r : Resolution) → 1 ≤ r.decimals → allowed_resolution r ≡ true → allowed_resolution (ranged true r) ≡ true
coarse_allowed_lem r some allowed = below.coarse_allowed_lem r some allowed

-- a weight that is not above a limit is not above the fine one, where that is the same
pub fine_at : (fine : ℕ) (r : Resolution) (w : ℤ) → lt_z (pos fine) w ≡ false → resolution_at fine r w ≡ ranged false r
fine_at fine r w e = rw e

-- ---- a typed number

module _ (fine : ℕ) (u : WeightUnit) (d v : ℕ) where
  pub limit_small : fine < 2 ^ 32 → d ≤ 6 → fine * (1000 * 10 ^ d) < 2 ^ 63
  limit_small word few =
      let most : fine ≤ 4_294_967_295 = omega arith in
      let limit : fine * (1000 * 10 ^ d) ≤ 4_294_967_295 * 1_000_000_000 = mul-le-mul most (scale_limit d few) in
      omega arith

  pub far_above : {n : ℕ} → fine < 2 ^ 32 → d ≤ 6 → MostPlaces u n → n < v → true ≡ is_typed_above fine u d v
  far_above {n} word few most h =
      let large : suc n * nanograms_of u ≤ v * nanograms_of u = mul-le-mul_right (nanograms_of u) h in
      rw (le-leb d 6 few, lt-ltb (fine * (1000 * 10 ^ d)) (v * nanograms_of u) (omega (arith, limit_small word few, most.above)))

-- ---- nets that fit coarse

-- fit fine too: ten steps are more than one
pub coarse_fits_fine : (r : Resolution) (m : ℕ) → m < 2 ^ 32 → fits_coarse r m ≡ true → fits_below_zero r m ≡ true
coarse_fits_fine r m word h =
    let two = leb-true 2 r.decimals (both_left (leb 2 r.decimals) _ h) in
    let most : ℕ = nanograms_of r.unit * 200_000_000 in
    let short : is_short 10 r m ≡ true = below.coarse_short r m two ∙ h in
    let coarse : 2 * below.scaled r m + 10 * below.display_step r < most = ltb-true _ _ (both_right (allowed_resolution r) _ short) in
    let fine : 2 * below.scaled r m + 1 * below.display_step r < most = omega arith in
    sym (below.below_zero_short r m word) ∙ rw (both_left (allowed_resolution r) _ short) (lt-ltb _ _ fine)

-- the two tests, for a size that a profile can have
module _ (r : Resolution) (m : ℕ) {b : Bool} where
  pub short_fits : b ≡ (leb m largest_reach && is_short 1 r m) → b ≡ (leb m largest_reach && fits_below_zero r m)
  short_fits e = e ∙ go (leb m largest_reach) refl
    where
      go : (t : Bool) → leb m largest_reach ≡ t → (leb m largest_reach && is_short 1 r m) ≡ (leb m largest_reach && fits_below_zero r m)
      go true h = ap (λ (x : Bool). leb m largest_reach && x) (below.below_zero_short r m (in_word_lem m (leb-true m largest_reach h)))
      go false h = rw h

  pub short_coarse : b ≡ (leb m largest_reach && is_short 10 r m) → (leb 2 r.decimals && b) ≡ (leb m largest_reach && fits_coarse r m)
  short_coarse e = ap (λ (x : Bool). leb 2 r.decimals && x) e ∙ go (leb 2 r.decimals) refl
    where
      go : (t : Bool) → leb 2 r.decimals ≡ t → (leb 2 r.decimals && (leb m largest_reach && is_short 10 r m)) ≡ (leb m largest_reach && fits_coarse r m)
      go true h =
          ap (λ (x : Bool). x && (leb m largest_reach && is_short 10 r m)) h
          ∙ ap (λ (x : Bool). leb m largest_reach && x) (below.coarse_short r m (leb-true 2 r.decimals h))
      go false h = rw (h, and-false (leb m largest_reach))
