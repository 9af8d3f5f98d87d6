-- Numbers by the pieces that the code lays: the digits before the last one, the last one, and the minus.
-- Assumes nothing.
use mathlib.Core.Path.{◌≡◌, refl, sym, ap, ◌∙◌}
use mathlib.Core.Bool.{Bool, true, false}
use mathlib.Core.List.{[], ◌∷◌, ◌++◌}
use Prim.Native.Nat.{ℕ, ◌+◌, ◌/◌, ◌%◌, ◌≤◌, ◌<◌}
use native.Mathlib.Nat.{not-suc-le-zero}
use native.Mathlib.Omega.{arith}
use borrow.Author.Tests.{ltb-true}
use lib.IntN.{ℤ, pos, negsuc, neg_ℤ, nat_abs}
use lib.Signed.{lt_z}
use Rattle.weight.specs.declared.rounding.Micrograms.{Micrograms}
use Rattle.weight.specs.Places.{digits_of, decimal_of, number_text}
use Rattle.weight.proofs.Digits.{digits_small, digits_step}
use Rattle.told.specs.declared.words.Sheet.{Sheet}
use Rattle.told.specs.Laying.{LaidOn}
use Rattle.told.specs.StateLines.{amount_text, only_if}
use Rattle.told.proofs.Laying.{laid_as, ◌then◌}

-- ---- digits

pub laid_digit : {a b : Sheet} (n : ℕ) → n < 10 → LaidOn a ((48 + n % 10) ∷ []) b → LaidOn a (digits_of n) b
laid_digit n h l =
    let same : n % 10 ≡ n = omega (arith, h) in
    laid_as (ap (λ (k : ℕ). (48 + k) ∷ []) same ∙ sym (digits_small n h)) l

pub laid_digits : {a b c : Sheet} (n : ℕ) → 10 ≤ n → LaidOn a (digits_of (n / 10)) b → LaidOn b ((48 + n % 10) ∷ []) c → LaidOn a (digits_of n) c
laid_digits n h l k = laid_as (sym (digits_step n h)) (l then k)

-- ---- amounts

never : {A : Type 0} → ◌≡◌ {A = ℕ} 0 1 → A
never e = absurd (omega arith)

above_zero_lem : (z : ℤ) → lt_z z (neg_ℤ (pos 0)) ≡ false → digits_of (nat_abs z) ≡ number_text 0 z
unfolding number_text decimal_of
above_zero_lem (pos m) h = refl
above_zero_lem (negsuc m) h = never cc

below_zero_lem : (z : ℤ) → lt_z z (neg_ℤ (pos 0)) ≡ true → (45 ∷ []) ++ digits_of (nat_abs z) ≡ number_text 0 z
unfolding number_text decimal_of
below_zero_lem (pos m) h = absurd (not-suc-le-zero (ltb-true m 0 h))
below_zero_lem (negsuc m) h = refl

pub laid_amount : {a b c : Sheet} (amount : Micrograms) {size : ℕ} {under : Bool} → size ≡ nat_abs amount.0 → under ≡ lt_z amount.0 (neg_ℤ (pos 0))
    → LaidOn a (only_if under (45 ∷ [])) b → LaidOn b (digits_of size) c → LaidOn a (amount_text amount) c
laid_amount amount {size} {under} sized u l k = laid_as (rw sized (by under u)) (l then k)
  where
    by : (x : Bool) → x ≡ lt_z amount.0 (neg_ℤ (pos 0)) → only_if x (45 ∷ []) ++ digits_of (nat_abs amount.0) ≡ number_text 0 amount.0
    by true e = below_zero_lem amount.0 (sym e)
    by false e = above_zero_lem amount.0 (sym e)
