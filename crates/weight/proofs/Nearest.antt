-- Rounding away from zero by one signed division: which quotient it is, by the rest.
-- Assumes nothing.
use mathlib.Core.Path.{◌≡◌, refl, sym, ap, ◌∙◌}
use mathlib.Core.Bool.{true, false, not}
use Prim.Native.Nat.{ℕ, zero, suc, ◌+◌, ◌/◌, ◌%◌, ◌<◌, ◌≤◌, ◌^◌}
use native.Mathlib.Nat.{lt_of_le_of_lt}
use native.Mathlib.Omega.{arith}
use native.Mathlib.Numerals.{add-one}
use lib.IntN.{ℤ, pos, negsuc, neg_ℤ, nat_abs, ◌+ℤ◌, ◌-ℤ◌, -ℤ_one, pred_ℤ}
use lib.Signed.{non_neg, quot_z, rem_z, lt_z}
use mir.Syntax.{w64}
use mir.Val.{SFits, to_z, of_z}
use mir.Facts.{to_z-of_z}
use Rattle.weight.specs.Rounding.{round_away}
use Rattle.weight.proofs.HalfUp.{half_up_stays, half_up_rises, half_up_within}
use Rattle.weight.proofs.Machine.{quotient_fits, rest_fits, negative_gives}
use Rattle.weight.proofs.Nearness.{size_opposite}

-- the size of the rest is the rest of the size
pub rest_size : (x : ℤ) (n : ℕ) → nat_abs (rem_z x (pos n)) ≡ nat_abs x % n
rest_size (pos m) n = refl
rest_size (negsuc m) n = size_opposite (suc m % n)

-- one further from zero
neg_less : (m : ℕ) → pred_ℤ (neg_ℤ (pos m)) ≡ neg_ℤ (pos (suc m))
neg_less zero = refl
neg_less (suc m) = refl

pub stays : (x : ℤ) (n : ℕ) → 0 < n → nat_abs (rem_z x (pos n)) + nat_abs (rem_z x (pos n)) < n → quot_z x (pos n) ≡ round_away x n
unfolding round_away
stays (pos m) n h k = ap pos (sym (half_up_stays m n h (omega arith)))
stays (negsuc m) n h k =
    ap (λ (q : ℕ). neg_ℤ (pos q)) (sym (half_up_stays (suc m) n h (omega (arith, size_opposite (suc m % n)))))

pub rises : (x : ℤ) (n : ℕ) → 0 < n → n ≤ nat_abs (rem_z x (pos n)) + nat_abs (rem_z x (pos n)) → not (non_neg x) ≡ false
    → quot_z x (pos n) +ℤ pos 1 ≡ round_away x n
unfolding round_away
rises (pos m) n h k e = ap pos (sym (half_up_rises m n h (omega arith)))
rises (negsuc m) n h k e = let z : ◌≡◌ {A = ℕ} 0 1 = cc in absurd (omega arith)

pub falls : (x : ℤ) (n : ℕ) → 0 < n → n ≤ nat_abs (rem_z x (pos n)) + nat_abs (rem_z x (pos n)) → not (non_neg x) ≡ true
    → quot_z x (pos n) +ℤ negsuc 0 ≡ round_away x n
unfolding round_away
falls (pos m) n h k e = let z : ◌≡◌ {A = ℕ} 0 1 = cc in absurd (omega arith)
falls (negsuc m) n h k e =
    -ℤ_one (neg_ℤ (pos (suc m / n)))
    ∙ neg_less (suc m / n)
    ∙ ap (λ (q : ℕ). neg_ℤ (pos q)) (sym (add-one (suc m / n)) ∙ sym (half_up_rises (suc m) n h (omega (arith, size_opposite (suc m % n)))))

away_within : (x : ℤ) (n : ℕ) → 0 < n → nat_abs (round_away x n) ≤ nat_abs x
unfolding round_away
away_within (pos m) n h = half_up_within m n h
away_within (negsuc m) n h = rw size_opposite (half_up_within (suc m) n h)

pub size_fits : (z : ℤ) → nat_abs z < 2 ^ 63 → SFits w64 z
size_fits (pos m) h = record { sfits = h }
size_fits (negsuc m) h = record { sfits = omega arith }

pub away_fits : (x : ℤ) (n : ℕ) → 0 < n → nat_abs x < 2 ^ 63 → SFits w64 (round_away x n)
away_fits x n h k = size_fits (round_away x n) (lt_of_le_of_lt (away_within x n h) k)

-- ---- the same in machine words

abbrev pub word : ℤ → ℤ
word z = to_z w64 (of_z w64 z)

module _ (x : ℤ) (n : ℕ) (h : 0 < n) (small : nat_abs x < 2 ^ 63) {q z : ℤ} {s : ℕ}
    (quotient : q ≡ quot_z (word x) (pos n)) (rest : z ≡ rem_z (word x) (pos n)) (size : s ≡ nat_abs (word z)) where
  known : SFits w64 x
  known = size_fits x small

  divided : word q ≡ quot_z x (pos n)
  divided = rw (quotient, to_z-of_z known) (to_z-of_z (quotient_fits n known))

  left : s ≡ nat_abs (rem_z x (pos n))
  left = rw (size, rest, to_z-of_z known, to_z-of_z (rest_fits n known))

  rounded : {y : ℤ} → y ≡ round_away x n → word y ≡ round_away x n
  rounded e = rw e (to_z-of_z (away_fits x n h small))

  pub word_stays : s + s < n → word q ≡ round_away x n
  word_stays k = divided ∙ stays x n h (rw left at k)

  pub word_rises : n ≤ s + s → lt_z (word x) (pos 0) ≡ false → word (word q +ℤ pos 1) ≡ round_away x n
  word_rises k e = rounded (ap (λ (v : ℤ). v +ℤ pos 1) divided ∙ rises x n h (rw left at k) (sym (negative_gives x known) ∙ e))

  pub word_falls : n ≤ s + s → lt_z (word x) (pos 0) ≡ true → word (word q -ℤ pos 1) ≡ round_away x n
  word_falls k e = rounded (ap (λ (v : ℤ). v -ℤ pos 1) divided ∙ falls x n h (rw left at k) (sym (negative_gives x known) ∙ e))
