-- Rounding a natural number to the nearest multiple, a tie upwards.
-- Assumes nothing.
use Prim.Native.Nat.{ℕ, zero, suc, ◌+◌, ◌-◌, ◌*◌, ◌/◌, ◌%◌, ◌≤◌, ◌<◌}
use native.Mathlib.Nat.{div-zero, div-eq_of_lt, div-mul-le_self, lt-div-mul-add, div-add-mod', mod-eq-sub-div-mul, mod-lt, div-eq_of_lt-le, div-lt_iff_lt-mul, le-div_iff_mul-le, mul-le-mul_left, mul-le-mul_right, mul-pos, suc-mul, mul_left_comm, le_of_suc-le-suc}
use native.Mathlib.Omega.{arith}
use mathlib.Core.Path.{◌≡◌, refl, sym, ap}
use Rattle.weight.specs.Rounding.{half_up}

-- the rounded multiple of n is less than half of n below m: a tie goes up
pub half_up_tie_up : (m n : ℕ) → 0 < n → 2 * m < 2 * (n * half_up m n) + n
unfolding half_up
half_up_tie_up m n h =
    let double : 0 < 2 * n = omega arith in omega (arith, lt-div-mul-add {a = 2 * m + n} double)

-- and at most half of n above m
pub half_up_not_over : (m n : ℕ) → 2 * (n * half_up m n) ≤ 2 * m + n
unfolding half_up
half_up_not_over m n = omega (arith, div-mul-le_self (2 * m + n) (2 * n))

-- twice the distance between the rounded multiple of n and m is at most n
pub half_up_near : (m n : ℕ) → 0 < n → (2 * (n * half_up m n) ≤ 2 * m + n) × (2 * m ≤ 2 * (n * half_up m n) + n)
half_up_near m n h = omega (arith, half_up_not_over m n, half_up_tie_up m n h)

-- no other whole number is as near
pub half_up_only : (m n q : ℕ) → 0 < n → 2 * (n * q) ≤ 2 * m + n → 2 * m < 2 * (n * q) + n → half_up m n ≡ q
unfolding half_up
half_up_only m n q h below above = div-eq_of_lt-le (2 * n) (omega arith) (omega arith)

-- a rest below half of n is dropped
pub half_up_stays : (m n : ℕ) → 0 < n → 2 * (m % n) < n → half_up m n ≡ m / n
half_up_stays m n h rest =
    half_up_only m n (m / n) h (omega (arith, div-add-mod' m n)) (omega (arith, div-add-mod' m n))

-- a rest of half of n or more counts as one
pub half_up_rises : (m n : ℕ) → 0 < n → n ≤ 2 * (m % n) → half_up m n ≡ m / n + 1
half_up_rises m n h rest =
    half_up_only
    m
    n
    (m / n + 1)
    h
    (omega (arith, div-add-mod' m n))
    (omega (arith, div-add-mod' m n, mod-lt m h))

-- nothing rounds to nothing, also with no divisor
pub half_up_zero : (n : ℕ) → half_up 0 n ≡ 0
unfolding half_up
half_up_zero zero = refl
half_up_zero (suc n) = div-eq_of_lt (omega arith)

-- a larger number rounds to no smaller one
pub half_up_monotone : (a b n : ℕ) → a ≤ b → half_up a n ≤ half_up b n
unfolding half_up
half_up_monotone a b zero h = omega (arith, div-zero (2 * a + 0), div-zero (2 * b + 0))
half_up_monotone a b (suc n) h =
    let positive : 0 < 2 * suc n = omega arith in
    (le-div_iff_mul-le positive).1 (omega (arith, div-mul-le_self (2 * a + suc n) (2 * suc n)))

-- rounding makes no number larger
pub half_up_within : (m n : ℕ) → 0 < n → half_up m n ≤ m
unfolding half_up
half_up_within m n h =
    let double : 0 < 2 * n = omega arith in
    let grows : m * 1 ≤ m * n = mul-le-mul_left m h in
    let below : 2 * m + n < suc m * (2 * n) = simp (suc-mul, mul_left_comm) (omega arith) in
    le_of_suc-le-suc ((div-lt_iff_lt-mul double).1 below)

-- a factor e of both cancels; t is the divisor with it
pub half_up_scaled : (m s e t : ℕ) → s * e ≡ t → 0 < s → 0 < e → half_up (m * e) t ≡ half_up m s
half_up_scaled m s e t product h k =
    half_up_only (m * e) t (half_up m s)
    (rw (← product) (mul-pos h k))
    (omega (arith, mul-le-mul_right e (half_up_not_over m s), ap (λ (x : ℕ). x * half_up m s) product, product))
    (omega (arith, mul-le-mul_right e (half_up_tie_up m s h), ap (λ (x : ℕ). x * half_up m s) product, product))

-- ---- the rest is what the product of the quotient leaves

pub half_up_below : (m n : ℕ) → 0 < n → (m - m / n * n) + (m - m / n * n) < n → m / n ≡ half_up m n
half_up_below m n h rest = sym (half_up_stays m n h (omega (arith, mod-eq-sub-div-mul m n)))

pub half_up_above : (m n : ℕ) → 0 < n → n ≤ (m - m / n * n) + (m - m / n * n) → m / n + 1 ≡ half_up m n
half_up_above m n h rest = sym (half_up_rises m n h (omega (arith, mod-eq-sub-div-mul m n)))
