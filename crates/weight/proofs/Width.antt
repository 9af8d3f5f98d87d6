-- How wide a number is written: a number fits the field exactly when it is below a power of ten.
-- Assumes nothing.
use mathlib.Core.Path.{◌≡◌, refl, sym, ◌∙◌}
use mathlib.Core.Bool.{Bool, true, false, cond, not, ◌&&◌, and-eq-true_iff}
use Prim.Native.Nat.{ℕ, zero, suc, ◌+◌, ◌-◌, ◌*◌, ◌/◌, ◌^◌, ◌≤◌, ◌<◌}
use native.Mathlib.Nat.{sub-zero, pow-suc, one-le-pow, pow-le-pow_right, div-lt_iff_lt-mul}
use native.Mathlib.Omega.{arith}
use lib.Dec.{leb, ltb, leb-suc-suc}
use lib.IntN.{ℤ, pos, negsuc, neg_ℤ, nat_abs}
use lib.Pow.{pow-add}
use lib.Signed.{non_neg}
use lib.ListN.{length, length-append}
use borrow.Author.Tests.{lt-ltb, le-ltb, le-leb, ltb-true, ltb-false, leb-true, leb-false}
use Rattle.weight.specs.Places.{digits_of, decimal_of, number_text, width_of, characters_in, decimals_fit, fits_field}
use Rattle.weight.proofs.Digits.{length_digits_small, length_digits_step, length_last_digits}

-- two tests agree if each follows from the other
pub tests_agree : (a b x y : ℕ) → (a ≤ b → x ≤ y) → (x ≤ y → a ≤ b) → leb a b ≡ leb x y
tests_agree a b x y f g = go (leb a b) (leb x y) refl refl
  where
    go : (t u : Bool) → leb a b ≡ t → leb x y ≡ u → leb a b ≡ leb x y
    go true true d e = cc
    go true false d e = absurd (omega (arith, f (leb-true a b d), leb-false x y e))
    go false true d e = absurd (omega (arith, leb-false a b d, g (leb-true x y e)))
    go false false d e = cc

-- a quotient is below y exactly when the number is below y times the divisor
pub div_test : (m k y : ℕ) → 0 < k → ltb (m / k) y ≡ ltb m (y * k)
div_test m k y h = tests_agree (suc (m / k)) y (suc m) (y * k) (div-lt_iff_lt-mul h).0 (div-lt_iff_lt-mul h).1

-- one digit at least
pub digits_some : (m : ℕ) → 1 ≤ length (digits_of m)
digits_some m = go (ltb m 10) refl
  where
    go : (t : Bool) → ltb m 10 ≡ t → 1 ≤ length (digits_of m)
    go true e = omega (arith, length_digits_small m (ltb-true m 10 e))
    go false e = omega (arith, length_digits_step m (ltb-false m 10 e))

one_digit : (m : ℕ) → length (digits_of m) ≤ 1 → m < 10
one_digit m h = go (ltb m 10) refl
  where
    go : (t : Bool) → ltb m 10 ≡ t → m < 10
    go true e = ltb-true m 10 e
    go false e = absurd (omega (arith, length_digits_step m (ltb-false m 10 e), digits_some (m / 10)))

ten_at_least : (w : ℕ) → 10 ≤ 10 ^ suc w
ten_at_least w = omega (arith, pow-suc 10 w, one-le-pow w 10 (omega arith))

-- w digits or fewer, exactly when the number is below 10 ^ w
pub digits_fit : (w m : ℕ) → leb (length (digits_of m)) (suc w) ≡ ltb m (10 ^ suc w)
digits_fit zero m = tests_agree (length (digits_of m)) 1 (suc m) 10 (one_digit m) (λ h. omega (arith, length_digits_small m h))
digits_fit (suc w) m = go (digits_fit w (m / 10)) (ltb m 10) refl
  where
    go : leb (length (digits_of (m / 10))) (suc w) ≡ ltb (m / 10) (10 ^ suc w) → (t : Bool) → ltb m 10 ≡ t → leb (length (digits_of m)) (suc (suc w)) ≡ ltb m (10 ^ suc (suc w))
    go ih true e =
        rw (length_digits_small m (ltb-true m 10 e), le-leb 1 (suc (suc w)) (omega arith), lt-ltb m (10 ^ suc (suc w)) (omega (arith, ten_at_least (suc w), ltb-true m 10 e)))
    go ih false e = rw (length_digits_step m (ltb-false m 10 e), leb-suc-suc, ih, div_test m 10 (10 ^ suc w) (omega arith), ← pow-suc 10 (suc w))

-- the same for the digits above d places
pub whole_fit : (d w m : ℕ) → leb (length (digits_of (m / 10 ^ d))) (suc w) ≡ ltb m (10 ^ (suc w + d))
whole_fit d w m =
    digits_fit w (m / 10 ^ d) ∙ div_test m (10 ^ d) (10 ^ suc w) (one-le-pow d 10 (omega arith)) ∙ rw (pow-add 10 (suc w) d)

-- the characters that the point and the minus take
abbrev pub point_width : ℕ → ℕ
point_width d = cond (ltb d 1) 0 1

abbrev pub minus_width : ℤ → ℕ
minus_width n = cond (not (non_neg n)) 1 0

-- with d decimals: the digits before the point, the point and the decimals
decimal_width : (d m : ℕ) → length (decimal_of (suc d) m) ≡ length (digits_of (m / 10 ^ suc d)) + suc (suc d)
unfolding decimal_of
decimal_width d m = rw (length-append, length_last_digits (suc d) m)

decimal_fit : (d w m : ℕ) → leb (length (decimal_of (suc d) m)) (suc w + suc (suc d)) ≡ ltb m (10 ^ (suc w + suc d))
decimal_fit d w m =
    rw (decimal_width d m)
    (tests_agree (length (digits_of (m / 10 ^ suc d)) + suc (suc d)) (suc w + suc (suc d)) (length (digits_of (m / 10 ^ suc d))) (suc w) (λ h. omega arith) (λ h. omega arith)
    ∙ whole_fit (suc d) w m)

-- a number without its sign, in p characters
decimal_limit : (d m p : ℕ) → suc d + point_width d ≤ p → leb (length (decimal_of d m)) p ≡ ltb m (10 ^ (p - point_width d))
unfolding decimal_of
decimal_limit zero m zero h = elim h [ ]
decimal_limit zero m (suc w) h = rw (sub-zero (suc w)) (digits_fit w m)
decimal_limit (suc d) m p h = go (rw point_stands at h)
  where
    point_stands : point_width (suc d) ≡ 1
    point_stands = rw (le-ltb (suc d) 1 (omega arith))

    go : suc (suc d) + 1 ≤ p → leb (length (decimal_of (suc d) m)) p ≡ ltb m (10 ^ (p - point_width (suc d)))
    go l =
        let all : suc (p - suc (suc (suc d))) + suc (suc d) ≡ p = omega arith in
        let rest : suc (p - suc (suc (suc d))) + suc d ≡ p - 1 = omega arith in
        rw point_stands (rw (all, rest) at (decimal_fit d (p - suc (suc (suc d))) m))

point_small : (d : ℕ) → point_width d ≤ 1
point_small d = go (ltb d 1)
  where
    go : (t : Bool) → cond t 0 1 ≤ 1
    go true = omega arith
    go false = omega arith

-- up to 6 decimals a number of one digit has room in ten characters, and up to 5 in nine
decimals_few : (c : Bool) (d : ℕ) → decimals_fit c d ≡ true → suc (suc (suc d)) ≤ characters_in c
decimals_few true d h = omega (arith, leb-true d 5 ((and-eq-true_iff (leb 1 d) (leb d 5)).0 h).1)
decimals_few false d h = omega (arith, leb-true d 6 h)

number_limit : (d w : ℕ) (n : ℤ) → suc (suc (suc d)) ≤ w → leb (width_of d n) w ≡ ltb (nat_abs n) (10 ^ (w - point_width d - minus_width n))
unfolding width_of number_text
number_limit d zero (negsuc m) h = elim h [ ]
number_limit d w (pos m) h = rw (sub-zero) (decimal_limit d m w (omega (arith, point_small d)))
number_limit d (suc w) (negsuc m) h =
    let less : suc w - point_width d - 1 ≡ w - point_width d = omega (arith, point_small d) in
    rw (leb-suc-suc (length (decimal_of d (suc m))) w, less) (decimal_limit d (suc m) w (omega (arith, point_small d)))

-- a number fits exactly when its size is below a power of ten: what the characters leave beside the point and the minus
pub fits_limit : (c : Bool) (d : ℕ) (n : ℤ) → fits_field c d n ≡ decimals_fit c d && ltb (nat_abs n) (10 ^ (characters_in c - point_width d - minus_width n))
unfolding fits_field
fits_limit c d n = go (decimals_fit c d) refl
  where
    go : (t : Bool) → decimals_fit c d ≡ t
        → decimals_fit c d && leb (width_of d n) (characters_in c) ≡ decimals_fit c d && ltb (nat_abs n) (10 ^ (characters_in c - point_width d - minus_width n))
    go true e = rw (number_limit d (characters_in c) n (decimals_few c d e))
    go false e = rw e

-- by the tests of the decimals, the sign and the size
pub fits_tested : (c : Bool) (d : ℕ) (n : ℤ) {few negative : Bool} {m p : ℕ} → few ≡ decimals_fit c d → negative ≡ not (non_neg n) → m ≡ nat_abs n
    → p ≡ 10 ^ (characters_in c - point_width d - cond negative 1 0) → few && ltb m p ≡ fits_field c d n
fits_tested c d n e f g h = rw (h, g, f, e, fits_limit c d n)

-- the characters of a number: its minus and its size
pub width_parts : (d : ℕ) (n : ℤ) → width_of d n ≡ minus_width n + length (decimal_of d (nat_abs n))
unfolding width_of number_text
width_parts d (pos m) = omega arith
width_parts d (negsuc m) = omega arith

-- what fits is not over the characters of its range, nor over ten
pub fits_width : (c : Bool) (d : ℕ) (n : ℤ) → fits_field c d n ≡ true → width_of d n ≤ characters_in c
unfolding fits_field
fits_width c d n h = leb-true (width_of d n) (characters_in c) ((and-eq-true_iff (decimals_fit c d) (leb (width_of d n) (characters_in c))).0 h).1

pub fits_decimals : (c : Bool) (d : ℕ) (n : ℤ) → fits_field c d n ≡ true → decimals_fit c d ≡ true
unfolding fits_field
fits_decimals c d n h = ((and-eq-true_iff (decimals_fit c d) (leb (width_of d n) (characters_in c))).0 h).0

-- the same as two facts: the decimals and the size
pub fits_facts : (c : Bool) (d : ℕ) (n : ℤ) → fits_field c d n ≡ true
    → (decimals_fit c d ≡ true) × (nat_abs n < 10 ^ (characters_in c - point_width d - minus_width n))
fits_facts c d n h =
    go ((and-eq-true_iff (decimals_fit c d) (ltb (nat_abs n) (10 ^ (characters_in c - point_width d - minus_width n)))).0 (sym (fits_limit c d n) ∙ h))
  where
    go : (decimals_fit c d ≡ true) × (ltb (nat_abs n) (10 ^ (characters_in c - point_width d - minus_width n)) ≡ true)
        → (decimals_fit c d ≡ true) × (nat_abs n < 10 ^ (characters_in c - point_width d - minus_width n))
    go k = (k.0, ltb-true (nat_abs n) (10 ^ (characters_in c - point_width d - minus_width n)) k.1)

pub facts_fit : (c : Bool) (d : ℕ) (n : ℤ) → decimals_fit c d ≡ true → nat_abs n < 10 ^ (characters_in c - point_width d - minus_width n) → fits_field c d n ≡ true
facts_fit c d n h l = rw (fits_limit c d n, h) (lt-ltb (nat_abs n) (10 ^ (characters_in c - point_width d - minus_width n)) l)

-- what is not larger, and has a minus only beside a minus, fits too
fits_narrower : (c : Bool) (d : ℕ) (m n : ℤ) → fits_field c d n ≡ true → nat_abs m ≤ nat_abs n → minus_width m ≤ minus_width n → fits_field c d m ≡ true
fits_narrower c d m n f h s =
    let room : 10 ^ (characters_in c - point_width d - minus_width n) ≤ 10 ^ (characters_in c - point_width d - minus_width m) = pow-le-pow_right (omega arith) (omega arith) in
    facts_fit c d m (fits_facts c d n f).0 (omega (arith, (fits_facts c d n f).1))

minus_small : (n : ℤ) → minus_width n ≤ 1
minus_small (pos m) = omega arith
minus_small (negsuc m) = omega arith

-- the two ends: what lies between zero and a number that fits
pub fits_below : (c : Bool) (d m k : ℕ) → fits_field c d (pos k) ≡ true → m ≤ k → fits_field c d (pos m) ≡ true
fits_below c d m k f h = fits_narrower c d (pos m) (pos k) f h (omega arith)

pub fits_above : (c : Bool) (d : ℕ) (m : ℤ) (k : ℕ) → fits_field c d (neg_ℤ (pos k)) ≡ true → nat_abs m ≤ k → fits_field c d m ≡ true
fits_above c d (pos m) zero f h = fits_below c d m 0 f h
fits_above c d (negsuc m) zero f h = absurd (omega arith)
fits_above c d m (suc k) f h = fits_narrower c d m (negsuc k) f h (minus_small m)
