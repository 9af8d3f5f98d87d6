-- The digits of a number, one at a time: nobody has to look at the count that ends the recursion of `digits_in`.
-- Assumes nothing.
use mathlib.Core.Path.{◌≡◌, refl}
use mathlib.Core.Bool.{Bool, true, false}
use mathlib.Core.List.{[], ◌∷◌, ◌++◌}
use Prim.Native.Nat.{ℕ, zero, suc, ◌/◌, ◌%◌, ◌^◌, ◌≤◌, ◌<◌}
use native.Mathlib.Nat.{div-one, div-div-eq-div-mul, pow-succ'}
use native.Mathlib.Omega.{arith}
use lib.Dec.{ltb}
use lib.ListN.{length, length-append}
use borrow.Author.Tests.{lt-ltb, le-ltb, ltb-true, ltb-false}
use Rattle.weight.specs.Characters.{digit}
use Rattle.weight.specs.Places.{last_digits, digits_in, digits_of}

-- one step of the recursion, whatever the count
in_small : (f m : ℕ) → m < 10 → digits_in f m ≡ digit m ∷ []
unfolding digits_in
in_small zero m h = refl
in_small (suc f) m h = rw (lt-ltb m 10, digits_in)

in_step : (f m : ℕ) → 10 ≤ m → digits_in (suc f) m ≡ digits_in f (m / 10) ++ (digit (m % 10) ∷ [])
unfolding digits_in
in_step f m h = rw (le-ltb m 10, digits_in)

-- any count that is not below the number gives the same digits
enough : (f g m : ℕ) → m ≤ f → m ≤ g → digits_in f m ≡ digits_in g m
enough zero zero m a b = refl
enough zero (suc g) m a b = rw (in_small zero m (omega arith), in_small (suc g) m (omega arith))
enough (suc f) zero m a b = rw (in_small zero m (omega arith), in_small (suc f) m (omega arith))
enough (suc f) (suc g) m a b = go (enough f g (m / 10)) (ltb m 10) refl
  where
    go : (m / 10 ≤ f → m / 10 ≤ g → digits_in f (m / 10) ≡ digits_in g (m / 10)) → (t : Bool) → ltb m 10 ≡ t → digits_in (suc f) m ≡ digits_in (suc g) m
    go ih true e = rw (in_small (suc f) m (ltb-true m 10 e), in_small (suc g) m (ltb-true m 10 e))
    go ih false e =
        rw (in_step f m (ltb-false m 10 e), in_step g m (ltb-false m 10 e), ih (omega (arith, ltb-false m 10 e)) (omega (arith, ltb-false m 10 e)))

-- a number of one digit
pub digits_small : (m : ℕ) → m < 10 → digits_of m ≡ digit m ∷ []
unfolding digits_of
digits_small m h = in_small m m h

-- the last digit stands after those of the rest
pub digits_step : (m : ℕ) → 10 ≤ m → digits_of m ≡ digits_of (m / 10) ++ (digit (m % 10) ∷ [])
unfolding digits_of
digits_step zero h = elim h [ ]
digits_step (suc m) h = rw (in_step m (suc m), enough m (suc m / 10) (suc m / 10) (omega arith) (omega arith))

-- how many digits there are
pub length_digits_small : (m : ℕ) → m < 10 → length (digits_of m) ≡ 1
length_digits_small m h = rw (digits_small m h)

pub length_digits_step : (m : ℕ) → 10 ≤ m → length (digits_of m) ≡ suc (length (digits_of (m / 10)))
length_digits_step m h = rw (digits_step m h, length-append) (omega arith)

-- the last d digits are d digits
pub length_last_digits : (d m : ℕ) → length (last_digits d m) ≡ d
unfolding last_digits
length_last_digits zero m = refl
length_last_digits (suc d) m = simp (length-append, length_last_digits d) (omega arith)

-- the first of the last digits, apart
pub last_digits_cons : (i m : ℕ) → last_digits (suc i) m ≡ digit (m / 10 ^ i % 10) ∷ last_digits i m
unfolding last_digits
last_digits_cons zero m = rw (div-one m)
last_digits_cons (suc i) m = rw (last_digits_cons i (m / 10), div-div-eq-div-mul m 10 (10 ^ i), ← pow-succ' 10 i)
