-- Whole numbers by their two parts, above and below zero, and what follows for "within half of n".
-- The parts stay shut, so that a comparison of integers is one of natural numbers.
-- Assumes nothing.
use Prim.Native.Nat.{ℕ, zero, suc, ◌+◌, ◌*◌, ◌-◌, ◌≤◌}
use native.Mathlib.Omega.{arith}
use mathlib.Core.Path.{◌≡◌, refl, ap}
use mathlib.Core.Bool.{Bool, true, false, cond}
use borrow.Author.Tests.{ltb-true, ltb-false}
use lib.Dec.{ltb}
use lib.IntN.{ℤ, pos, negsuc, neg_ℤ, nat_abs, sub_ℕ, ◌+ℤ◌, ◌-ℤ◌, ◌*ℤ◌}
use Rattle.weight.specs.Rounding.{Near}

-- the part above zero
unfoldable pub up : ℤ → ℕ
up (pos n) = n
up (negsuc n) = 0

-- the part below zero
unfoldable pub down : ℤ → ℕ
down (pos n) = 0
down (negsuc n) = suc n

-- a number that is not negative is all above zero
pub up_pos : (n : ℕ) → up (pos n) ≡ n
unfolding up
up_pos n = refl

-- and not below it
pub down_pos : (n : ℕ) → down (pos n) ≡ 0
unfolding down
down_pos n = refl

-- the opposite of a natural number is as large
pub size_opposite : (n : ℕ) → nat_abs (neg_ℤ (pos n)) ≡ n
size_opposite zero = refl
size_opposite (suc n) = refl

-- ---- the parts of an operation's result

-- a minus exchanges the parts
pub up_negated : (a : ℤ) → up (neg_ℤ a) ≡ down a
unfolding up down
up_negated (pos zero) = refl
up_negated (pos (suc n)) = refl
up_negated (negsuc n) = refl

-- both ways
pub down_negated : (a : ℤ) → down (neg_ℤ a) ≡ up a
unfolding up down
down_negated (pos zero) = refl
down_negated (pos (suc n)) = refl
down_negated (negsuc n) = refl

-- the parts of a difference of natural numbers, by the test that chooses its sign
chosen_parts
    : (t : Bool) (a b : ℕ)
    → ltb a b ≡ t
    → up (cond t (negsuc (b - suc a)) (pos (a - b))) + b ≡ down (cond t (negsuc (b - suc a)) (pos (a - b))) + a
unfolding up down
chosen_parts true a b e = omega (arith, ltb-true a b e)
chosen_parts false a b e = omega (arith, ltb-false a b e)

-- so they balance the two numbers
natural_difference_parts : (a b : ℕ) → up (sub_ℕ a b) + b ≡ down (sub_ℕ a b) + a
natural_difference_parts a b = chosen_parts (ltb a b) a b refl

-- a sum's parts balance those of its summands
pub sum_parts : (a b : ℤ) → up (a +ℤ b) + (down a + down b) ≡ down (a +ℤ b) + (up a + up b)
unfolding up down
sum_parts (pos a) (pos b) = omega arith
sum_parts (pos a) (negsuc b) = omega (arith, natural_difference_parts a (suc b))
sum_parts (negsuc a) (pos b) = omega (arith, natural_difference_parts b (suc a))
sum_parts (negsuc a) (negsuc b) = omega arith

-- and a difference's parts those of its terms
pub difference_parts : (a b : ℤ) → up (a -ℤ b) + (down a + up b) ≡ down (a -ℤ b) + (up a + down b)
difference_parts a b = omega (arith, sum_parts a (neg_ℤ b), up_negated b, down_negated b)

-- a natural factor multiplies the part above zero
pub up_times : (a : ℤ) (k : ℕ) → up (a *ℤ pos k) ≡ up a * k
unfolding up down
up_times (pos n) k = refl
up_times (negsuc n) k = omega (arith, up_negated (pos (suc n * k)))

-- and the part below it
pub down_times : (a : ℤ) (k : ℕ) → down (a *ℤ pos k) ≡ down a * k
unfolding up down
down_times (pos n) k = omega arith
down_times (negsuc n) k = omega (arith, down_negated (pos (suc n * k)))

-- numbers whose parts balance are the same
pub same_parts : (a b : ℤ) → up a + down b ≡ down a + up b → a ≡ b
unfolding up down
same_parts (pos a) (pos b) h = ap pos (omega arith)
same_parts (pos a) (negsuc b) h = absurd (omega arith)
same_parts (negsuc a) (pos b) h = absurd (omega arith)
same_parts (negsuc a) (negsuc b) h = ap negsuc (omega arith)

-- a natural factor goes into a difference
pub difference_times : (a b : ℤ) (k : ℕ) → (a -ℤ b) *ℤ pos k ≡ a *ℤ pos k -ℤ b *ℤ pos k
difference_times a b k =
    same_parts
    ((a -ℤ b) *ℤ pos k)
    (a *ℤ pos k -ℤ b *ℤ pos k)
    (omega (
      arith,
      ap (λ (x : ℕ). x * k) (difference_parts a b),
      difference_parts (a *ℤ pos k) (b *ℤ pos k),
      up_times (a -ℤ b) k,
      down_times (a -ℤ b) k,
      up_times a k,
      down_times a k,
      up_times b k,
      down_times b k,
    ))

-- ---- within half of n

-- what balances two numbers that differ by at most n bounds the part that is left
sided : (d : ℤ) (x y n : ℕ) → up d + x ≡ down d + y → 2 * y ≤ 2 * x + n → 2 * x ≤ 2 * y + n → 2 * nat_abs d ≤ n
unfolding up down
sided (pos d) x y n e over under = omega arith
sided (negsuc d) x y n e over under = omega arith

-- and the part that is left bounds both sides
unsided_over : (d : ℤ) (x y n : ℕ) → up d + x ≡ down d + y → 2 * nat_abs d ≤ n → 2 * y ≤ 2 * x + n
unfolding up down
unsided_over (pos d) x y n e h = omega arith
unsided_over (negsuc d) x y n e h = omega arith

unsided_under : (d : ℤ) (x y n : ℕ) → up d + x ≡ down d + y → 2 * nat_abs d ≤ n → 2 * x ≤ 2 * y + n
unfolding up down
unsided_under (pos d) x y n e h = omega arith
unsided_under (negsuc d) x y n e h = omega arith

-- near: neither of the two is over the other by more than half of n
pub near_of_parts
    : (n : ℕ) (a b : ℤ)
    → 2 * (up a + down b) ≤ 2 * (down a + up b) + n
    → 2 * (down a + up b) ≤ 2 * (up a + down b) + n
    → Near n a b
unfolding Near
near_of_parts n a b over under = sided (a -ℤ b) (down a + up b) (up a + down b) n (difference_parts a b) over under

-- of two near numbers the first is not too far over
pub near_over : (n : ℕ) (a b : ℤ) → Near n a b → 2 * (up a + down b) ≤ 2 * (down a + up b) + n
unfolding Near
near_over n a b h = unsided_over (a -ℤ b) (down a + up b) (up a + down b) n (difference_parts a b) h

-- nor too far under
pub near_under : (n : ℕ) (a b : ℤ) → Near n a b → 2 * (down a + up b) ≤ 2 * (up a + down b) + n
unfolding Near
near_under n a b h = unsided_under (a -ℤ b) (down a + up b) (up a + down b) n (difference_parts a b) h

-- two natural numbers
pub near_naturals : (n a b : ℕ) → 2 * a ≤ 2 * b + n → 2 * b ≤ 2 * a + n → Near n (pos a) (pos b)
near_naturals n a b over under =
    near_of_parts
    n
    (pos a)
    (pos b)
    (omega (arith, up_pos a, up_pos b, down_pos a, down_pos b))
    (omega (arith, up_pos a, up_pos b, down_pos a, down_pos b))

-- a number is near itself
pub near_refl : (n : ℕ) (a : ℤ) → Near n a a
near_refl n a = near_of_parts n a a (omega arith) (omega arith)

-- what is near within n is near within more
pub near_weaken : (n m : ℕ) (a b : ℤ) → n ≤ m → Near n a b → Near m a b
unfolding Near
near_weaken n m a b more h = omega (arith, more, h)

-- two steps of nearness add
pub near_triangle : (m n : ℕ) (a b c : ℤ) → Near m a b → Near n b c → Near (m + n) a c
near_triangle m n a b c h k =
    near_of_parts
    (m + n)
    a
    c
    (omega (arith, near_over m a b h, near_over n b c k))
    (omega (arith, near_under m a b h, near_under n b c k))

-- nearness is the same on the other side of zero
pub near_negated : (n : ℕ) (a b : ℤ) → Near n a b → Near n (neg_ℤ a) (neg_ℤ b)
near_negated n a b h =
    near_of_parts
    n
    (neg_ℤ a)
    (neg_ℤ b)
    (omega (arith, near_under n a b h, up_negated a, up_negated b, down_negated a, down_negated b))
    (omega (arith, near_over n a b h, up_negated a, up_negated b, down_negated a, down_negated b))

-- near numbers taken from one number
pub near_shift : (n : ℕ) (a b c : ℤ) → Near n b c → Near n (a -ℤ b) (a -ℤ c)
near_shift n a b c h =
    near_of_parts
    n
    (a -ℤ b)
    (a -ℤ c)
    (omega (arith, near_under n b c h, difference_parts a b, difference_parts a c))
    (omega (arith, near_over n b c h, difference_parts a b, difference_parts a c))
