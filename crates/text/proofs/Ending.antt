-- A number that ends where a buffer ends.
-- Assumes nothing.
use mathlib.Core.Path.{◌≡◌, refl, sym, ◌∙◌}
use mathlib.Core.List.{List, [], ◌∷◌, ◌++◌, append_assoc}
use Prim.Native.Nat.{ℕ, zero, suc, ◌+◌, ◌-◌, ◌/◌, ◌%◌, ◌^◌, ◌≤◌, ◌<◌}
use native.Mathlib.Nat.{add-zero, div-one, mod-lt, mod-eq_of_lt, lt_of_lt_of_le, pow-le-pow_right}
use native.Mathlib.Omega.{arith}
use mathlib.Core.Bool.{Bool, true, false, not, false≢true}
use lib.IntN.{ℤ, pos, negsuc, nat_abs}
use lib.Signed.{non_neg}
use lib.ListN.{length, take, drop, set, get_or, length-append, length-set}
use lib.Seq.{take_at, length-take-le, append_snoc, take-suc, set_at}
use Rattle.weight.specs.Characters.{minus, point, digit}
use Rattle.weight.specs.Places.{last_digits, digits_of, decimal_of, number_text, width_of}
use Rattle.weight.proofs.Width.{width_parts}
use Rattle.weight.proofs.Digits.{length_last_digits, last_digits_cons}
use Rattle.text.specs.declared.field.Nine.{Nine}
use Rattle.text.specs.Digits.{Begun}
use Rattle.text.specs.Field.{digit_count}
use Rattle.text.proofs.Between.{between, between_length, between_end}
use Rattle.text.proofs.HighestFirst.{count_least, count_done, count_above, count_ten, last_of_rest, all_last}

less_one : (k : ℕ) → suc k - 1 ≡ k
less_one k = omega arith

-- a number without decimals is its digits
decimal_whole : (d m : ℕ) → d < 1 → decimal_of d m ≡ digits_of m
unfolding decimal_of
decimal_whole zero m h = refl
decimal_whole (suc d) m h = absurd (omega arith)

-- and with decimals the digits before the point, the point and the decimals
pub decimal_parts : (d m : ℕ) → 1 ≤ d → decimal_of d m ≡ digits_of (m / 10 ^ d) ++ (point ∷ last_digits d m)
unfolding decimal_of
decimal_parts zero m h = elim h [ ]
decimal_parts (suc d) m h = refl

length_decimal_parts : (d m : ℕ) → 1 ≤ d → length (decimal_of d m) ≡ length (digits_of (m / 10 ^ d)) + suc d
length_decimal_parts d m h = rw (decimal_parts d m h, length-append, length_last_digits d m)

-- ---- a number of c digits, d of them decimals

-- how long it is
pub length_whole : (d m c : ℕ) → d < 1 → c ≡ digit_count d m → length (decimal_of d m) ≡ c
unfolding decimal_of digit_count
length_whole zero m c h e = sym (e ∙ rw (div-one m, add-zero (length (digits_of m))))
length_whole (suc d) m c h e = absurd (omega arith)

pub length_parts : (d m c : ℕ) → 1 ≤ d → c ≡ digit_count d m → length (decimal_of d m) ≡ c + 1
unfolding digit_count
length_parts d m c h e = omega (arith, length_decimal_parts d m h)

-- the digits above the decimals
whole_count : (d m c : ℕ) → c ≡ digit_count d m → c - d ≡ length (digits_of (m / 10 ^ d))
unfolding digit_count
whole_count d m c e = omega arith

above : (d m c : ℕ) → c ≡ digit_count d m → last_digits (c - d) (m / 10 ^ d) ≡ digits_of (m / 10 ^ d)
above d m c e = rw (whole_count d m c e) (all_last (m / 10 ^ d))

-- no more digits than characters
pub count_within : (d m n : ℕ) → length (decimal_of d m) ≤ n → digit_count d m ≤ n
count_within zero m n l = omega (arith, length_whole 0 m (digit_count 0 m) (omega arith) refl)
count_within (suc d) m n l = omega (arith, length_parts (suc d) m (digit_count (suc d) m) (omega arith) refl)

-- ---- nine digits and ten

-- what is below 10 ^ 9 and fits ten characters has nine digits at most
pub nine_count : (d m : ℕ) → m < 10 ^ 9 → length (decimal_of d m) ≤ 10 → digit_count d m ≤ 9
nine_count zero m h l = count_done 0 9 m (10 ^ 9) (omega arith) refl h
nine_count (suc d) m h l = omega (arith, length_parts (suc d) m (digit_count (suc d) m) (omega arith) refl)

-- they are all in 32 bits
pub begun_nine : (x : List ℕ) (d m c s : ℕ) → length (decimal_of d m) ≤ 10 → m < 10 ^ 9 → c ≡ digit_count d m
    → s + length (decimal_of d m) ≡ length x
    → Begun x d m x (record { start = s; at = s; high = c; value = m })
begun_nine x d m c s l h e f =
    record {
      start = f;
      long = refl;
      few = omega (arith, nine_count d m h l);
      some = omega (arith, count_least d m);
      small = count_above d m c e;
      up_to = omega (arith, whole_count d m c e);
      whole = rw (above d m c e);
      after = refl;
      decimals = refl;
    }

-- what fits is below 10 ^ 10
pub ten_small : (d m : ℕ) → length (decimal_of d m) ≤ 10 → m < 10 ^ 10
ten_small d m l =
    lt_of_lt_of_le (count_above d m (digit_count d m) refl) (pow-le-pow_right (omega arith) (count_within d m 10 l))

-- what is not below 10 ^ 9 takes ten characters or more
pub ten_long : (d m n : ℕ) → 10 ^ 9 ≤ m → length (decimal_of d m) ≤ n → 10 ≤ n
ten_long d m n h l = omega (arith, count_within d m n l, count_ten d m h)

-- what is not below 10 ^ 9 has ten digits and no decimals
pub begun_ten : (x y : List ℕ) (d m r : ℕ) → length x ≡ 10 → length (decimal_of d m) ≤ 10 → 10 ^ 9 ≤ m → r ≡ m % 10 ^ 9 → y ≡ set x 0 (digit (m / 10 ^ 9))
    → Begun x d m y (record { start = 0; at = 1; high = 9; value = r })
begun_ten x y (suc d) m r n l h e f = absurd (omega (arith, length_parts (suc d) m (digit_count (suc d) m) (omega arith) refl, count_ten (suc d) m h))
begun_ten [] y zero m r n l h e f = absurd (omega arith)
begun_ten (a ∷ t) y zero m r n l h e f =
    let long = length_whole 0 m (digit_count 0 m) (omega arith) refl in
    let ten : length (decimal_of 0 m) ≡ 10 = omega (arith, long, count_ten 0 m h) in
    let digits : length (digits_of m) ≡ 10 = rw (decimal_whole 0 m (omega arith)) at ten in
    let first : m / 10 ^ 9 % 10 ≡ m / 10 ^ 9 = mod-eq_of_lt (omega (arith, ten_small 0 m l)) in
    record {
      start = omega arith;
      long = rw (f, length-set (a ∷ t) 0 (digit (m / 10 ^ 9)));
      few = omega arith;
      some = omega arith;
      small = rw e (mod-lt m (omega arith));
      up_to = rw (div-one m) (omega arith);
      whole = rw (f, div-one r, div-one m, e, last_of_rest 9 m) (rw (digits, last_digits_cons 9 m, first) at (all_last m));
      after = rw f;
      decimals = omega arith;
    }

-- ---- the buffer

-- once the digits before the point are written
pub whole_laid : (x y z : List ℕ) (d m : ℕ) (n : Nine) → Begun x d m y n
    → z ≡ take n.at y ++ last_digits (n.high - d) (n.value / 10 ^ d) ++ drop (n.at + (n.high - d)) y
    → z ≡ take n.start x ++ digits_of (m / 10 ^ d) ++ drop (n.start + length (digits_of (m / 10 ^ d))) x
whole_laid x y z d m n b e = e ∙ rw (b.whole, b.after, b.up_to)

pub parts_room : (x : List ℕ) (d m s : ℕ) → 1 ≤ d → s + length (decimal_of d m) ≡ length x → d + 1 ≤ length x
parts_room x d m s h e = omega (arith, length_decimal_parts d m h)

module _ (x : List ℕ) (d m s : ℕ) (e : s + length (decimal_of d m) ≡ length x) where
  -- there is room for the digits before the point, and for the point and the decimals
  pub whole_room : s + length (digits_of (m / 10 ^ d)) ≤ length x
  whole_room = go d e
    where
      go : (d : ℕ) → s + length (decimal_of d m) ≡ length x → s + length (digits_of (m / 10 ^ d)) ≤ length x
      go zero e = rw (div-one m) (omega (arith, rw (decimal_whole 0 m (omega arith)) at e))
      go (suc d) e = omega (arith, length_decimal_parts (suc d) m (omega arith))

  whole_long : (z : List ℕ) → z ≡ take s x ++ digits_of (m / 10 ^ d) ++ drop (s + length (digits_of (m / 10 ^ d))) x → length z ≡ length x
  unfolding between
  whole_long z g = rw g (between_length x s (s + length (digits_of (m / 10 ^ d))) (digits_of (m / 10 ^ d)) refl whole_room)

-- no byte is lost
pub laid_long : (x y z : List ℕ) (d m : ℕ) (n : Nine) → Begun x d m y n
    → z ≡ take n.at y ++ last_digits (n.high - d) (n.value / 10 ^ d) ++ drop (n.at + (n.high - d)) y → length z ≡ length x
laid_long x y z d m n b e = whole_long x d m n.start b.start z (whole_laid x y z d m n b e)

-- without decimals that is all
pub whole_done : (x z : List ℕ) (d m s : ℕ) → d < 1 → s + length (decimal_of d m) ≡ length x
    → z ≡ take s x ++ digits_of (m / 10 ^ d) ++ drop (s + length (digits_of (m / 10 ^ d))) x
    → z ≡ take s x ++ decimal_of d m
unfolding between decimal_of
whole_done x z zero m s h e g =
    let all : s + length (digits_of m) ≡ length x = e in
    g ∙ rw (div-one m, all) (between_end x s (digits_of m))
whole_done x z (suc d) m s h e g = absurd (omega arith)

-- and with them the point and the decimals follow
pub parts_done : (x y z : List ℕ) (d m s r : ℕ) → 1 ≤ d → s + length (decimal_of d m) ≡ length x
    → y ≡ take s x ++ digits_of (m / 10 ^ d) ++ drop (s + length (digits_of (m / 10 ^ d))) x
    → r ≡ m % 10 ^ d
    → z ≡ take (length y - d - 1) y ++ point ∷ last_digits d r
    → z ≡ take s x ++ decimal_of d m
unfolding between
parts_done x y z d m s r h e g f k =
    let whole = digits_of (m / 10 ^ d) in
    let parts = length_decimal_parts d m h in
    let long : length y ≡ length x = whole_long x d m s e y g in
    let front : length (take s x ++ whole) ≡ s + length whole = rw (length-append, length-take-le s x (omega arith)) in
    let point_at : length y - d - 1 ≡ s + length whole = omega arith in
    let before : take (length y - d - 1) y ≡ take s x ++ whole =
    rw (point_at, g) (take_at (take s x ++ whole) (drop (s + length whole) x) (s + length whole) front) in
    k ∙ rw (before, f, last_of_rest d m, decimal_parts d m h) (append_assoc (take s x) whole (point ∷ last_digits d m))

-- a number's size has room where the number has, and a minus has room before it
pub size_room : (d m k : ℕ) (n : ℤ) → m ≡ nat_abs n → width_of d n ≤ k → length (decimal_of d m) ≤ k
size_room d m k n e h = rw e (omega (arith, width_parts d n))

pub minus_room : (d m r k : ℕ) (n : ℤ) (t : Bool) → t ≡ not (non_neg n) → t ≡ true → m ≡ nat_abs n → width_of d n ≤ k → r + length (decimal_of d m) ≡ k → 1 ≤ r
minus_room d m r k n t p q e h g = omega (arith, rw (sym p ∙ q) at (width_parts d n), rw e at g)

pub minus_in : (x y : List ℕ) (r d m : ℕ) (n : ℤ) (t : Bool) → t ≡ not (non_neg n) → t ≡ true → m ≡ nat_abs n
    → width_of d n ≤ length x → r + length (decimal_of d m) ≡ length x → y ≡ take r x ++ decimal_of d m → r - 1 < length y
minus_in x y r d m n t p q e l g h =
    rw (h, length-append, length-take-le r x (omega arith)) (omega (arith, minus_room d m r (length x) n t p q e l g))

-- a number that is not below zero is written
pub plain_done : (x y : List ℕ) (r d m : ℕ) (n : ℤ) (t : Bool) → t ≡ not (non_neg n) → t ≡ false → m ≡ nat_abs n
    → r + length (decimal_of d m) ≡ length x → y ≡ take r x ++ decimal_of d m
    → y ≡ take (length x - width_of d n) x ++ number_text d n
unfolding width_of number_text
plain_done x y r d m (pos k) t p q e g h =
    let start : length x - length (decimal_of d k) ≡ r = omega (arith, rw e at g) in
    rw start (rw e at h)
plain_done x y r d m (negsuc k) t p q e g h = absurd (false≢true (sym q ∙ p))

-- a byte directly before a text
byte_before : (x s : List ℕ) (a b : ℕ) → a < length x → set (take (suc a) x ++ s) a b ≡ take a x ++ b ∷ s
byte_before x s a b h =
    rw (take-suc x a 0 h, append_snoc (take a x) (get_or x a 0) s)
    (set_at (take a x) (get_or x a 0) s b a (length-take-le a x (omega arith)))

-- a number below zero is written, once the minus stands before it
pub minus_done : (x y : List ℕ) (r d m : ℕ) (n : ℤ) (t : Bool) → t ≡ not (non_neg n) → t ≡ true → m ≡ nat_abs n
    → width_of d n ≤ length x → r + length (decimal_of d m) ≡ length x → y ≡ take r x ++ decimal_of d m
    → set y (r - 1) minus ≡ take (length x - width_of d n) x ++ number_text d n
unfolding width_of number_text
minus_done x y r d m (pos k) t p q e l g h = absurd (false≢true (sym p ∙ q))
minus_done x y zero d m (negsuc k) t p q e l g h = absurd (omega (arith, rw e at g))
minus_done x y (suc a) d m (negsuc k) t p q e l g h =
    let start : length x - suc (length (decimal_of d (suc k))) ≡ a = omega (arith, rw e at g) in
    rw (h, e, less_one a, start) (byte_before x (decimal_of d (suc k)) a minus (omega (arith, rw e at g)))
