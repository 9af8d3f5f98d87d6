-- Digits from the highest place down, by subtracting powers of ten.
-- Assumes nothing.
use mathlib.Core.Path.{◌≡◌, refl, sym, ap, ◌∙◌}
use mathlib.Core.Bool.{Bool, true, false}
use mathlib.Core.List.{List, [], ◌∷◌, ◌++◌}
use Prim.Native.Nat.{ℕ, zero, suc, ◌+◌, ◌-◌, ◌*◌, ◌/◌, ◌%◌, ◌^◌, ◌≤◌, ◌<◌}
use native.Mathlib.Nat.{mod-lt, mod-eq_of_lt, mod-eq-sub-mod, div-eq_of_lt, div-eq-sub-div, mod-add-div, add-mul-div_left, add-mul-mod_self_left, div-lt_iff_lt-mul, div-div-eq-div-mul, pow-suc, one-le-pow, mul_assoc}
use native.Mathlib.Omega.{arith}
use lib.Dec.{leb, ltb}
use lib.ListN.{length, take, drop, set}
use borrow.Author.Tests.{lt-ltb, le-ltb, ltb-true, ltb-false, leb-true, leb-false}
use Rattle.weight.specs.Characters.{digit}
use Rattle.weight.specs.Places.{last_digits, digits_of}
use Rattle.weight.proofs.Digits.{digits_small, digits_step, length_digits_step, length_last_digits, last_digits_cons}
use Rattle.weight.proofs.Width.{tests_agree, digits_some, whole_fit}
use Rattle.text.specs.Field.{digit_count}
use Rattle.text.proofs.Between.{between, between_none, between_byte, between_after, between_length}

-- ---- how many digits there are

module _ (d c m p : ℕ) (h : d + 1 ≤ c) (e : p ≡ 10 ^ c) where
  test : leb (digit_count d m) c ≡ ltb m p
  unfolding digit_count
  test =
      let all : suc (c - d - 1) + d ≡ c = omega arith in
      tests_agree (length (digits_of (m / 10 ^ d)) + d) c (length (digits_of (m / 10 ^ d))) (suc (c - d - 1)) (λ l. omega arith) (λ l. omega arith)
      ∙ rw e (rw all at (whole_fit d (c - d - 1) m))

  -- a number that reaches 10 ^ c has more than c digits
  pub count_more : p ≤ m → c + 1 ≤ digit_count d m
  count_more l = omega (arith, leb-false (digit_count d m) c (test ∙ le-ltb m p l))

  -- and one below has no more
  pub count_done : m < p → digit_count d m ≤ c
  count_done l = leb-true (digit_count d m) c (test ∙ lt-ltb m p l)

-- one digit stands before the decimals at least
pub count_least : (d m : ℕ) → d + 1 ≤ digit_count d m
unfolding digit_count
count_least d m = omega (arith, digits_some (m / 10 ^ d))

-- which are enough for the number
pub count_above : (d m c : ℕ) → c ≡ digit_count d m → m < 10 ^ c
count_above d m c e = go (ltb m (10 ^ c)) refl
  where
    go : (t : Bool) → ltb m (10 ^ c) ≡ t → m < 10 ^ c
    go true f = ltb-true m (10 ^ c) f
    go false f = absurd (omega (arith, count_more d c m (10 ^ c) (omega (arith, count_least d m)) refl (ltb-false m (10 ^ c) f)))

-- a number of ten digits or more
pub count_ten : (d m : ℕ) → 10 ^ 9 ≤ m → 10 ≤ digit_count d m
count_ten d m h = go (leb (d + 1) 9) refl
  where
    go : (t : Bool) → leb (d + 1) 9 ≡ t → 10 ≤ digit_count d m
    go true e = count_more d 9 m (10 ^ 9) (leb-true (d + 1) 9 e) refl h
    go false e = omega (arith, leb-false (d + 1) 9 e, count_least d m)

-- ---- one digit

-- p was subtracted from v, r is left, and b counts from the byte of 0
pub record Counted (v p r b : ℕ) : Type 0 where
  pub rest : r % p ≡ v % p
  pub digits : b + r / p ≡ 48 + v / p

module _ (v p r b : ℕ) (c : Counted v p r b) where
  -- p goes into what is left
  pub counted_turn : 0 < p → p ≤ r → Counted v p (r - p) (b + 1)
  counted_turn h l = record { rest = sym (mod-eq-sub-mod l) ∙ c.rest; digits = omega (arith, div-eq-sub-div h l, c.digits) }

  pub counted_digit : r < p → b ≡ digit (v / p)
  counted_digit h = omega (arith, div-eq_of_lt h, c.digits)

-- ---- one place

power : (k : ℕ) → 0 < 10 ^ k
power k = one-le-pow k 10 (omega arith)

pub turn_power : (j p : ℕ) → p ≡ 10 ^ j → 0 < p
turn_power j p e = rw e (power j)

-- what the places below k + 1 stand for, beside what stands above them
module _ (k m : ℕ) where
  parts : m ≡ m % 10 ^ suc k + 10 ^ k * (10 * (m / 10 ^ suc k))
  parts = sym (mod-add-div m (10 ^ suc k)) ∙ rw (pow-suc 10 k, mul_assoc (10 ^ k) 10 (m / (10 ^ k * 10)))

  -- the highest place
  place_small : m % 10 ^ suc k / 10 ^ k < 10
  place_small =
      (div-lt_iff_lt-mul (power k)).1 (omega (arith, mod-lt m (power (suc k)), pow-suc 10 k))

  place_digit : m % 10 ^ suc k / 10 ^ k ≡ m / 10 ^ k % 10
  place_digit =
      sym (ap (λ (n : ℕ). n / 10 ^ k % 10) parts
      ∙ ap (λ (n : ℕ). n % 10) (add-mul-div_left (m % 10 ^ suc k) (10 * (m / 10 ^ suc k)) (power k))
      ∙ add-mul-mod_self_left (m % 10 ^ suc k / 10 ^ k) 10 (m / 10 ^ suc k)
      ∙ mod-eq_of_lt place_small)

  -- and the places below it
  place_rest : m % 10 ^ suc k % 10 ^ k ≡ m % 10 ^ k
  place_rest =
      sym (ap (λ (n : ℕ). n % 10 ^ k) parts ∙ add-mul-mod_self_left (m % 10 ^ suc k) (10 ^ k) (10 * (m / 10 ^ suc k)))

  -- written after the digits above it
  place_text : (n : ℕ) → last_digits (suc n) (m / 10 ^ k) ≡ last_digits n (m / 10 ^ suc k) ++ (digit (m % 10 ^ suc k / 10 ^ k) ∷ [])
  unfolding last_digits
  place_text n = rw (place_digit, div-div-eq-div-mul m (10 ^ k) 10, pow-suc 10 k)

-- ---- the digits of a number

-- its last digits do not depend on what stands above them
pub last_of_rest : (k m : ℕ) → last_digits k (m % 10 ^ k) ≡ last_digits k m
unfolding last_digits
last_of_rest zero m = refl
last_of_rest (suc k) m =
    let below : last_digits k (m % 10 ^ suc k) ≡ last_digits k m =
    sym (last_of_rest k (m % 10 ^ suc k)) ∙ rw (place_rest k m) (last_of_rest k m) in
    rw (last_digits_cons k (m % 10 ^ suc k), last_digits_cons k m, mod-eq_of_lt (place_small k m), place_digit k m, below)

-- all digits are as many of its last digits as it has; f is not below m
all_within : (f m : ℕ) → m ≤ f → last_digits (length (digits_of m)) m ≡ digits_of m
unfolding last_digits
all_within zero m h = let l : m < 10 = omega arith in rw (digits_small m l, mod-eq_of_lt l)
all_within (suc f) m h = go (all_within f (m / 10)) (ltb m 10) refl
  where
    go : (m / 10 ≤ f → last_digits (length (digits_of (m / 10))) (m / 10) ≡ digits_of (m / 10))
        → (t : Bool)
        → ltb m 10 ≡ t
        → last_digits (length (digits_of m)) m ≡ digits_of m
    go rest true e = let l = ltb-true m 10 e in rw (digits_small m l, mod-eq_of_lt l)
    go rest false e =
        let l = ltb-false m 10 e in rw (length_digits_step m l, digits_step m l, rest (omega arith))

pub all_last : (m : ℕ) → last_digits (length (digits_of m)) m ≡ digits_of m
all_last m = all_within m m (omega arith)

-- ---- one place after another

-- of v, whose places are those below high, the ones from k on are written into d from a up to e, and r is what the others stand for
pub record Written (d : List ℕ) (a high v : ℕ) (out : List ℕ) (r k e : ℕ) : Type 0 where
  pub within : k ≤ high
  pub cell : e ≡ a + (high - k)
  pub rest : r ≡ v % 10 ^ k
  pub text : out ≡ between d a (last_digits (high - k) (v / 10 ^ k)) e

pub written_none : (d : List ℕ) (a high v : ℕ) → v < 10 ^ high → Written d a high v d v high a
unfolding last_digits
written_none d a high v h =
    let none : high - high ≡ 0 = omega arith in
    record { within = omega arith; cell = omega arith; rest = sym (mod-eq_of_lt h); text = rw none (sym (between_none d a)) }

module _ (d : List ℕ) (a high v : ℕ) (out : List ℕ) (r k e : ℕ) (w : Written d a high v out r k e) where
  ends : a + length (last_digits (high - k) (v / 10 ^ k)) ≡ e
  ends = rw (length_last_digits (high - k) (v / 10 ^ k)) (sym w.cell)

  written_long : e ≤ length d → length out ≡ length d
  written_long l = rw w.text (between_length d a e (last_digits (high - k) (v / 10 ^ k)) ends l)

  -- the place j below k
  module _ (j p : ℕ) (next : k ≡ suc j) (is : p ≡ 10 ^ j) where
    pub turn_written : (e' r' : ℕ) (out' : List ℕ) → e' ≡ e + 1 → e < length d → r' ≡ r % p → out' ≡ set out e (digit (r / p))
        → Written d a high v out' r' j e'
    turn_written e' r' out' one l f g =
        let more : high - j ≡ suc (high - k) = omega (arith, w.within) in
        let longer : last_digits (high - k) (v / 10 ^ k) ++ (digit (r / p) ∷ []) ≡ last_digits (high - j) (v / 10 ^ j) =
        rw (more, w.rest, next, is) (sym (place_text j v (high - suc j))) in
        let byte = between_byte out e (digit (r / p)) (omega (arith, written_long (omega arith))) in
        let after = between_after d a e (last_digits (high - k) (v / 10 ^ k)) ends (omega arith) 1 (digit (r / p) ∷ []) in
        record {
          within = omega (arith, w.within);
          cell = omega (arith, w.cell, w.within);
          rest = f ∙ rw (w.rest, next, is) (place_rest j v);
          text = (g ∙ byte) ∙ rw (w.text, ← longer, one) after;
        }

  pub written_done : (low : ℕ) → k ≡ low → (r ≡ v % 10 ^ low) × (out ≡ take a d ++ last_digits (high - low) (v / 10 ^ low) ++ drop (a + (high - low)) d)
  unfolding between
  written_done low f = rw (← f) (w.rest, w.text ∙ rw w.cell)
