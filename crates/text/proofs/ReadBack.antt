-- Reading what was written gives the number, the decimals and the range back.
-- Assumes nothing.
use mathlib.Core.Path.{◌≡◌, refl, ◌∙◌, sym, ap, subst}
use mathlib.Core.Bool.{Bool, true, false, ◌&&◌, and_assoc, or-true}
use mathlib.Core.List.{List, [], ◌∷◌, ◌++◌, append-nil, append_assoc}
use Prim.Native.Nat.{ℕ, zero, suc, ◌+◌, ◌-◌, ◌*◌, ◌/◌, ◌%◌, ◌^◌, ◌≤◌, ◌<◌}
use native.Mathlib.Nat.{div-one, div-div-eq-div-mul, pow-suc}
use native.Mathlib.Omega.{arith}
use lib.Dec.{eqb, leb, ltb}
use lib.IntN.{ℤ, pos, negsuc}
use lib.ListN.{length, get_or, take, replicate, length-append, get_or-append}
use lib.Seq.{get_or-append_seam, take_at}
use borrow.Author.Tests.{le-leb, ltb-true, ltb-false, leb-true, eq-eqb, ne_eqb}
use Rattle.std.specs.Prelude.{Some}
use Rattle.weight.specs.Characters.{space, minus, point, digit}
use Rattle.weight.specs.Places.{last_digits, digits_of, decimal_of, number_text, width_of, fits_field}
use Rattle.text.specs.Field.{aligned_in, field_of}
use Rattle.text.specs.Reading.{before_point, after_point, has_point, is_digit, all_digits, number_from, is_number, is_decimal, decimals_in, value_in}
use Rattle.text.specs.Reading.{after_spaces, has_minus, no_leading_zero, is_written, field_number, read_number, read_field}
use Rattle.text.specs.Typed.{is_typed}
use Rattle.weight.proofs.Digits.{digits_small, digits_step, length_last_digits, last_digits_cons}
use Rattle.weight.proofs.Width.{fits_width, fits_decimals}
use Rattle.text.proofs.DecimalText.{both, digit_range}
use Rattle.text.proofs.FieldWidth.{aligned_length}

-- ---- digits

-- the byte of a digit is one
digit_is : (k : ℕ) → k < 10 → is_digit (digit k) ≡ true
digit_is k h = rw (le-leb 48 (48 + k) (omega arith), le-leb (48 + k) 57 (omega arith))

-- what holds of one digit, and of a number if it holds of all its digits but the last
module _ (P : ℕ → Type 0) (small : (m : ℕ) → m < 10 → P m) (step : (m : ℕ) → 10 ≤ m → P (m / 10) → P m) where
  up_to : (f m : ℕ) → m ≤ f → P m
  up_to zero m h = small m (omega arith)
  up_to (suc f) m h = go (ltb m 10) refl (up_to f (m / 10))
    where
      go : (b : Bool) → ltb m 10 ≡ b → (m / 10 ≤ f → P (m / 10)) → P m
      go true e ih = small m (ltb-true m 10 e)
      go false e ih = let ten = ltb-false m 10 e in step m ten (ih (omega arith))

  by_digits : (m : ℕ) → P m
  by_digits m = up_to m m (omega arith)

-- digits after digits
all_append : (a b : List ℕ) → all_digits (a ++ b) ≡ all_digits a && all_digits b
all_append [] b = refl
all_append (c ∷ a) b = ap (λ (x : Bool). is_digit c && x) (all_append a b) ∙ sym (and_assoc (is_digit c) (all_digits a) (all_digits b))

number_append : (v : ℕ) (a b : List ℕ) → number_from v (a ++ b) ≡ number_from (number_from v a) b
number_append v [] b = refl
number_append v (c ∷ a) b = number_append (v * 10 + (c - 48)) a b

-- the digits of a number are digits, one at least, and no zero leads them
record Shortest (m : ℕ) (t : List ℕ) : Type 0 where
  some : 1 ≤ length t
  digits : all_digits t ≡ true
  number : number_from 0 t ≡ m
  lead : 0 < m → 48 < get_or t 0 0
  single : m < 10 → length t ≡ 1

shortest : (m : ℕ) → Shortest m (digits_of m)
shortest = by_digits (λ (m : ℕ). Shortest m (digits_of m)) small step
  where
    small : (m : ℕ) → m < 10 → Shortest m (digits_of m)
    small m h =
        rw (digits_small m h)
        (record {
          some = omega arith;
          digits = rw (digit_is m h);
          number = omega arith;
          lead = λ p. omega arith;
          single = λ _. refl;
        })

    step : (m : ℕ) → 10 ≤ m → Shortest (m / 10) (digits_of (m / 10)) → Shortest m (digits_of m)
    step m h r =
        rw (digits_step m h)
        (record {
          some = rw length-append (omega arith);
          digits = rw (all_append (digits_of (m / 10)) (digit (m % 10) ∷ []), r.digits, digit_is (m % 10) (omega arith));
          number = rw (number_append 0 (digits_of (m / 10)) (digit (m % 10) ∷ []), r.number) (omega arith);
          lead = λ p. rw (get_or-append (digits_of (m / 10)) (digit (m % 10) ∷ []) 0 0 r.some) (r.lead (omega arith));
          single = λ small. absurd (omega arith);
        })

-- a division by one more power of ten takes one digit more off
pub shifted : (m i : ℕ) → m / 10 ^ suc i ≡ m / 10 ^ i / 10
shifted m i = rw (pow-suc 10 i) (sym (div-div-eq-div-mul m (10 ^ i) 10))

-- the last digits of a number are digits, and after the number without them they stand for it
last_all : (d m : ℕ) → all_digits (last_digits d m) ≡ true
unfolding last_digits
last_all zero m = refl
last_all (suc d) m = rw (all_append (last_digits d (m / 10)) (digit (m % 10) ∷ []), last_all d (m / 10), digit_is (m % 10) (omega arith))

last_number : (d m : ℕ) → number_from (m / 10 ^ d) (last_digits d m) ≡ m
unfolding last_digits
last_number zero m = div-one m
last_number (suc d) m =
    rw (last_digits_cons d m, shifted m d)
    (ap (λ (v : ℕ). number_from v (last_digits d m)) (tenfold (m / 10 ^ d)) ∙ last_number d m)
  where
    tenfold : (x : ℕ) → x / 10 * 10 + (digit (x % 10) - 48) ≡ x
    tenfold x = omega arith

-- ---- digits and a point

-- no digit is a point
digit_no_point : (c : ℕ) → is_digit c ≡ true → eqb c point ≡ false
digit_no_point c e = let r = digit_range c e in ne_eqb c point (λ p. omega arith)

-- what a text of digits is cut into, with and without a point after them
record Cut (t w f : List ℕ) (pointed : Bool) : Type 0 where
  before : before_point t ≡ w
  after : after_point t ≡ f
  has : has_point t ≡ pointed

cut_whole : (w : List ℕ) → all_digits w ≡ true → Cut w w [] false
cut_whole [] e = record { before = refl; after = refl; has = refl }
cut_whole (c ∷ w) e =
    let d = both (is_digit c) (all_digits w) e in
    let n = digit_no_point c d.0 in
    let r = cut_whole w d.1 in
    record { before = rw (n, r.before); after = rw (n, r.after); has = rw (n, r.has) }

cut_pointed : (w f : List ℕ) → all_digits w ≡ true → Cut (w ++ (point ∷ f)) w f true
cut_pointed [] f e = record { before = refl; after = refl; has = refl }
cut_pointed (c ∷ w) f e =
    let d = both (is_digit c) (all_digits w) e in
    let n = digit_no_point c d.0 in
    let r = cut_pointed w f d.1 in
    record { before = rw (n, r.before); after = rw (n, r.after); has = rw (n, r.has) }

-- a text of digits is a number if it has any
number_is : (t : List ℕ) → 1 ≤ length t → all_digits t ≡ true → is_number t ≡ true
number_is t h e = rw (le-leb 1 (length t) h, e)

-- no zero leads the digits of a number
no_zero_leads : (m : ℕ) → no_leading_zero (digits_of m) ≡ true
no_zero_leads m = go (ltb m 10) refl
  where
    r : Shortest m (digits_of m)
    r = shortest m

    go : (b : Bool) → ltb m 10 ≡ b → no_leading_zero (digits_of m) ≡ true
    go true e = rw (r.single (ltb-true m 10 e))
    go false e = let ten = ltb-false m 10 e in
        let l = r.lead (omega arith) in
        rw (ne_eqb (get_or (digits_of m) 0 0) 48 (λ p. omega arith)) (or-true (leb (length (digits_of m)) 1))

-- what is read of d decimals that stand for m
record DecimalBack (d m : ℕ) (t : List ℕ) : Type 0 where
  is : is_decimal t ≡ true
  places : decimals_in t ≡ d
  number : value_in t ≡ m
  shortest : no_leading_zero (before_point t) ≡ true
  first : is_digit (get_or t 0 0) ≡ true

-- the first of some digits
first_digit : (t s : List ℕ) → 1 ≤ length t → all_digits t ≡ true → is_digit (get_or (t ++ s) 0 0) ≡ true
first_digit [] s h e = absurd (omega arith)
first_digit (c ∷ t) s h e = (both (is_digit c) (all_digits t) e).0

decimal_back : (d m : ℕ) → d ≤ 6 → DecimalBack d m (decimal_of d m)
unfolding decimal_of is_decimal decimals_in value_in
decimal_back zero m h =
    let w = shortest m in
    let c = cut_whole (digits_of m) w.digits in
    record {
      is = rw (c.before, c.has, number_is (digits_of m) w.some w.digits);
      places = rw c.after;
      number = rw (c.before, c.after, w.number);
      shortest = rw c.before (no_zero_leads m);
      first = rw (← append-nil (digits_of m)) (first_digit (digits_of m) [] w.some w.digits);
    }
decimal_back (suc d) m h =
    let q = m / 10 ^ suc d in
    let f = last_digits (suc d) m in
    let w = shortest q in
    let n = length_last_digits (suc d) m in
    let c = cut_pointed (digits_of q) f w.digits in
    record {
      is =
          rw (
            c.before,
            c.after,
            c.has,
            number_is (digits_of q) w.some w.digits,
            number_is f (omega arith) (last_all (suc d) m),
            n,
            le-leb (suc d) 6 h,
          );
      places = rw c.after n;
      number = rw (c.before, c.after, w.number) (last_number (suc d) m);
      shortest = rw c.before (no_zero_leads q);
      first = first_digit (digits_of q) (point ∷ f) w.some w.digits;
    }

-- ---- a sign and spaces

-- what is read of a text that no space leads
record NumberBack (d : ℕ) (n : ℤ) (t : List ℕ) : Type 0 where
  read : read_number t ≡ Some (field_number d n false)
  first : after_spaces t ≡ t

-- no digit is a minus or a space
digit_no_minus : (t : List ℕ) → is_digit (get_or t 0 0) ≡ true → has_minus t ≡ false
digit_no_minus [] e = refl
digit_no_minus (c ∷ t) e = let r = digit_range c e in ne_eqb c minus (λ p. omega arith)

digit_no_space : (t : List ℕ) → is_digit (get_or t 0 0) ≡ true → after_spaces t ≡ t
digit_no_space [] e = refl
digit_no_space (c ∷ t) e = let r = digit_range c e in rw (ne_eqb c space (λ p. omega arith))

-- what is read of a number's text
number_back : (d : ℕ) (n : ℤ) → d ≤ 6 → NumberBack d n (number_text d n)
unfolding number_text read_number is_written
number_back d (pos m) h =
    let b = decimal_back d m h in
    record {
      read = rw (digit_no_minus (decimal_of d m) b.first, b.is, b.shortest, b.places, b.number);
      first = digit_no_space (decimal_of d m) b.first;
    }
number_back d (negsuc m) h =
    let b = decimal_back d (suc m) h in
    record { read = rw (b.is, b.shortest, b.places, b.number, ne_eqb (suc m) 0 (λ p. omega arith)); first = refl }

-- leading spaces are passed
spaces_off : (k : ℕ) (t : List ℕ) → after_spaces t ≡ t → after_spaces (replicate k space ++ t) ≡ t
spaces_off zero t e = e
spaces_off (suc k) t e = spaces_off k t e

-- ---- the last place

-- a text whose last byte is a digit
record EndsIn (t : List ℕ) : Type 0 where
  front : List ℕ
  last : ℕ
  small : last < 10
  text : t ≡ front ++ (digit last ∷ [])

digits_end : (m : ℕ) → EndsIn (digits_of m)
digits_end m = go (ltb m 10) refl
  where
    go : (b : Bool) → ltb m 10 ≡ b → EndsIn (digits_of m)
    go true e = record { front = []; last = m; small = ltb-true m 10 e; text = digits_small m (ltb-true m 10 e) }
    go false e = record { front = digits_of (m / 10); last = m % 10; small = omega arith; text = digits_step m (ltb-false m 10 e) }

decimal_end : (d m : ℕ) → EndsIn (decimal_of d m)
unfolding decimal_of last_digits
decimal_end zero m = digits_end m
decimal_end (suc d) m =
    record {
      front = digits_of (m / 10 ^ suc d) ++ (point ∷ last_digits d (m / 10));
      last = m % 10;
      small = omega arith;
      text = sym (append_assoc (digits_of (m / 10 ^ suc d)) (point ∷ last_digits d (m / 10)) (digit (m % 10) ∷ []));
    }

number_end : (d : ℕ) (n : ℤ) → EndsIn (number_text d n)
unfolding number_text
number_end d (pos m) = decimal_end d m
number_end d (negsuc m) =
    let e = decimal_end d (suc m) in
    record { front = minus ∷ e.front; last = e.last; small = e.small; text = ap (λ (t : List ℕ). minus ∷ t) e.text }

-- so what is right aligned ends in no space
last_no_space : (a t : List ℕ) (w : ℕ) → EndsIn t → length (a ++ t) ≡ suc w → eqb (get_or (a ++ t) w 0) space ≡ false
last_no_space a t w e long =
    let cut : a ++ t ≡ (a ++ e.front) ++ (digit e.last ∷ []) = rw e.text (sym (append_assoc a e.front (digit e.last ∷ []))) in
    let front : length (a ++ e.front) ≡ w = omega (arith, long, ap length cut, length-append (a ++ e.front) (digit e.last ∷ [])) in
    let last : get_or (a ++ t) w 0 ≡ digit e.last = rw (cut, ← front) (get_or-append_seam (a ++ e.front) (digit e.last) [] 0) in
    rw last (ne_eqb (digit e.last) space (λ p. omega (arith, e.small)))

-- ---- the field

module _ (d : ℕ) (n : ℤ) where
  -- reading what is right aligned in w characters
  aligned_back : (w : ℕ) → d ≤ 6 → read_number (after_spaces (aligned_in w d n)) ≡ Some (field_number d n false)
  aligned_back w few =
      let b = number_back d n few in
      rw (spaces_off (w - width_of d n) (number_text d n) b.first) b.read

  fine_back : fits_field false d n ≡ true → read_field (field_of false d n) ≡ Some (field_number d n false)
  unfolding field_of read_field
  fine_back e =
      let long = aligned_length 10 d n (fits_width false d n e) in
      rw (eq-eqb (length (aligned_in 10 d n)) 10 long, last_no_space (replicate (10 - width_of d n) space) (number_text d n) 9 (number_end d n) long)
      (aligned_back 10 (leb-true d 6 (fits_decimals false d n e)))

  coarse_back : fits_field true d n ≡ true → read_field (field_of true d n) ≡ Some (field_number d n true)
  unfolding field_of read_field
  coarse_back e =
      let a = aligned_in 9 d n in
      let nine = aligned_length 9 d n (fits_width true d n e) in
      let decimals = both (leb 1 d) (leb d 5) (fits_decimals true d n e) in
      let long : length (a ++ (space ∷ [])) ≡ 10 = rw (length-append, nine) in
      let last : get_or (a ++ (space ∷ [])) 9 0 ≡ space = subst (λ (i : ℕ). get_or (a ++ (space ∷ [])) i 0 ≡ space) nine (get_or-append_seam a space [] 0) in
      let front : take 9 (a ++ (space ∷ [])) ≡ a = take_at a (space ∷ []) 9 nine in
      rw (
        eq-eqb (length (a ++ (space ∷ []))) 10 long,
        eq-eqb (get_or (a ++ (space ∷ [])) 9 0) space last,
        front,
        aligned_back 9 (omega (arith, leb-true d 5 decimals.1)),
        decimals.0,
        decimals.1,
      )

-- reading what was written gives the number, the decimals and the range back
pub read_back : (c : Bool) (d : ℕ) (n : ℤ) → fits_field c d n ≡ true → read_field (field_of c d n) ≡ Some (field_number d n c)
read_back true d n e = coarse_back d n e
read_back false d n e = fine_back d n e

-- a number that is not below zero, typed as it was written
pub record TypedBack (d m : ℕ) (t : List ℕ) : Type 0 where
  pub is : is_typed t ≡ true
  pub places : decimals_in t ≡ d
  pub number : value_in t ≡ m

pub typed_back : (d m : ℕ) → fits_field false d (pos m) ≡ true → TypedBack d m (after_spaces (field_of false d (pos m)))
unfolding fits_field field_of width_of number_text is_typed
typed_back d m e =
    let fits = both (leb d 6) (leb (length (decimal_of d m)) 10) e in
    let b = decimal_back d m (leb-true d 6 fits.0) in
    rw (spaces_off (10 - length (decimal_of d m)) (decimal_of d m) (digit_no_space (decimal_of d m) b.first))
    (record { is = rw fits.1 b.is; places = b.places; number = b.number })
