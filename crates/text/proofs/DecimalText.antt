-- The parts of a decimal's text together: how long they are, how large the number is, and what is read of the whole from them.
-- Assumes nothing.
use mathlib.Core.Path.{◌≡◌, refl, ◌∙◌, sym}
use mathlib.Core.Bool.{Bool, true, false, not, ◌&&◌, ◌||◌, and-false, and-true, and-eq-true_iff, true≢false}
use mathlib.Core.List.{List, [], ◌∷◌}
use Prim.Native.Nat.{ℕ, suc, ◌+◌, ◌-◌, ◌*◌, ◌^◌, ◌≤◌, ◌<◌}
use native.Mathlib.Nat.{add-zero, zero-add, add-suc, suc-add, pow-suc, one-le-pow, pow-le-pow_right}
use native.Mathlib.Omega.{arith}
use lib.Dec.{eqb, leb}
use lib.ListN.{length, take, drop, length-drop}
use lib.Seq.{length-take-le}
use borrow.Author.Tests.{le-ltb, lt-ltb, le-leb, lt-leb, leb-true, eqb-true}
use Rattle.std.specs.Prelude.{Some, None}
use Rattle.weight.specs.Characters.{point}
use Rattle.text.specs.Decimals.{TenDigits, read_whole, read_decimal}
use Rattle.text.specs.Searching.{FirstAt}
use Rattle.text.specs.Reading.{before_point, after_point, has_point, is_digit, all_digits, number_from, is_number, is_decimal, decimals_in, value_in}
use Rattle.text.proofs.Chosen.{none_of, some_of}
use Rattle.text.proofs.Searching.{rest_is, none_between, sides_short}

-- both of two tests that hold together
pub both : (a b : Bool) → a && b ≡ true → (a ≡ true) × (b ≡ true)
both a b = (and-eq-true_iff a b).0

-- ---- the digits

-- a digit is one of ten bytes
pub digit_range : (c : ℕ) → is_digit c ≡ true → (48 ≤ c) × (c ≤ 57)
digit_range c e = let d = both (leb 48 c) (leb c 57) e in (leb-true 48 c d.0, leb-true c 57 d.1)

-- k digits and those of t are so many digits
number_small : (t : List ℕ) (k v : ℕ) → all_digits t ≡ true → v < 10 ^ k → number_from v t < 10 ^ (k + length t)
number_small [] k v e h = rw (add-zero k) h
number_small (c ∷ t) k v e h =
    let d = both (is_digit c) (all_digits t) e in
    let r = digit_range c d.0 in
    rw (add-suc k (length t), ← suc-add k (length t))
    (number_small t (suc k) (v * 10 + (c - 48)) d.1 (rw (pow-suc 10 k) (omega arith)))

-- what the test of a decimal says of its two sides
pub record DecimalParts (t : List ℕ) : Type 0 where
  pub whole : is_number (before_point t) ≡ true
  pub digits : all_digits (after_point t) ≡ true
  pub few : length (after_point t) ≤ 6
  pub some : has_point t ≡ true → 1 ≤ length (after_point t)

pub decimal_parts : (t : List ℕ) → is_decimal t ≡ true → DecimalParts t
unfolding is_decimal
decimal_parts t e = go (has_point t) refl (both (is_number (before_point t)) (not (has_point t) || (is_number (after_point t) && leb (length (after_point t)) 6)) e)
  where
    go : (b : Bool)
        → has_point t ≡ b
        → (is_number (before_point t) ≡ true) × ((not b || (is_number (after_point t) && leb (length (after_point t)) 6)) ≡ true)
        → DecimalParts t
    go true p e =
        let f = both (is_number (after_point t)) (leb (length (after_point t)) 6) e.1 in
        let n = both (leb 1 (length (after_point t))) (all_digits (after_point t)) f.0 in
        record {
          whole = e.0;
          digits = n.1;
          few = leb-true (length (after_point t)) 6 f.1;
          some = λ _. leb-true 1 (length (after_point t)) n.0;
        }
    go false p e =
        record {
          whole = e.0;
          digits = rw (none_between point t p).1;
          few = rw (none_between point t p).1 (omega arith);
          some = λ q. absurd (true≢false (sym q ∙ p));
        }

pub decimals_limit : (t : List ℕ) → is_decimal t ≡ true → decimals_in t ≤ 6
unfolding decimals_in
decimals_limit t e = (decimal_parts t e).few

-- a text of digits, one at least
pub number_parts : (t : List ℕ) → is_number t ≡ true → (1 ≤ length t) × (all_digits t ≡ true)
number_parts t e = let b = both (leb 1 (length t)) (all_digits t) e in (leb-true 1 (length t) b.0, b.1)

-- what holds of no bytes, and of a digit or the point before bytes of which it holds, holds of a decimal
module _ (P : List ℕ → Type 0) (none : P []) (next : (c : ℕ) (t : List ℕ) → point ≤ c → c ≤ 57 → P t → P (c ∷ t)) where
  of_digits : (t : List ℕ) → all_digits t ≡ true → P t
  of_digits [] e = none
  of_digits (c ∷ t) e =
      let d = both (is_digit c) (all_digits t) e in
      let r = digit_range c d.0 in
      next c t (omega (arith, r.0)) r.1 (of_digits t d.1)

  of_sides : (t : List ℕ) → all_digits (before_point t) ≡ true → all_digits (after_point t) ≡ true → P t
  of_sides [] w f = none
  of_sides (c ∷ t) w f = go (eqb c point) refl (of_sides t)
    where
      go : (b : Bool) → eqb c point ≡ b → (all_digits (before_point t) ≡ true → all_digits (after_point t) ≡ true → P t) → P (c ∷ t)
      go true e rest = let is = eqb-true c point e in next c t (omega (arith, is)) (omega (arith, is)) (of_digits t (rw e at f))
      go false e rest =
          let d = both (is_digit c) (all_digits (before_point t)) (rw e at w) in
          let r = digit_range c d.0 in
          next c t (omega (arith, r.0)) r.1 (rest d.1 (rw e at f))

  pub decimal_bytes : (t : List ℕ) → is_decimal t ≡ true → P t
  decimal_bytes t e = let d = decimal_parts t e in of_sides t (number_parts (before_point t) d.whole).1 d.digits

-- ten characters hold a number below 10^10
pub value_small : (t : List ℕ) → length t ≤ 10 → is_decimal t ≡ true → value_in t < 10_000_000_000
unfolding value_in
value_small t short e =
    let d = decimal_parts t e in
    let w = number_small (before_point t) 0 0 (number_parts (before_point t) d.whole).1 (omega arith) in
    let f = number_small (after_point t) (0 + length (before_point t)) (number_from 0 (before_point t)) d.digits w in
    let top = pow-le-pow_right {n = 10} (omega arith) {i = 0 + length (before_point t) + length (after_point t)} {j = 10} (omega (arith, sides_short point t)) in
    omega (arith, f, top)

-- ---- what is read of a decimal from what is read of its two sides

-- the test of a decimal, with and without a point
pointed : (t : List ℕ) → has_point t ≡ true → is_decimal t ≡ is_number (before_point t) && (is_number (after_point t) && leb (length (after_point t)) 6)
unfolding is_decimal
pointed t e = rw e

unpointed : (t : List ℕ) → has_point t ≡ false → is_decimal t ≡ is_number (before_point t)
unfolding is_decimal
unpointed t e = rw e (and-true (is_number (before_point t)))

-- the sides of the point as slices, and what is read of them
module _ (t : List ℕ) (i : ℕ) (p : FirstAt point t i) where
  whole_length : i ≡ length (take i t)
  whole_length = sym (length-take-le i t p.in_text)

  pub whole_room : length t ≤ 10 → TenDigits (take i t) 0
  whole_room short =
      record { short = omega (arith, whole_length, p.in_text); small = one-le-pow (10 - length (take i t)) 10 (omega arith) }

  fraction : take (length t - (i + 1)) (drop (i + 1) t) ≡ after_point t
  fraction = rest_is (i + 1) t ∙ p.after

  whole_is : {v : ℕ} → read_whole 0 (take i t) ≡ Some v → (is_number (before_point t) ≡ true) × (number_from 0 (before_point t) ≡ v)
  whole_is e = some_of (is_number (before_point t)) (number_from 0 (before_point t)) (rw p.before at e)

  -- the digits after the point find room for the number before it
  pub fraction_room : {v : ℕ} → length t ≤ 10 → read_whole 0 (take i t) ≡ Some v → i < length t → TenDigits (take (length t - (i + 1)) (drop (i + 1) t)) v
  fraction_room {v} short e h =
      let n : length (take (length t - (i + 1)) (drop (i + 1) t)) ≡ length t - (i + 1) = rw (rest_is (i + 1) t) (length-drop (i + 1) t) in
      let w = some_of (is_number (take i t)) (number_from 0 (take i t)) e in
      let small = number_small (take i t) 0 0 (number_parts (take i t) w.0).1 (omega arith) in
      let same : 10 ^ (0 + length (take i t)) ≡ 10 ^ i = rw (zero-add (length (take i t)), ← whole_length) in
      let top : 10 ^ i ≤ 10 ^ (10 - (length t - (i + 1))) = pow-le-pow_right {n = 10} (omega arith) (omega arith) in
      record { short = omega arith; small = rw (n, ← w.1) (omega (arith, small, same, top)) }

  -- no digits before the point
  pub no_whole : read_whole 0 (take i t) ≡ None → None ≡ read_decimal t
  unfolding is_decimal
  no_whole e = rw (none_of (is_number (before_point t)) (number_from 0 (before_point t)) (rw p.before at e))

  -- no point
  pub whole_only : {v : ℕ} → read_whole 0 (take i t) ≡ Some v → length t ≤ i → Some (record { decimals = 0; value = v }) ≡ read_decimal t
  unfolding decimals_in value_in
  whole_only e h =
      let bare : has_point t ≡ false = sym p.has ∙ le-ltb i (length t) h in
      let w = whole_is e in
      rw (unpointed t bare, w.0, (none_between point t bare).1, w.1)

  module _ {v : ℕ} (e : read_whole 0 (take i t) ≡ Some v) (h : i < length t) where
    sides : is_decimal t ≡ is_number (after_point t) && leb (length (after_point t)) 6
    sides = pointed t (sym p.has ∙ lt-ltb i (length t) h) ∙ rw (whole_is e).0

    -- no digits after the point
    pub no_fraction : read_whole v (take (length t - (i + 1)) (drop (i + 1) t)) ≡ None → None ≡ read_decimal t
    no_fraction f = rw (sides, none_of (is_number (after_point t)) (number_from v (after_point t)) (rw fraction at f))

    -- more than six
    pub long_fraction : 6 < length (take (length t - (i + 1)) (drop (i + 1) t)) → None ≡ read_decimal t
    long_fraction many =
        rw (sides, lt-leb (length (after_point t)) 6 (rw fraction at many), and-false (is_number (after_point t)))

    -- six at most
    pub with_fraction : {n : ℕ} → read_whole v (take (length t - (i + 1)) (drop (i + 1) t)) ≡ Some n
        → length (take (length t - (i + 1)) (drop (i + 1) t)) ≤ 6
        → Some (record { decimals = length (take (length t - (i + 1)) (drop (i + 1) t)); value = n }) ≡ read_decimal t
    unfolding decimals_in value_in
    with_fraction f few =
        let w = some_of (is_number (after_point t)) (number_from v (after_point t)) (rw fraction at f) in
        rw (sides, fraction, w.0, le-leb (length (after_point t)) 6 (rw fraction at few), (whole_is e).1, w.1)
