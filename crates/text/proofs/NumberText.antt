-- The parts of a number's text, as a search through it meets them: at place i either the part ends or the search goes on.
-- Assumes nothing.
use mathlib.Core.Path.{◌≡◌, refl, ◌∙◌, ap}
use mathlib.Core.Bool.{Bool, true, false, cond, not, ◌&&◌, ◌||◌}
use mathlib.Core.List.{List, [], ◌∷◌}
use Prim.Native.Nat.{ℕ, suc, ◌+◌, ◌-◌, ◌*◌, ◌^◌, ◌≤◌, ◌<◌}
use native.Mathlib.Nat.{add-zero, add-suc, pow-suc}
use native.Mathlib.Numerals.{add-one}
use native.Mathlib.Omega.{arith}
use lib.Dec.{leb, ltb, eqb}
use lib.ListN.{length, get_or, drop}
use lib.Seq.{drop-cons}
use Rattle.std.proofs.lemmas.Bool.Decides.{nat_tests}
use Rattle.classes.specs.Classes.{first_in}
use Rattle.classes.proofs.Texts.{first_limit}
use Rattle.classes.proofs.Words.{no_spaces}
use Rattle.std.specs.Prelude.{None}
use Rattle.weight.specs.Characters.{space}
use Rattle.text.specs.Decimals.{TenDigits, read_whole}
use Rattle.text.specs.Reading.{is_digit, all_digits, number_from, is_number, after_spaces}
use Rattle.text.proofs.DecimalText.{both, digit_range, number_parts}
use Rattle.text.proofs.Printing.{digits_by}

-- ---- the leading spaces

-- they are in the text
pub spaces_limit : (t : List ℕ) {i : ℕ} → i ≡ first_in 251 t → i ≤ length t
spaces_limit t e = rw e (first_limit 251 t)

-- they end at the first byte of another class
pub spaces_counted : (t : List ℕ) {i : ℕ} → i ≡ first_in 251 t → drop i t ≡ after_spaces t
unfolding first_in
spaces_counted [] e = rw e
spaces_counted (c ∷ t) e = rw (e, no_spaces c) (by (eqb c space) (spaces_counted t refl))
  where
    by : (here : Bool) → drop (first_in 251 t) t ≡ after_spaces t
        → drop (cond (not here) 0 (suc (first_in 251 t))) (c ∷ t) ≡ cond here (after_spaces t) (c ∷ t)
    by true h = h
    by false h = refl

-- ---- digits

-- the code's test is the definition's
apart : (n i : ℕ) → leb 1 n && leb n i ≡ not (ltb n 1 || ltb i n)
apart n i = grind (arith, nat_tests)

is_apart : (t : List ℕ) {i : ℕ} → i ≡ first_in 254 t → is_number t ≡ not (ltb (length t) 1 || ltb i (length t))
is_apart t {i} first = rw (← digits_by t first) (apart (length t) i)

pub no_number : (t : List ℕ) (start : ℕ) {i : ℕ} → i ≡ first_in 254 t → ltb (length t) 1 || ltb i (length t) ≡ true → None ≡ read_whole start t
no_number t start first h = rw (is_apart t first ∙ ap not h)

-- up to ten digits after start: those below i are passed and stand, with start, for value
pub record ReadSoFar (t : List ℕ) (start value i : ℕ) : Type 0 where
  pub in_text : i ≤ length t
  pub some : 1 ≤ length t
  pub short : length t ≤ 10
  pub small : value < 10 ^ (10 - length t + i)
  pub all : all_digits t ≡ true
  pub digits : all_digits (drop i t) ≡ true
  pub number : number_from value (drop i t) ≡ number_from start t

-- nothing is passed
pub nothing_read : (t : List ℕ) (start : ℕ) {i : ℕ} → TenDigits t start → i ≡ first_in 254 t → ltb (length t) 1 || ltb i (length t) ≡ false → ReadSoFar t start start 0
nothing_read t start ten first h =
    let parts = number_parts t (is_apart t first ∙ ap not h) in
    record { in_text = omega arith; some = parts.0; short = ten.short; small = rw (add-zero (10 - length t)) ten.small; all = parts.1; digits = parts.1; number = refl }

module _ (t : List ℕ) (start value i : ℕ) (r : ReadSoFar t start value i) where
  -- the next byte and those after it are digits
  next : i < length t → (is_digit (get_or t i 0) ≡ true) × (all_digits (drop (i + 1) t) ≡ true)
  next h = rw (add-one i) (both (is_digit (get_or t i 0)) (all_digits (drop (suc i) t)) (rw (drop-cons t i 0 h) at r.digits))

  digit_here : i < length t → (48 ≤ get_or t i 0) × (get_or t i 0 ≤ 57)
  digit_here h = digit_range (get_or t i 0) (next h).0

  -- a digit
  pub digit_read : i < length t → ReadSoFar t start (value * 10 + (get_or t i 0 - 48)) (i + 1)
  digit_read h =
      record {
        in_text = omega arith;
        some = r.some;
        short = r.short;
        small = rw (add-one i, add-suc (10 - length t) i, pow-suc 10 (10 - length t + i)) (omega (arith, r.small, (digit_here h).1));
        all = r.all;
        digits = (next h).1;
        number = rw (add-one i) (rw (drop-cons t i 0 h) at r.number);
      }
