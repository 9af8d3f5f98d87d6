-- What is read of a field: the minus, the number and the whole.
-- Assumes nothing.
use mathlib.Core.Path.{◌≡◌, refl, ◌∙◌, sym, ap}
use mathlib.Core.Bool.{Bool, true, false, cond, not, ◌&&◌, ◌||◌}
use mathlib.Core.List.{List}
use Prim.Native.Nat.{ℕ, ◌≤◌}
use native.Mathlib.Omega.{arith}
use lib.Dec.{eqb}
use lib.ListN.{length, get_or, take, drop, length-drop}
use lib.Seq.{take_all}
use borrow.Author.Tests.{eq-eqb, ne_eqb}
use Rattle.std.specs.Prelude.{Option, Some, None}
use Rattle.weight.specs.declared.rounding.LastPlaces.{LastPlaces}
use Rattle.weight.specs.Characters.{space}
use Rattle.weight.specs.Places.{signed, signed_places, characters_in}
use Rattle.weight.proofs.SignedPlaces.{signed_within}
use Rattle.text.specs.declared.reading.Decimal.{Decimal}
use Rattle.text.specs.declared.reading.FieldNumber.{FieldNumber}
use Rattle.text.specs.Decimals.{read_decimal}
use Rattle.text.specs.Reading.{before_point, has_minus, after_minus, no_leading_zero, is_decimal, value_in, decimals_in, is_written, read_number, read_field, after_spaces, coarsely}
use Rattle.text.proofs.Chosen.{none_of, some_of}
use Rattle.text.proofs.DecimalText.{value_small}

-- ---- the number

after_minus_short : (t : List ℕ) → length t ≤ 10 → length (after_minus t) ≤ 10
after_minus_short t h = by (has_minus t)
  where
    by : (b : Bool) → length (cond b (drop 1 t) t) ≤ 10
    by true = omega (arith, length-drop 1 t)
    by false = h

-- two tests that fail
neither : (a b : Bool) → b && not a ≡ not (a || not b)
neither true true = refl
neither true false = refl
neither false true = refl
neither false false = refl

module _ (t a : List ℕ) (b : Bool) (m : b ≡ has_minus t) (s : a ≡ after_minus t) where
  -- what follows the minus is no decimal
  pub no_number : read_decimal a ≡ None → None ≡ read_number t
  unfolding read_number is_written
  no_number e =
      rw (none_of (is_decimal (after_minus t)) (record { decimals = decimals_in (after_minus t); value = value_in (after_minus t) }) (rw s at e))

  module _ (x : Decimal) (e : read_decimal a ≡ Some x) where
    is : (is_decimal (after_minus t) ≡ true) × (record { decimals = decimals_in (after_minus t); value = value_in (after_minus t) } ≡ x)
    is = some_of (is_decimal (after_minus t)) (record { decimals = decimals_in (after_minus t); value = value_in (after_minus t) }) (rw s at e)

    -- the code's test is the definition's
    written : is_written t ≡ not ((b && eqb x.value 0) || not (no_leading_zero (before_point a)))
    unfolding is_written
    written = rw (is.0, m, s, ← is.1) (neither (has_minus t && eqb (value_in (after_minus t)) 0) (no_leading_zero (before_point (after_minus t))))

    pub not_written : (b && eqb x.value 0) || not (no_leading_zero (before_point a)) ≡ true → None ≡ read_number t
    unfolding read_number
    not_written f = rw (written ∙ ap not f)

    pub read_written : (p : LastPlaces) → length t ≤ 10 → (b && eqb x.value 0) || not (no_leading_zero (before_point a)) ≡ false
        → p.0 ≡ signed_places b x.value → Some (record { decimals = x.decimals; places = p; coarse = false }) ≡ read_number t
    unfolding read_number
    read_written p short f q =
        let small = value_small (after_minus t) (after_minus_short t short) is.0 in
        let value : x.value ≡ value_in (after_minus t) = sym (ap (λ (n : Decimal). n.value) is.1) in
        let places : p.0 ≡ signed (has_minus t) (value_in (after_minus t)) = q ∙ rw (value, m) (signed_within (has_minus t) (value_in (after_minus t)) small) in
        rw (written ∙ ap not f, ← is.1, ← places)

-- ---- the field

-- any length but ten
pub wrong_width : (l : List ℕ) → (length l ≡ 10 → ⊥) → None ≡ read_field l
unfolding read_field
wrong_width l n = rw (ne_eqb (length l) 10 n)

-- ten characters, the last of which is a space or not
module _ (l : List ℕ) {w : ℕ} {x : Option FieldNumber} (h : length l ≡ 10) (width : w ≡ characters_in (eqb (get_or l 9 0) space))
    (e : x ≡ read_number (after_spaces (take w l))) where
  pub coarse_read : {y : Option FieldNumber} → get_or l 9 0 ≡ space → y ≡ coarsely x → y ≡ read_field l
  unfolding read_field
  coarse_read s f =
      let b = eq-eqb (get_or l 9 0) space s in rw (eq-eqb (length l) 10 h, b) (f ∙ ap coarsely (rw (width, b) at e))

  pub fine_read : (get_or l 9 0 ≡ space → ⊥) → x ≡ read_field l
  unfolding read_field
  fine_read s =
      let b = ne_eqb (get_or l 9 0) space s in
      rw (eq-eqb (length l) 10 h, b) (rw (width, b, take_all 10 l (omega (arith, h))) at e)
