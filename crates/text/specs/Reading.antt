-- Reading a number's text: what document 01 says of a typed number ("TA number unit") and of the weight that the host's
-- reader takes ("Refusal numbers", a number written by the rule of "Weights" that fits the field).
-- Assumes nothing.
use Rattle.std.specs.Prelude.{ℕ, ◌+◌, ◌-◌, ◌*◌, Bool, true, false, cond, not, ◌&&◌, ◌||◌, Option, Some, None, List, [], ◌∷◌, ℤ, leb, eqb, length, get_or, take, drop}
use Rattle.text.specs.declared.reading.FieldNumber.{FieldNumber}
use Rattle.weight.specs.Characters.{space, minus, point, digit}
use Rattle.weight.specs.Places.{signed}
use Rattle.text.specs.Searching.{before_first, after_first, has_byte}

-- the bytes before the first point, all of them where there is none
abbrev pub before_point : List ℕ → List ℕ
before_point t = before_first point t

-- the bytes after the first point
abbrev pub after_point : List ℕ → List ℕ
after_point t = after_first point t

abbrev pub has_point : List ℕ → Bool
has_point t = has_byte point t

abbrev pub is_digit : ℕ → Bool
is_digit c = leb (digit 0) c && leb c (digit 9)

abbrev pub all_digits : List ℕ → Bool
all_digits [] = true
all_digits (c ∷ t) = is_digit c && all_digits t

-- the number that a text of digits stands for, after digits that stand for v
abbrev pub number_from : ℕ → List ℕ → ℕ
number_from v [] = v
number_from v (c ∷ t) = number_from (v * 10 + (c - digit 0)) t

-- digits, one at least
abbrev pub is_number : List ℕ → Bool
is_number t = leb 1 (length t) && all_digits t

-- digits with at most one point that has digits on both sides, at most 6 decimals
unfoldable pub is_decimal : List ℕ → Bool
is_decimal t =
    is_number (before_point t) && (not (has_point t) || (is_number (after_point t) && leb (length (after_point t)) 6))

-- how many decimals it has, and its number without the point
unfoldable pub decimals_in : List ℕ → ℕ
decimals_in t = length (after_point t)

unfoldable pub value_in : List ℕ → ℕ
value_in t = number_from (number_from 0 (before_point t)) (after_point t)

-- ---- a field of ten characters

-- what follows the leading spaces
abbrev pub after_spaces : List ℕ → List ℕ
after_spaces [] = []
after_spaces (c ∷ t) = cond (eqb c space) (after_spaces t) (c ∷ t)

abbrev pub has_minus : List ℕ → Bool
has_minus [] = false
has_minus (c ∷ t) = eqb c minus

abbrev pub after_minus : List ℕ → List ℕ
after_minus t = cond (has_minus t) (drop 1 t) t

-- one zero before the point if nothing else stands there, no other leading zeros
abbrev pub no_leading_zero : List ℕ → Bool
no_leading_zero t = leb (length t) 1 || not (eqb (get_or t 0 0) (digit 0))

-- a decimal, written as a weight is; t is what follows the spaces
unfoldable pub is_written : List ℕ → Bool
is_written t =
    is_decimal (after_minus t)
    && no_leading_zero (before_point (after_minus t))
    && not (has_minus t && eqb (value_in (after_minus t)) 0)

-- a number by its decimals, its last places and whether it is one of the coarse range
abbrev pub field_number : ℕ → ℤ → Bool → FieldNumber
field_number d n coarse = record { decimals = d; places = record { 0 = n }; coarse = coarse }

-- the decimals and the last places of a field
unfoldable pub read_number : List ℕ → Option FieldNumber
read_number t =
    cond (is_written t)
    (Some (field_number (decimals_in (after_minus t)) (signed (has_minus t) (value_in (after_minus t))) false))
    None

-- the same of the coarse range (document 02, No. 7): 1 to 5 decimals
abbrev pub coarsely : Option FieldNumber → Option FieldNumber
coarsely (Some n) = cond (leb 1 n.decimals && leb n.decimals 5) (Some (field_number n.decimals n.places.0 true)) None
coarsely None = None

-- ten characters; coarse exactly if the tenth is a space, and then the nine before it
unfoldable pub read_field : List ℕ → Option FieldNumber
read_field l =
    cond (eqb (length l) 10)
    (cond (eqb (get_or l 9 0) space) (coarsely (read_number (after_spaces (take 9 l)))) (read_number (after_spaces l)))
    None
