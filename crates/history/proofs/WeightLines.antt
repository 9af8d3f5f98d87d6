-- A weight answer whole: the ten characters of its line are read back as the number that was printed.
-- Assumes nothing.
use Prim.Native.Nat.{ℕ}
use mathlib.Core.Path.{◌≡◌}
use mathlib.Core.Bool.{Bool, true, false, cond, ◌&&◌}
use mathlib.Core.List.{List, ◌++◌, append_assoc}
use lib.IntN.{ℤ}
use lib.ListN.{length, take, drop}
use lib.Seq.{take_at, drop_at}
use Rattle.answer.specs.Commands.{place_s, place_t, place_ta, place_ti}
use Rattle.answer.specs.declared.answer.Answer.TheVariants.{Weight}
use Rattle.answer.specs.declared.answer.Status.TheVariants.{A, S, D}
use Rattle.answer.specs.Lines.{line_end, head_text, weight_text, line_of, head_of}
use Rattle.model.specs.declared.profile.Profile.{Profile}
use Rattle.weighing.specs.Weighings.{number_in}
use Rattle.device.specs.Calls.{answer_bytes}
use Rattle.std.specs.Prelude.{Some}
use Rattle.text.specs.Ascii.{ascii, same_text}
use Rattle.text.specs.UnitTexts.{unit_text}
use Rattle.weight.specs.declared.rounding.Resolution.{Resolution}
use Rattle.weight.specs.Places.{fits_field}
use Rattle.text.specs.Field.{field_of}
use Rattle.text.specs.Reading.{field_number, read_field}
use Rattle.weight.specs.Rounding.{allowed_resolution, in_range, places_of}
use Rattle.weight.specs.Printing.{printable, printed_number}
use Rattle.weight.proofs.Allowed.{both_right}
use Rattle.text.proofs.Named.{same_self}
use Rattle.text.proofs.ReadBack.{read_back}
use Rattle.text.proofs.FieldWidth.{field_length}
use Rattle.history.specs.Tally.{ten_of, is_whole}

-- ---- four pieces, of which the first has ten characters

module _ (f g u e : List ℕ) (long : length f ≡ 10) where
  first_piece : f ++ g ++ u ++ e ≡ f ++ (g ++ u ++ e)
  first_piece = simp append_assoc

  ten_first : take 10 (f ++ g ++ u ++ e) ≡ f
  ten_first = rw first_piece (take_at f (g ++ u ++ e) 10 long)

  rest_after : drop 10 (f ++ g ++ u ++ e) ≡ g ++ u ++ e
  rest_after = rw first_piece (drop_at f (g ++ u ++ e) 10 long)

-- ---- the weight after the head

module _ (r : Resolution) (w : ℤ) (fits : printable r w ≡ true) where
  pub places_printed : (number_in r w).places.0 ≡ places_of r w
  unfolding printed_number
  places_printed = rw fits

  pub field_fits : fits_field r.coarse r.decimals (places_of r w) ≡ true
  unfolding printable
  field_fits = both_right (allowed_resolution r && in_range w) _ fits

  -- ten characters, space, unit
  weight_pieces : weight_text (number_in r w) ≡ field_of r.coarse r.decimals (places_of r w) ++ ascii " " ++ unit_text r.unit
  unfolding weight_text
  weight_pieces = rw (places_printed, field_fits)

  ten_printed : take 10 (weight_text (number_in r w) ++ line_end) ≡ field_of r.coarse r.decimals (places_of r w)
  ten_printed =
      rw weight_pieces
      (ten_first (field_of r.coarse r.decimals (places_of r w)) (ascii " ") (unit_text r.unit) line_end
      (field_length r.coarse r.decimals (places_of r w) field_fits))

  rest_printed : drop 10 (weight_text (number_in r w) ++ line_end) ≡ ascii " " ++ unit_text r.unit ++ line_end
  rest_printed =
      rw weight_pieces
      (rest_after (field_of r.coarse r.decimals (places_of r w)) (ascii " ") (unit_text r.unit) line_end
      (field_length r.coarse r.decimals (places_of r w) field_fits))

  -- the number is read back
  number_back : read_field (take 10 (weight_text (number_in r w) ++ line_end)) ≡ Some (field_number r.decimals (places_of r w) r.coarse)
  number_back = rw ten_printed (read_back r.coarse r.decimals (places_of r w) field_fits)

  -- and the unit and CR LF follow it
  rest_whole : same_text (drop 10 (weight_text (number_in r w) ++ line_end)) (ascii " " ++ unit_text r.unit ++ ascii "\r\n") ≡ true
  rest_whole = rw rest_printed (same_self (ascii " " ++ unit_text r.unit ++ line_end))

-- ---- the weight lines

-- a whole weight answer, whose number is that of w micrograms
pub record Shows (r : Resolution) (w : ℤ) (l : List ℕ) : Type 0 where
  pub whole : is_whole r.unit l ≡ true
  pub ten : ten_of l ≡ field_of r.coarse r.decimals (places_of r w)
  pub number : read_field (ten_of l) ≡ Some (field_number r.decimals (places_of r w) r.coarse)

module _ (p : Profile) (r : Resolution) (w : ℤ) (fits : printable r w ≡ true) where
  pub weighed_shows : (stable : Bool) → Shows r w (answer_bytes p (Weight (head_of place_s (cond stable S D)) (number_in r w)))
  unfolding answer_bytes line_of head_text
  weighed_shows true = record { whole = rest_whole r w fits; ten = ten_printed r w fits; number = number_back r w fits }
  weighed_shows false = record { whole = rest_whole r w fits; ten = ten_printed r w fits; number = number_back r w fits }

  pub tared_shows : Shows r w (answer_bytes p (Weight (head_of place_t S) (number_in r w)))
  unfolding answer_bytes line_of head_text
  tared_shows = record { whole = rest_whole r w fits; ten = ten_printed r w fits; number = number_back r w fits }

  pub tared_now_shows : (stable : Bool) → Shows r w (answer_bytes p (Weight (head_of place_ti (cond stable S D)) (number_in r w)))
  unfolding answer_bytes line_of head_text
  tared_now_shows true = record { whole = rest_whole r w fits; ten = ten_printed r w fits; number = number_back r w fits }
  tared_now_shows false = record { whole = rest_whole r w fits; ten = ten_printed r w fits; number = number_back r w fits }

  pub told_shows : Shows r w (answer_bytes p (Weight (head_of place_ta A) (number_in r w)))
  unfolding answer_bytes line_of head_text
  told_shows = record { whole = rest_whole r w fits; ten = ten_printed r w fits; number = number_back r w fits }
