-- Document 02, No. 7: weights around F in profile A, as one table under one statement.
-- Assumes nothing.
use Prim.Native.Nat.{ℕ}
use Prim.Native.String.{String}
use mathlib.Core.Path.{◌≡◌, refl}
use mathlib.Core.Bool.{true}
use mathlib.Core.List.{List, [], ◌∷◌, ◌++◌, map}
use lib.IntN.{ℤ, pos, negsuc}
use Rattle.answer.specs.Commands.{place_t}
use Rattle.answer.specs.declared.answer.Answer.{Answer}
use Rattle.answer.specs.Lines.{line_end, head_text, weight_text, line_of}
use Rattle.device.specs.Calls.{answer_bytes}
use Rattle.weighing.specs.Weighings.{tared, tared_by, tare_answer, weighed, weighed_by}
use Rattle.model.specs.declared.profile.Profile.{Profile}
use Rattle.model.specs.declared.weighing.Weighing.{Weighing}
use Rattle.model.specs.Profiles.{resolution_in, scale_of}
use Rattle.profiles.specs.ProfileA.{profile_fine}
use Rattle.text.specs.Ascii.{ascii}
use Rattle.text.specs.Field.{field_of}
use Rattle.weight.specs.Places.{last_digits, digits_in, digits_of, decimal_of, number_text, width_of, fits_field}
use Rattle.weight.specs.Printing.{printable, printed_number}
use Rattle.weight.specs.Rounding.{allowed_resolution, half_up, round_away, steps_of, places_of}
use Rattle.weight.specs.declared.units.WeightUnit.TheVariants.{G}

pub data Asked : Type 0 where
  S : Asked
  T : Asked
  TA : Asked

-- F, a tare and a stable load in micrograms, zero 0, what is asked and its answer
pub record Case : Type 0 where
  pub fine : ℕ
  pub tare : ℕ
  pub load : ℤ
  pub asked : Asked
  pub text : String

abbrev pub case : ℕ → ℕ → ℤ → Asked → String → Case
case fine tare load asked text = record { fine = fine; tare = tare; load = load; asked = asked; text = text }

abbrev pub hundred : ℕ
hundred = 100_000_000

unfoldable pub cases : List Case
cases =
    -- above F is strict
    case hundred 0 (pos 100_000_000) S "S S   100.0000 g"
    ∷ case hundred 0 (pos 100_000_001) S "S S   100.000  g"
    -- gross decides, net is printed
    ∷ case hundred 0 (pos 150_000_000) T "T S   150.000  g"
    ∷ case hundred 150_000_000 (pos 150_000_500) S "S S     0.001  g"
    ∷ case hundred 150_000_000 (pos 10_000_000) S "S S  -140.0000 g"
    -- in a tare answer the tare
    ∷ case hundred 50_000_000 (pos 200_000_000) TA "TA A    50.0000 g"
    ∷ case hundred 100_000_001 (pos 0) TA "TA A   100.000  g"
    ∷ case hundred 0 (pos 100_000_000) T "T S   100.0000 g"
    -- one rounding, a tie away from zero, and no minus before zero
    ∷ case hundred 150_000_000 (pos 150_001_450) S "S S     0.001  g"
    ∷ case hundred 150_000_000 (pos 150_000_499) S "S S     0.000  g"
    ∷ case hundred 150_000_500 (pos 150_000_000) S "S S    -0.001  g"
    ∷ case hundred 150_000_499 (pos 150_000_000) S "S S     0.000  g"
    -- F = 0
    ∷ case 0 0 (pos 0) S "S S     0.0000 g"
    ∷ case 0 0 (pos 1) S "S S     0.000  g"
    ∷ case 0 0 (negsuc 49) S "S S    -0.0001 g"
    -- out of range as before
    ∷ case hundred 0 (pos 220_000_000) S "S S   220.000  g"
    ∷ case hundred 0 (pos 220_000_001) S "S +"
    -- F = C
    ∷ case 220_000_000 0 (pos 220_000_000) S "S S   220.0000 g"
    ∷ []

abbrev pub weighing_of : Case → Weighing
weighing_of c =
    record {
      zero = record { 0 = pos 0 };
      tare = record { 0 = c.tare };
      unit = G;
      sampled = true;
      load = record { 0 = c.load };
      stable = true;
    }

abbrev pub answer_to : Asked → Profile → Weighing → Answer
answer_to S p w = weighed p w
answer_to T p w = (tared p w place_t).answer
answer_to TA p w = tare_answer (scale_of p w) w.tare.0

-- what the written meaning answers
unfoldable pub answered : Case → List ℕ
answered c = answer_bytes (profile_fine c.fine) (answer_to c.asked (profile_fine c.fine) (weighing_of c))

pub range_cases : map answered cases ≡ map (λ (c : Case). ascii c.text ++ line_end) cases
unfolding
    cases
    answered
    resolution_in
    answer_bytes
    weighed_by
    tared_by
    line_of
    head_text
    weight_text
    printable
    printed_number
    allowed_resolution
    half_up
    round_away
    steps_of
    places_of
    last_digits
    digits_in
    digits_of
    decimal_of
    number_text
    width_of
    fits_field
    field_of
range_cases = refl
