-- Document 01, "Bench cases": the starred ones, and one load in each unit of document 02, No. 5, as one table under one statement.
-- Assumes nothing.
use Prim.Native.Nat.{ℕ}
use Prim.Native.String.{String}
use mathlib.Core.Path.{◌≡◌, refl}
use mathlib.Core.Bool.{true, false}
use mathlib.Core.List.{List, [], ◌∷◌, ◌++◌, map}
use lib.IntN.{ℤ, pos, negsuc}
use Rattle.answer.specs.Lines.{line_end, head_text, weight_text, line_of}
use Rattle.device.specs.Calls.{answer_bytes}
use Rattle.weighing.specs.Weighings.{weighed, weighed_by}
use Rattle.model.specs.declared.profile.Profile.{Profile}
use Rattle.model.specs.declared.weighing.Weighing.{Weighing}
use Rattle.model.specs.Profiles.{resolution_in}
use Rattle.profiles.specs.ProfileA.{profile_with}
use Rattle.text.specs.Ascii.{ascii}
use Rattle.weight.specs.Places.{last_digits, digits_in, digits_of, decimal_of, number_text, width_of, fits_field}
use Rattle.text.specs.Field.{field_of}
use Rattle.weight.specs.Printing.{printable, printed_number}
use Rattle.weight.specs.Rounding.{allowed_resolution, half_up, round_away, steps_of, places_of}
use Rattle.weight.specs.declared.units.WeightUnit.{WeightUnit}
use Rattle.weight.specs.declared.units.WeightUnit.TheVariants.{G, Mg, Ct, Oz, Ozt, Gn, Dwt, Kg, Lb}

-- how weights are shown, a stable load in micrograms with zero and tare 0, and the answer to S
pub record Case : Type 0 where
  pub unit : WeightUnit
  pub decimals : ℕ
  pub step : ℕ
  pub load : ℤ
  pub text : String

abbrev pub case : WeightUnit → ℕ → ℕ → ℤ → String → Case
case u d k n t = record { unit = u; decimals = d; step = k; load = n; text = t }

unfoldable pub cases : List Case
cases =
    case G 4 1 (pos 14_256_049) "S S    14.2560 g"
    ∷ case G 4 1 (pos 14_256_050) "S S    14.2561 g"
    ∷ case G 4 1 (negsuc 48) "S S     0.0000 g"
    ∷ case G 4 1 (negsuc 49) "S S    -0.0001 g"
    ∷ case G 4 5 (pos 249) "S S     0.0000 g"
    ∷ case G 4 5 (pos 250) "S S     0.0005 g"
    ∷ case Ct 3 1 (pos 99) "S S      0.000 ct"
    ∷ case Ct 3 1 (pos 100) "S S      0.001 ct"
    ∷ case Oz 5 1 (pos 28_349_523) "S S    1.00000 oz"
    ∷ case G 4 1 (pos 220_000_000) "S S   220.0000 g"
    ∷ case G 4 1 (pos 220_000_001) "S +"
    ∷ case G 4 1 (negsuc 999_999) "S S    -1.0000 g"
    ∷ case G 4 1 (negsuc 1_000_000) "S -"
    ∷ case Mg 2 1 (pos 14_256_050) "S S   14256.05 mg"
    ∷ case Ct 2 1 (pos 14_256_050) "S S      71.28 ct"
    ∷ case Oz 2 1 (pos 14_256_050) "S S       0.50 oz"
    ∷ case Ozt 2 1 (pos 14_256_050) "S S       0.46 ozt"
    ∷ case Gn 2 1 (pos 14_256_050) "S S     220.00 GN"
    ∷ case Dwt 2 1 (pos 14_256_050) "S S       9.17 dwt"
    ∷ case Kg 2 1 (pos 14_256_050) "S S       0.01 kg"
    ∷ case Lb 2 1 (pos 14_256_050) "S S       0.03 lb"
    ∷ []

-- profile A with the case's decimals and step in its unit, which is in force
abbrev pub profile_of : Case → Profile
profile_of c = profile_with (record { unit = c.unit; decimals = c.decimals; step = c.step; coarse = false })

abbrev pub weighing_of : Case → Weighing
weighing_of c =
    record {
      zero = record { 0 = pos 0 };
      tare = record { 0 = 0 };
      unit = c.unit;
      sampled = true;
      load = record { 0 = c.load };
      stable = true;
    }

-- what the written meaning answers
unfoldable pub answered : Case → List ℕ
answered c = answer_bytes (profile_of c) (weighed (profile_of c) (weighing_of c))

pub bench_cases : map answered cases ≡ map (λ (c : Case). ascii c.text ++ line_end) cases
unfolding
    cases
    answered
    resolution_in
    answer_bytes
    weighed_by
    line_of
    head_text
    weight_text
    printable
    printed_number
    allowed_resolution
    half_up
    round_away
    steps_of
    places_of
    last_digits
    digits_in
    digits_of
    decimal_of
    number_text
    width_of
    fits_field
    field_of
bench_cases = refl
