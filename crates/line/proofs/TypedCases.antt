-- Document 01's bench cases of TA and those of document 02's No. 3 and No. 7, as one table under one statement: what the written meaning judges
-- of a line. A definition that was wrong in the code's way would show here.
-- Assumes nothing.
use Prim.Native.Nat.{ℕ}
use Prim.Native.String.{String}
use mathlib.Core.Path.{◌≡◌, refl}
use mathlib.Core.Bool.{true, false}
use mathlib.Core.List.{List, [], ◌∷◌, map}
use Rattle.answer.specs.Commands.{place_in, place_of, place_sr, place_ta}
use Rattle.line.specs.declared.judge.Verdict.{Verdict}
use Rattle.line.specs.declared.judge.Verdict.TheVariants.{Wrong, Preset, Change}
use Rattle.line.specs.Judging.{command_in, is_quoted, number_in, preset_in, typed_in, is_wrong, own_rule}
use Rattle.line.specs.Unbounded.{judgement_of}
use Rattle.text.specs.Ascii.{ascii}
use Rattle.text.specs.Reading.{is_decimal, decimals_in, value_in}
use Rattle.text.specs.Typed.{is_typed, preset_resolution, read_preset, read_typed}
use Rattle.weight.specs.declared.units.WeightUnit.{WeightUnit}
use Rattle.weight.specs.declared.units.WeightUnit.TheVariants.{G, Oz}
use Rattle.weight.specs.Amounts.{typed_micrograms, amount_of}
use Rattle.weight.specs.Presets.{preset_steps, preset_places, preset_micrograms}
use Rattle.weight.specs.Ranges.{typed_resolution}
use Rattle.weight.specs.Rounding.{allowed_resolution, half_up}

-- C, F, how weights are shown, and a good line with no command waiting
pub record Case : Type 0 where
  pub capacity : ℕ
  pub fine : ℕ
  pub unit : WeightUnit
  pub decimals : ℕ
  pub step : ℕ
  pub line : String
  pub verdict : Verdict

abbrev pub case_fine : ℕ → ℕ → WeightUnit → ℕ → ℕ → String → Verdict → Case
case_fine capacity fine u d k l v = record { capacity = capacity; fine = fine; unit = u; decimals = d; step = k; line = l; verdict = v }

-- F = C
abbrev pub case : ℕ → WeightUnit → ℕ → ℕ → String → Verdict → Case
case capacity = case_fine capacity capacity

-- profile A
abbrev pub in_a : String → Verdict → Case
in_a = case 220_000_000 G 4 1

-- profile A with this F
abbrev pub in_fine : ℕ → String → Verdict → Case
in_fine fine = case_fine 220_000_000 fine G 4 1

-- the tare in micrograms, and L
abbrev pub sets : ℕ → Verdict
sets m = Preset (record { 0 = m })

abbrev pub refused : Verdict
refused = Wrong place_ta

unfoldable pub cases : List Case
cases =
    -- document 01's, of which the second changed sides
    in_a "TA 100.00 g" (sets 100_000_000)
    ∷ in_a "TA 220.000001 g" (sets 220_000_000)
    ∷ in_a "TA -1 g" refused
    ∷ in_a "TA 100.00 G" refused
    ∷ in_a "TA 1. g" refused
    -- the first tie, in each step
    ∷ in_a "TA 220.000049 g" (sets 220_000_000)
    ∷ in_a "TA 220.00005 g" refused
    ∷ in_a "TA 0.00005 g" (sets 100)
    ∷ in_a "TA 0.000049 g" (sets 0)
    ∷ case 220_000_000 G 4 2 "TA 0.0001 g" (sets 200)
    ∷ case 220_000_000 G 4 2 "TA 0.000099 g" (sets 0)
    ∷ case 220_000_000 G 4 5 "TA 0.00025 g" (sets 500)
    ∷ case 220_000_000 G 4 5 "TA 0.000249 g" (sets 0)
    -- the second, at C and a microgram above it
    ∷ case 220_000_000 Oz 5 1 "TA 1.000005 oz" (sets 28_349_807)
    ∷ case 113_398_093 Oz 5 1 "TA 4 oz" (sets 113_398_093)
    ∷ case 113_398_092 Oz 5 1 "TA 4 oz" refused
    -- only the result is compared with C
    ∷ case 1_000_000_000 G 0 5 "TA 1002.4 g" (sets 1_000_000_000)
    ∷ case 1_000_000_000 G 0 5 "TA 1002.5 g" refused
    ∷ case 1_000_000_000 Oz 0 5 "TA 37.4 oz" (sets 992_233_309)
    ∷ case 1_000_000_000 Oz 6 1 "TA 9999999999 oz" refused
    -- SR's number, to the microgram
    ∷ in_a "SR 220.000001 g" (Wrong place_sr)
    ∷ in_a "SR 0.00004 g" (Change (record { 0 = 40 }))
    -- No. 7: above F, exactly and before any rounding, to the coarse step
    ∷ in_fine 100_000_000 "TA 100 g" (sets 100_000_000)
    ∷ in_fine 100_000_000 "TA 100.00004 g" (sets 100_000_000)
    ∷ in_fine 100_000_000 "TA 100.0004 g" (sets 100_000_000)
    ∷ in_fine 100_000_000 "TA 100.0005 g" (sets 100_001_000)
    ∷ in_fine 100_000_000 "TA 99.99995 g" (sets 100_000_000)
    ∷ in_fine 100_000_000 "TA 220.0004 g" (sets 220_000_000)
    ∷ in_fine 100_000_000 "TA 220.0005 g" refused
    ∷ in_a "TA 220.0004 g" refused
    ∷ in_fine 100_000_050 "TA 100.00005 g" (sets 100_000_100)
    ∷ in_fine 100_000_050 "TA 100.000051 g" (sets 100_000_000)
    ∷ in_fine 0 "TA 0.000001 g" (sets 0)
    ∷ case_fine 220_000_000 28_349_523 Oz 5 1 "TA 1.00000 oz" (sets 28_349_523)
    ∷ in_fine 0 "TA 9999999999 g" refused
    ∷ in_fine 100_000_000 "SR 100.00004 g" (Change (record { 0 = 100_000_040 }))
    ∷ []

-- what the written meaning judges
unfoldable pub judged : Case → Verdict
judged c =
    judgement_of
    (record { capacity = c.capacity; fine = c.fine; resolution = record { unit = c.unit; decimals = c.decimals; step = c.step; coarse = false }; waiting = false; sampled = true })
    (map (λ (b : ℕ). record { byte = b; faulty = false }) (ascii c.line))

pub typed_cases : map judged cases ≡ map (λ (c : Case). c.verdict) cases
unfolding
    cases
    judged
    judgement_of
    command_in
    place_in
    place_of
    is_wrong
    own_rule
    is_quoted
    number_in
    preset_in
    preset_resolution
    typed_resolution
    typed_in
    read_preset
    read_typed
    is_typed
    is_decimal
    decimals_in
    value_in
    amount_of
    typed_micrograms
    preset_micrograms
    preset_places
    preset_steps
    allowed_resolution
    half_up
typed_cases = refl
