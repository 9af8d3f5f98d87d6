-- Document 01, "The profile": a profile is refused exactly when one of these lines is broken, those on decimals and step in any unit
-- (document 02, No. 5). F, the limit of the fine range, is document 02's No. 7.
-- Assumes nothing.
use Rattle.std.specs.Prelude.{ℕ, ◌+◌, Bool, true, false, cond, not, ◌&&◌, ◌||◌, List, [], ◌∷◌, leb, ltb, pos, neg_ℤ, take, get_or}
use Rattle.answer.specs.Commands.{is_i2, is_i3, is_i4, is_i5}
use Rattle.model.specs.declared.profile.Text.{Text}
use Rattle.model.specs.declared.profile.Profile.{Profile}
use Rattle.model.specs.declared.profile.Readability.{Readability}
use Rattle.model.specs.declared.profile.Scale.{Scale}
use Rattle.model.specs.declared.weighing.Weighing.{Weighing}
use Rattle.text.specs.Printable.{is_printable}
use Rattle.weight.specs.Ranges.{ranged}
use Rattle.weight.specs.Rounding.{allowed_resolution, places_of}
use Rattle.weight.specs.Places.{fits_field}
use Rattle.weight.specs.declared.units.WeightUnit.{WeightUnit}
use Rattle.weight.specs.Units.{all_units, unit_place}
use Rattle.weight.specs.declared.rounding.Resolution.{Resolution}

-- a text: its first `len` bytes
abbrev pub text_of : {N : ℕ} → Text N → List ℕ
text_of t = take t.len t.bytes

-- Capacity C: 1 to 1,000,000,000
abbrev pub capacity_allowed : Profile → Bool
capacity_allowed p = leb 1 p.capacity && leb p.capacity 1_000_000_000

-- Underload margin U: 0 to C
abbrev pub underload_allowed : Profile → Bool
underload_allowed p = leb p.underload p.capacity

-- Zeroing range R: 0 to C
abbrev pub zero_range_allowed : Profile → Bool
zero_range_allowed p = leb p.zeroing p.capacity

-- Patience W: 1 to 1,000 samples
abbrev pub timeout_allowed : Profile → Bool
timeout_allowed p = leb 1 p.timeout && leb p.timeout 1000

-- decimals and step of a unit, in the order of the units; past the end there are none
abbrev pub no_readability : Readability
no_readability = record { decimals = 0; step = 0 }

abbrev pub resolution_from : List Readability → WeightUnit → Resolution
resolution_from rows u =
    let row = get_or rows (unit_place u) no_readability in
    record { unit = u; decimals = row.decimals; step = row.step; coarse = false }

abbrev pub resolution_of : Profile → WeightUnit → Resolution
resolution_of p u = resolution_from p.readability u

-- Every net weight from -(U+C) to C, printed, fits ten characters, coarse nine: the two ends do
abbrev pub nets_allowed : Profile → Resolution → Bool
nets_allowed p r =
    fits_field r.coarse r.decimals (places_of r (neg_ℤ (pos (p.underload + p.capacity))))
    && fits_field r.coarse r.decimals (places_of r (pos p.capacity))

-- F is below C, so there is a coarse range (No. 7)
abbrev pub is_ranged : Profile → Bool
is_ranged p = ltb p.fine p.capacity

-- A profile with F below C needs at least two decimals, and every net must fit coarse too
abbrev pub coarse_allowed : Profile → Resolution → Bool
coarse_allowed p r = not (is_ranged p) || (leb 2 r.decimals && nets_allowed p (ranged true r))

-- the lines on decimals and step and on the nets, in one unit
unfoldable pub unit_allowed : Profile → WeightUnit → Bool
unit_allowed p u =
    allowed_resolution (resolution_of p u) && nets_allowed p (resolution_of p u) && coarse_allowed p (resolution_of p u)

-- and in every unit, whichever is in force
abbrev pub every_unit : (WeightUnit → Bool) → List WeightUnit → Bool
every_unit f [] = true
every_unit f (u ∷ us) = f u && every_unit f us

abbrev pub units_allowed : Profile → Bool
units_allowed p = every_unit (unit_allowed p) all_units

-- Texts for I2 and I3 (0 to 40 characters), I4 and I5 (0 to 20): bytes 32 to 255 without 34
abbrev pub text_allowed : (N : ℕ) → Text N → Bool
text_allowed N t = leb t.len N && is_printable (text_of t)

abbrev pub texts_allowed : Profile → Bool
texts_allowed p =
    (text_allowed 40 p.model && text_allowed 40 p.software) && (text_allowed 20 p.serial && text_allowed 20 p.release)

-- Fine limit F: 0 to C (No. 7)
abbrev pub fine_allowed : Profile → Bool
fine_allowed p = leb p.fine p.capacity

-- the lines of "The profile", one after another
unfoldable pub profile_allowed : Profile → Bool
profile_allowed p =
    capacity_allowed p
    && underload_allowed p
    && zero_range_allowed p
    && timeout_allowed p
    && units_allowed p
    && texts_allowed p
    && fine_allowed p

-- the fine resolution of the unit in force; `resolution_at` makes of it the one in force, by the weight that decides
unfoldable pub resolution_in : Profile → Weighing → Resolution
resolution_in p w = resolution_of p w.unit

-- what weighing asks of a profile
abbrev pub scale_of : Profile → Weighing → Scale
scale_of p w =
    record { capacity = p.capacity; fine = p.fine; underload = p.underload; zeroing = p.zeroing; resolution = resolution_in p w }

-- the text that goes with I2 to I5
abbrev pub information_text : Profile → ℕ → List ℕ
information_text p c =
    cond (is_i2 c) (text_of p.model)
    (cond (is_i3 c) (text_of p.software)
    (cond (is_i4 c) (text_of p.serial)
    (cond (is_i5 c) (text_of p.release) [])))
