-- Document 01, "The profile", the line on units, and document 02, No. 5: their texts and their codes, in the order of `all_units`.
-- Assumes nothing.
use Rattle.std.specs.Prelude.{ℕ, Bool, true, false, cond, Option, Some, None, List, [], ◌∷◌}
use Rattle.weight.specs.declared.units.WeightUnit.{WeightUnit}
use Rattle.weight.specs.declared.units.WeightUnit.TheVariants.{G, Mg, Ct, Oz, Ozt, Gn, Dwt, Kg, Lb}
use Rattle.weight.specs.Units.{all_units}
use Rattle.text.specs.Ascii.{ascii, same_text}

-- the text of a unit, as it ends a weight answer
abbrev pub unit_text : WeightUnit → List ℕ
unit_text G = ascii "g"
unit_text Mg = ascii "mg"
unit_text Ct = ascii "ct"
unit_text Oz = ascii "oz"
unit_text Ozt = ascii "ozt"
unit_text Gn = ascii "GN"
unit_text Dwt = ascii "dwt"
unit_text Kg = ascii "kg"
unit_text Lb = ascii "lb"

-- its code in M21 (003; 004 has the same, and as 20 another unit of pounds)
abbrev pub unit_code : WeightUnit → List ℕ
unit_code G = ascii "0"
unit_code Mg = ascii "3"
unit_code Ct = ascii "5"
unit_code Oz = ascii "8"
unit_code Ozt = ascii "9"
unit_code Gn = ascii "10"
unit_code Dwt = ascii "11"
unit_code Kg = ascii "1"
unit_code Lb = ascii "7"

-- by which a unit is known: its code, or its text
abbrev pub unit_mark : Bool → WeightUnit → List ℕ
unit_mark true u = unit_code u
unit_mark false u = unit_text u

-- reading it back: the first of these units whose code or text it is
unfoldable pub first_marked : Bool → List ℕ → List WeightUnit → Option WeightUnit
first_marked coded t [] = None
first_marked coded t (u ∷ us) = cond (same_text t (unit_mark coded u)) (Some u) (first_marked coded t us)

unfoldable pub unit_named : List ℕ → Option WeightUnit
unit_named t = first_marked false t all_units

unfoldable pub unit_coded : List ℕ → Option WeightUnit
unit_coded t = first_marked true t all_units
