-- Document 01, "The profile", the line on units, and document 02, No. 5: their nanograms, in document 01's order, then kg and lb.
-- Assumes nothing.
use Rattle.std.specs.Prelude.{ℕ, List, [], ◌∷◌}
use Rattle.weight.specs.declared.units.WeightUnit.{WeightUnit}
use Rattle.weight.specs.declared.units.WeightUnit.TheVariants.{G, Mg, Ct, Oz, Ozt, Gn, Dwt, Kg, Lb}

-- the nanograms of one unit
abbrev pub nanograms_of : WeightUnit → ℕ
nanograms_of G = 1_000_000_000
nanograms_of Mg = 1_000_000
nanograms_of Ct = 200_000_000
nanograms_of Oz = 28_349_523_125
nanograms_of Ozt = 31_103_476_800
nanograms_of Gn = 64_798_910
nanograms_of Dwt = 1_555_173_840
nanograms_of Kg = 1_000_000_000_000
nanograms_of Lb = 453_592_370_000

-- the nine, in that order
abbrev pub all_units : List WeightUnit
all_units = G ∷ Mg ∷ Ct ∷ Oz ∷ Ozt ∷ Gn ∷ Dwt ∷ Kg ∷ Lb ∷ []

-- the place of a unit among them
abbrev pub unit_place : WeightUnit → ℕ
unit_place G = 0
unit_place Mg = 1
unit_place Ct = 2
unit_place Oz = 3
unit_place Ozt = 4
unit_place Gn = 5
unit_place Dwt = 6
unit_place Kg = 7
unit_place Lb = 8
