-- Document 01, "Bench cases": profile A.
-- Assumes nothing.
use Rattle.std.specs.Prelude.{ℕ, List, ◌∷◌, ◌++◌, replicate, set}
use Rattle.model.specs.declared.profile.Profile.{Profile}
use Rattle.model.specs.declared.profile.Readability.{Readability}
use Rattle.model.specs.declared.profile.Text.{Text}
use Rattle.weight.specs.declared.rounding.Resolution.{Resolution}
use Rattle.weight.specs.Characters.{space}
use Rattle.weight.specs.Units.{unit_place}
use Rattle.text.specs.Ascii.{ascii}

abbrev pub no_text : (N : ℕ) → Text N
no_text N = record { bytes = replicate N 0; len = 0 }

-- I4 text VA-0001
abbrev pub serial_a : Text 20
serial_a = record { bytes = ascii "VA-0001" ++ replicate 13 space; len = 7 }

-- in the order of the units: g has d 4, k 1, the others d 2, k 1
abbrev pub readability_a : List Readability
readability_a = record { decimals = 4; step = 1 } ∷ replicate 8 (record { decimals = 2; step = 1 })

-- C 220,000,000, U 1,000,000, R 4,400,000, W 3, the other texts empty
abbrev profile_of : ℕ → List Readability → Profile
profile_of fine rows =
    record {
      capacity = 220_000_000;
      fine = fine;
      underload = 1_000_000;
      zeroing = 4_400_000;
      timeout = 3;
      readability = rows;
      model = no_text 40;
      software = no_text 40;
      serial = serial_a;
      release = no_text 20;
    }

-- with F = C, as document 02's No. 7 has it
abbrev pub profile_a : Profile
profile_a = profile_of 220_000_000 readability_a

-- the same with this F
abbrev pub profile_fine : ℕ → Profile
profile_fine fine = profile_of fine readability_a

-- a case changes decimals and step of one unit
abbrev pub profile_ranged : ℕ → Resolution → Profile
profile_ranged fine r = profile_of fine (set readability_a (unit_place r.unit) (record { decimals = r.decimals; step = r.step }))

abbrev pub profile_with : Resolution → Profile
profile_with r = profile_ranged 220_000_000 r
