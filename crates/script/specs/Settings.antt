-- What a line of the script sets in the profile.
-- Assumes nothing.
use Rattle.std.specs.Prelude.{ℕ, Bool, cond, ◌&&◌, ◌||◌, List, Option, Some, option_and_then, unwrap_or, leb, eqb, length, get_or, drop, set}
use Rattle.model.specs.declared.profile.Profile.{Profile}
use Rattle.weight.specs.declared.units.WeightUnit.TheVariants.{G}
use Rattle.weight.specs.Characters.{space}
use Rattle.weight.specs.Units.{unit_place}
use Rattle.text.specs.UnitTexts.{unit_named}
use Rattle.script.specs.declared.profile.Numbers.{Numbers}
use Rattle.script.specs.declared.profile.UnitNumbers.{UnitNumbers}
use Rattle.script.specs.Numbers.{number_up_to}
use Rattle.script.specs.Words.{after_words, word_at}

infixl 10 ◌>>=◌
abbrev pub ◌>>=◌ : {A B : Type 0} → Option A → (A → Option B) → Option B
o >>= f = option_and_then f o

-- ---- the numbers

abbrev pub word_number : List ℕ → Option ℕ
word_number t = number_up_to 4_294_967_295 t

-- C, U, R and W, each of its width; the last is all that is left
abbrev pub numbers_in : List ℕ → Option Numbers
numbers_in t = do
  c ← word_number (word_at 0 t)
  u ← word_number (word_at 1 t)
  r ← word_number (word_at 2 t)
  w ← word_number (after_words 3 t)
  Some (record { capacity = c; underload = u; zeroing = r; timeout = w })

-- 0 where it is none of its width, which no line gives
abbrev pub word_of : ℕ → ℕ
word_of n = cond (leb n 4_294_967_295) n 0

-- the profile with these numbers, with C for F, and all else its own
abbrev pub with_numbers : Profile → Numbers → Profile
with_numbers p n =
    record {
      capacity = word_of n.capacity;
      fine = word_of n.capacity;
      underload = word_of n.underload;
      zeroing = word_of n.zeroing;
      timeout = word_of n.timeout;
      readability = p.readability;
      model = p.model;
      software = p.software;
      serial = p.serial;
      release = p.release;
    }

-- the profile with this F and all else its own
abbrev pub with_fine : Profile → ℕ → Profile
with_fine p fine =
    record {
      capacity = p.capacity;
      fine = fine;
      underload = p.underload;
      zeroing = p.zeroing;
      timeout = p.timeout;
      readability = p.readability;
      model = p.model;
      software = p.software;
      serial = p.serial;
      release = p.release;
    }

-- ---- the decimals and the step of a unit

abbrev pub byte_number : List ℕ → Option ℕ
byte_number t = number_up_to 255 t

-- the unit, D and K, each of its width; the last is all that is left
abbrev pub unit_numbers_in : List ℕ → Option UnitNumbers
unit_numbers_in t = do
  u ← unit_named (word_at 0 t)
  d ← byte_number (word_at 1 t)
  k ← byte_number (after_words 2 t)
  Some (record { unit = Some u; decimals = d; step = k })

abbrev pub byte_of : ℕ → ℕ
byte_of n = cond (leb n 255) n 0

-- the profile with these in the row of that unit and all else its own
abbrev pub with_unit : Profile → UnitNumbers → Profile
with_unit p n =
    record {
      capacity = p.capacity;
      fine = p.fine;
      underload = p.underload;
      zeroing = p.zeroing;
      timeout = p.timeout;
      readability =
          set p.readability (unit_place (unwrap_or n.unit G)) (record { decimals = byte_of n.decimals; step = byte_of n.step });
      model = p.model;
      software = p.software;
      serial = p.serial;
      release = p.release;
    }

-- ---- the texts

-- how many bytes the text of I2 to I5 holds: 50 is "2"
abbrev pub room_of : ℕ → ℕ
room_of which = cond (eqb which 50 || eqb which 51) 40 (cond (eqb which 52 || eqb which 53) 20 0)

-- a digit from 2 to 5, a space, and what the text holds
abbrev pub text_fits : List ℕ → Bool
text_fits t =
    leb 50 (get_or t 0 0)
    && leb (get_or t 0 0) 53
    && eqb (get_or t 1 0) space
    && leb (length (drop 2 t)) (room_of (get_or t 0 0))
