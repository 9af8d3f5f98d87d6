-- Document 02, No. 6: the names table, the commands' names in byte order, each once, each with its place in I0's order.
-- Assumes nothing.
use Rattle.std.specs.Prelude.{ℕ, ◌+◌, ◌*◌, Bool, true, false, cond, ◌&&◌, ◌||◌, List, [], ◌∷◌, leb, ltb, eqb, length, get_or}
use Prim.Native.String.{String}
use Rattle.text.specs.Ascii.{ascii, same_text}
use Rattle.answer.specs.Commands.{
  names,
  name_of,
  command_count,
  place_i0,
  place_i1,
  place_i2,
  place_i3,
  place_i4,
  place_i5,
  place_s,
  place_si,
  place_sir,
  place_z,
  place_zi,
  place_reset,
  place_d,
  place_dw,
  place_sr,
  place_t,
  place_ta,
  place_tac,
  place_ti,
  place_m21,
}

-- a name and its place in I0's order
pub record NameRow : Type 0 where
  pub name : List ℕ
  pub place : ℕ

-- a row, its name as a text
abbrev pub name_row : String → ℕ → NameRow
name_row name place = record { name = ascii name; place = place }

-- the table, in byte order
abbrev pub name_rows : List NameRow
name_rows =
    name_row "@" place_reset
    ∷ name_row "D" place_d
    ∷ name_row "DW" place_dw
    ∷ name_row "I0" place_i0
    ∷ name_row "I1" place_i1
    ∷ name_row "I2" place_i2
    ∷ name_row "I3" place_i3
    ∷ name_row "I4" place_i4
    ∷ name_row "I5" place_i5
    ∷ name_row "M21" place_m21
    ∷ name_row "S" place_s
    ∷ name_row "SI" place_si
    ∷ name_row "SIR" place_sir
    ∷ name_row "SR" place_sr
    ∷ name_row "T" place_t
    ∷ name_row "TA" place_ta
    ∷ name_row "TAC" place_tac
    ∷ name_row "TI" place_ti
    ∷ name_row "Z" place_z
    ∷ name_row "ZI" place_zi
    ∷ []

-- a test that all of a list pass
abbrev pub every : {A : Type 0} → (A → Bool) → List A → Bool
every f [] = true
every f (x ∷ l) = f x && every f l

-- ---- in byte order, each once

-- the order of words by their bytes, a prefix before the longer word
abbrev pub before : List ℕ → List ℕ → Bool
before [] [] = false
before [] (b ∷ w) = true
before (a ∷ v) [] = false
before (a ∷ v) (b ∷ w) = ltb a b || eqb a b && before v w

-- the order of rows, that of their names
abbrev pub is_before : NameRow → NameRow → Bool
is_before r s = before r.name s.name

-- the rows rise strictly: each comes before all that follow
abbrev pub rises : List NameRow → Bool
rises [] = true
rises (r ∷ rs) = every (is_before r) rs && rises rs

-- ---- exactly I0's names

-- a row has the name that stands at its place in I0's order
abbrev pub is_named : NameRow → Bool
is_named r = ltb r.place command_count && same_text r.name (name_of r.place)

-- a word has a row
abbrev pub has_row : List NameRow → List ℕ → Bool
has_row [] w = false
has_row (r ∷ rs) w = same_text r.name w || has_row rs w

-- every row has a name of I0's, and every name of I0's has a row
abbrev pub exactly_names : List NameRow → Bool
exactly_names rs = every is_named rs && every (has_row rs) names

-- ---- a word as a number

-- a length, then three bytes
abbrev pub number_of : ℕ → ℕ → ℕ → ℕ → ℕ
number_of len first second third = len * 16777216 + first * 65536 + second * 256 + third

-- a word's length, then its bytes, 0 where it has none; 0 for a word of over three, which is no name
unfoldable pub word_number : List ℕ → ℕ
word_number w = cond (leb (length w) 3) (number_of (length w) (get_or w 0 0) (get_or w 1 0) (get_or w 2 0)) 0
