-- Document 01, "Commands carried", and document 02: the commands in the order in which I0 lists them, what each of them is, and their places.
-- Assumes nothing.
use Rattle.std.specs.Prelude.{ℕ, suc, Bool, true, false, cond, ◌&&◌, List, [], ◌∷◌, map, leb, eqb, length, get_or}
use Prim.Native.String.{String}
use Rattle.answer.specs.declared.command.Kind.{Kind}
use Rattle.answer.specs.declared.command.Kind.TheVariants.{Informs, Weighs, Zeroes, Resets, Shows, Sends, Tares, Selects, Unknown}
use Rattle.text.specs.Ascii.{ascii, same_text}

-- ---- the table

-- its name and level, what it does, whether it takes parameters (order 3), needs a sample since power-on (order 7), and may wait
-- for a stable one
pub record Command : Type 0 where
  pub name : List ℕ
  pub level : ℕ
  pub kind : Kind
  pub parameters : Bool
  pub sample : Bool
  pub waits : Bool

abbrev pub command : String → ℕ → Kind → Bool → Bool → Bool → Command
command name level kind parameters sample waits =
    record { name = ascii name; level = level; kind = kind; parameters = parameters; sample = sample; waits = waits }

abbrev pub yes : Bool
yes = true

abbrev pub no : Bool
no = false

-- name, level, kind; parameters, a sample, a wait
abbrev pub commands : List Command
commands =
    command "I0" 0 Informs no no no
    ∷ command "I1" 0 Informs no no no
    ∷ command "I2" 0 Informs no no no
    ∷ command "I3" 0 Informs no no no
    ∷ command "I4" 0 Informs no no no
    ∷ command "I5" 0 Informs no no no
    ∷ command "S" 0 Weighs no no yes
    ∷ command "SI" 0 Weighs no yes no
    ∷ command "SIR" 0 Weighs no yes no
    ∷ command "Z" 0 Zeroes no no yes
    ∷ command "ZI" 0 Zeroes no yes no
    ∷ command "@" 0 Resets no no no
    ∷ command "D" 1 Shows yes no no
    ∷ command "DW" 1 Shows no no no
    ∷ command "SR" 1 Sends yes no yes
    ∷ command "T" 1 Tares no no yes
    ∷ command "TA" 1 Tares yes no no
    ∷ command "TAC" 1 Tares no no no
    ∷ command "TI" 1 Tares no yes no
    ∷ command "M21" 2 Selects yes no no
    ∷ []

-- past the end there is none
abbrev pub no_command : Command
no_command = command "" 2 Unknown no no no

abbrev pub command_count : ℕ
command_count = length commands

-- a command is its place in that order
abbrev pub row_of : ℕ → Command
row_of c = get_or commands c no_command

abbrev pub name_in : Command → List ℕ
name_in r = r.name

abbrev pub names : List (List ℕ)
names = map name_in commands

abbrev pub name_of : ℕ → List ℕ
name_of c = get_or names c []

abbrev pub level_of : ℕ → ℕ
level_of c = (row_of c).level

abbrev pub kind_of : ℕ → Kind
kind_of c = (row_of c).kind

abbrev pub takes_parameters : ℕ → Bool
takes_parameters c = (row_of c).parameters

abbrev pub needs_sample : ℕ → Bool
needs_sample c = (row_of c).sample

abbrev pub may_wait : ℕ → Bool
may_wait c = (row_of c).waits

-- the place of a name, exactly: how many stand before it, and all of them where it is none
unfoldable pub place_in : List (List ℕ) → List ℕ → ℕ
place_in [] w = 0
place_in (n ∷ ns) w = cond (same_text w n) 0 (suc (place_in ns w))

unfoldable pub place_of : List ℕ → ℕ
place_of w = place_in names w

-- ---- the places

abbrev pub place_i0 : ℕ
place_i0 = 0

abbrev pub place_i1 : ℕ
place_i1 = suc place_i0

abbrev pub place_i2 : ℕ
place_i2 = suc place_i1

abbrev pub place_i3 : ℕ
place_i3 = suc place_i2

abbrev pub place_i4 : ℕ
place_i4 = suc place_i3

abbrev pub place_i5 : ℕ
place_i5 = suc place_i4

abbrev pub place_s : ℕ
place_s = suc place_i5

abbrev pub place_si : ℕ
place_si = suc place_s

abbrev pub place_sir : ℕ
place_sir = suc place_si

abbrev pub place_z : ℕ
place_z = suc place_sir

abbrev pub place_zi : ℕ
place_zi = suc place_z

abbrev pub place_reset : ℕ
place_reset = suc place_zi

abbrev pub place_d : ℕ
place_d = suc place_reset

abbrev pub place_dw : ℕ
place_dw = suc place_d

abbrev pub place_sr : ℕ
place_sr = suc place_dw

abbrev pub place_t : ℕ
place_t = suc place_sr

abbrev pub place_ta : ℕ
place_ta = suc place_t

abbrev pub place_tac : ℕ
place_tac = suc place_ta

abbrev pub place_ti : ℕ
place_ti = suc place_tac

abbrev pub place_m21 : ℕ
place_m21 = suc place_ti

-- the last command
abbrev pub last_place : ℕ
last_place = place_m21

abbrev pub is_i0 : ℕ → Bool
is_i0 c = eqb c place_i0

abbrev pub is_i1 : ℕ → Bool
is_i1 c = eqb c place_i1

abbrev pub is_i2 : ℕ → Bool
is_i2 c = eqb c place_i2

abbrev pub is_i3 : ℕ → Bool
is_i3 c = eqb c place_i3

abbrev pub is_i4 : ℕ → Bool
is_i4 c = eqb c place_i4

abbrev pub is_i5 : ℕ → Bool
is_i5 c = eqb c place_i5

abbrev pub is_s : ℕ → Bool
is_s c = eqb c place_s

abbrev pub is_si : ℕ → Bool
is_si c = eqb c place_si

abbrev pub is_sir : ℕ → Bool
is_sir c = eqb c place_sir

abbrev pub is_z : ℕ → Bool
is_z c = eqb c place_z

abbrev pub is_zi : ℕ → Bool
is_zi c = eqb c place_zi

abbrev pub is_reset : ℕ → Bool
is_reset c = eqb c place_reset

abbrev pub is_d : ℕ → Bool
is_d c = eqb c place_d

abbrev pub is_dw : ℕ → Bool
is_dw c = eqb c place_dw

abbrev pub is_sr : ℕ → Bool
is_sr c = eqb c place_sr

abbrev pub is_t : ℕ → Bool
is_t c = eqb c place_t

abbrev pub is_ta : ℕ → Bool
is_ta c = eqb c place_ta

abbrev pub is_tac : ℕ → Bool
is_tac c = eqb c place_tac

abbrev pub is_ti : ℕ → Bool
is_ti c = eqb c place_ti

abbrev pub is_m21 : ℕ → Bool
is_m21 c = eqb c place_m21

-- I2 to I5, whose answer is a text
abbrev pub has_text : ℕ → Bool
has_text c = leb place_i2 c && leb c place_i5
