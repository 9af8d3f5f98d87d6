-- Reading a line: the one answer that it could be is taken where it can be formed and its line is the line read; any other line is
-- refused. What is right is `can_form` and `line_of` alone; the laws say that no line of theirs is missed.
-- Assumes nothing.
use Rattle.std.specs.Prelude.{ℕ, ◌+◌, ◌-◌, Bool, cond, ◌&&◌, Option, Some, None, Result, Ok, Err, List, eqb, length, get_or, take, drop}
use Rattle.answer.specs.Commands.{place_of, is_i0, is_i1, is_m21, has_text}
use Rattle.answer.specs.Lines.{line_of}
use Rattle.answer.specs.declared.answer.Answer.{Answer}
use Rattle.answer.specs.declared.answer.Answer.TheVariants.{Nothing, Plain, Weight, ErrorLine, Text, Listed, CommandList, Versions, HostUnit}
use Rattle.answer.specs.declared.answer.Error.TheVariants.{Syntax, Transmission, Logical}
use Rattle.answer.specs.declared.answer.Head.{Head}
use Rattle.answer.specs.declared.answer.Status.{Status}
use Rattle.answer.specs.declared.answer.Status.TheVariants.{A, B, S, D, I, L, Over, Under}
use Rattle.forms.specs.Forms.{can_form}
use Rattle.host.specs.declared.reader.ReadLine.{ReadLine}
use Rattle.host.specs.declared.reader.ReadText.{ReadText}
use Rattle.host.specs.declared.refusal.Refusal.{Refusal}
use Rattle.host.specs.declared.refusal.Refusal.TheVariants.{Form}
use Rattle.text.specs.Searching.{before_space, has_space}
use Rattle.text.specs.Ascii.{same_text}
use Rattle.text.specs.Reading.{read_field}
use Rattle.text.specs.UnitTexts.{unit_named, unit_coded}
use Rattle.text.specs.declared.reading.FieldNumber.{FieldNumber}
use Rattle.weight.specs.declared.units.WeightUnit.{WeightUnit}

-- ---- the answer that a line could be

-- by its second letter
abbrev pub error_guess : ℕ → Answer
error_guess b = cond (eqb b 83) (ErrorLine Syntax) (cond (eqb b 84) (ErrorLine Transmission) (cond (eqb b 76) (ErrorLine Logical) Nothing))

-- the status of a byte; B, which only I0 has, for any other
abbrev pub status_guess : ℕ → Status
status_guess b =
    cond (eqb b 65) A
    (cond (eqb b 83) S
    (cond (eqb b 68) D
    (cond (eqb b 73) I
    (cond (eqb b 76) L
    (cond (eqb b 43) Over
    (cond (eqb b 45) Under B))))))

abbrev pub weight_guess : Head → Option FieldNumber → Option WeightUnit → Answer
weight_guess h (Some f) (Some u) = Weight h (record { decimals = f.decimals; places = f.places; unit = u; coarse = f.coarse })
weight_guess h (Some f) None = Nothing
weight_guess h None u = Nothing

-- identification, space, status, CR LF
abbrev pub plain_length : List ℕ → ℕ
plain_length l = length (before_space l) + 4

abbrev pub head_guess : List ℕ → Head
head_guess l = record { identification = place_of (before_space l); status = status_guess (get_or l (length (before_space l) + 1) 0) }

-- the ten characters and the unit of a weight answer
abbrev pub field_guess : List ℕ → Option FieldNumber
field_guess l = read_field (take 10 (drop (length (before_space l) + 3) l))

abbrev pub unit_guess : List ℕ → Option WeightUnit
unit_guess l = unit_named (take (length l - (length (before_space l) + 16)) (drop (length (before_space l) + 14) l))

-- a line of I0, whose name stands from the ninth byte up to the last quote
abbrev pub listed_guess : List ℕ → Answer
listed_guess l = Listed (eqb (get_or l 3 0) 65) (place_of (take (length l - 11) (drop 8 l)))

-- the code of M21's answer stands from the ninth byte up to CR LF
abbrev pub code_guess : List ℕ → Option WeightUnit
code_guess l = unit_coded (take (length l - 10) (drop 8 l))

abbrev pub host_unit_guess : Option WeightUnit → Answer
host_unit_guess (Some u) = HostUnit u
host_unit_guess None = Nothing

-- a line with a space, by its name's place; I0, I1, the texts and M21 answer by more than a status
abbrev pub named_guess : ℕ → List ℕ → Answer
named_guess c l =
    cond (eqb (length l) (plain_length l)) (Plain (head_guess l))
    (cond (is_i0 c) (listed_guess l)
    (cond (is_i1 c) Versions
    (cond (has_text c) (Text c)
    (cond (is_m21 c) (host_unit_guess (code_guess l)) (weight_guess (head_guess l) (field_guess l) (unit_guess l))))))

unfoldable pub guessed : List ℕ → Answer
guessed l = cond (has_space l) (named_guess (place_of (before_space l)) l) (error_guess (get_or l 1 0))

-- ---- where its text is: between the quotes of I2 to I5

abbrev pub text_place : Answer → List ℕ → ReadText
text_place Nothing l = record { start = 0; len = 0 }
text_place (Plain h) l = record { start = 0; len = 0 }
text_place (Weight h n) l = record { start = 0; len = 0 }
text_place (ErrorLine e) l = record { start = 0; len = 0 }
text_place (Text c) l = record { start = 6; len = length l - 9 }
text_place (Listed last c) l = record { start = 0; len = 0 }
text_place CommandList l = record { start = 0; len = 0 }
text_place Versions l = record { start = 0; len = 0 }
text_place (HostUnit u) l = record { start = 0; len = 0 }

abbrev pub text_at : ReadText → List ℕ → List ℕ
text_at t l = take t.len (drop t.start l)

-- ---- taken where it can be formed and its line is this one

unfoldable pub confirms : Answer → List ℕ → List ℕ → Bool
confirms a t l = can_form a t && same_text (line_of a t) l

-- the line is one of an answer: of the one that it could be
abbrev pub is_answer : List ℕ → Bool
is_answer l = confirms (guessed l) (text_at (text_place (guessed l) l) l) l

abbrev pub read_as : Answer → ReadText → ReadLine
read_as a t = record { answer = a; text = t }

unfoldable pub read_line : List ℕ → Result ReadLine Refusal
read_line l = cond (is_answer l) (Ok (read_as (guessed l) (text_place (guessed l) l))) (Err Form)

-- ---- the paper's refusal number

-- 4: the line is no answer of the forms
unfoldable pub number_of_line : List ℕ → ℕ
number_of_line l = cond (is_answer l) 0 4
