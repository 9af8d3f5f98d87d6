-- The lines of an answer: document 01, "Weights" (a weight answer), "Receiving" (ES, ET, EL, I, L) and "What each command does"; document
-- 02, No. 5 (M21).
-- Assumes nothing.
use Rattle.std.specs.Prelude.{ℕ, zero, suc, Bool, cond, List, [], ◌∷◌, ◌++◌, eqb, length}
use Rattle.answer.specs.declared.answer.Status.{Status}
use Rattle.answer.specs.declared.answer.Status.TheVariants.{A, B, S, D, I, L, Over, Under}
use Rattle.answer.specs.declared.answer.Head.{Head}
use Rattle.answer.specs.declared.answer.Number.{Number}
use Rattle.answer.specs.declared.answer.Error.{Error}
use Rattle.answer.specs.declared.answer.Error.TheVariants.{Syntax, Transmission, Logical}
use Rattle.answer.specs.declared.answer.Answer.{Answer}
use Rattle.answer.specs.declared.answer.Answer.TheVariants.{Nothing, Plain, Weight, ErrorLine, Text, Listed, CommandList, Versions, HostUnit}
use Rattle.answer.specs.Commands.{names, name_of, level_of}
use Rattle.weight.specs.Characters.{digit}
use Rattle.text.specs.Ascii.{ascii}
use Rattle.text.specs.UnitTexts.{unit_text, unit_code}
use Rattle.weight.specs.Places.{fits_field}
use Rattle.text.specs.Field.{field_if, blank}
use Rattle.std.specs.Prelude.{unwrap_or}

abbrev pub head_of : ℕ → Status → Head
head_of c s = record { identification = c; status = s }

-- CR LF
abbrev pub line_end : List ℕ
line_end = 13 ∷ 10 ∷ []

abbrev pub quoted : List ℕ → List ℕ
quoted t = ascii "\"" ++ t ++ ascii "\""

abbrev pub status_text : Status → List ℕ
status_text A = ascii "A"
status_text B = ascii "B"
status_text S = ascii "S"
status_text D = ascii "D"
status_text I = ascii "I"
status_text L = ascii "L"
status_text Over = ascii "+"
status_text Under = ascii "-"

-- identification, space, status
unfoldable pub head_text : Head → List ℕ
head_text h = name_of h.identification ++ ascii " " ++ status_text h.status

-- ten characters, of which the last is a space in the coarse range, space, unit; ten spaces for a number that does not fit
unfoldable pub weight_text : Number → List ℕ
weight_text n =
    unwrap_or (field_if (fits_field n.coarse n.decimals n.places.0) n.coarse n.decimals n.places.0) blank ++ ascii " " ++ unit_text n.unit

abbrev pub error_text : Error → List ℕ
error_text Syntax = ascii "ES"
error_text Transmission = ascii "ET"
error_text Logical = ascii "EL"

-- B on all lines of I0 but the last, which has A
unfoldable pub listed_line : Bool → ℕ → List ℕ
listed_line last c =
    ascii "I0 " ++ cond last (ascii "A") (ascii "B") ++ ascii " " ++ (digit (level_of c) ∷ []) ++ ascii " " ++ quoted (name_of c) ++ line_end

-- the n lines of I0 from command c on, the last of them with A
unfoldable pub listed_from : ℕ → ℕ → List ℕ
listed_from zero c = []
listed_from (suc n) c = listed_line (eqb n 0) c ++ listed_from n (suc c)

-- an answer as bytes; t is the text that goes with I2 to I5
unfoldable pub line_of : Answer → List ℕ → List ℕ
line_of Nothing t = []
line_of (Plain h) t = head_text h ++ line_end
line_of (Weight h n) t = head_text h ++ ascii " " ++ weight_text n ++ line_end
line_of (ErrorLine e) t = error_text e ++ line_end
line_of (Text c) t = name_of c ++ ascii " A " ++ quoted t ++ line_end
line_of (Listed last c) t = listed_line last c
line_of CommandList t = listed_from (length names) 0
line_of Versions t = ascii "I1 A \"0\" \"2.30\" \"2.20\"" ++ line_end
line_of (HostUnit u) t = ascii "M21 A 0 " ++ unit_code u ++ line_end
