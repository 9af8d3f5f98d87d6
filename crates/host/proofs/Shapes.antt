-- The lines of the forms, each as the bytes before the first space and what follows them.
-- Assumes nothing.
use mathlib.Core.Path.{◌≡◌, refl}
use mathlib.Core.Bool.{Bool, true, false, cond}
use mathlib.Core.List.{List, [], ◌∷◌, ◌++◌, append_assoc}
use Prim.Native.Nat.{ℕ}
use Rattle.answer.specs.Commands.{name_of, level_of}
use Rattle.answer.specs.Lines.{line_end, quoted, status_text, head_text, weight_text, listed_line, line_of}
use Rattle.answer.specs.declared.answer.Answer.TheVariants.{Plain, Weight, Text, Listed, HostUnit}
use Rattle.answer.specs.declared.answer.Head.{Head}
use Rattle.answer.specs.declared.answer.Number.{Number}
use Rattle.answer.specs.declared.answer.Status.{Status}
use Rattle.answer.specs.declared.answer.Status.TheVariants.{A, B, S, D, I, L, Over, Under}
use Rattle.host.specs.Reads.{status_guess}
use Rattle.weight.specs.Characters.{digit}
use Rattle.text.specs.Ascii.{ascii}
use Rattle.weight.specs.declared.units.WeightUnit.{WeightUnit}
use Rattle.weight.specs.Places.{fits_field}
use Rattle.text.specs.Field.{field_of}
use Rattle.text.specs.UnitTexts.{unit_text, unit_code}

-- ---- a status is one byte, and that byte tells it

abbrev pub status_byte : Status → ℕ
status_byte A = 65
status_byte B = 66
status_byte S = 83
status_byte D = 68
status_byte I = 73
status_byte L = 76
status_byte Over = 43
status_byte Under = 45

pub status_text_lem : (s : Status) → status_text s ≡ status_byte s ∷ []
status_text_lem A = refl
status_text_lem B = refl
status_text_lem S = refl
status_text_lem D = refl
status_text_lem I = refl
status_text_lem L = refl
status_text_lem Over = refl
status_text_lem Under = refl

pub status_back : (s : Status) → status_guess (status_byte s) ≡ s
status_back A = refl
status_back B = refl
status_back S = refl
status_back D = refl
status_back I = refl
status_back L = refl
status_back Over = refl
status_back Under = refl

-- ---- each line

-- what follows the name of a weight answer: status, field, unit
abbrev pub weight_rest : ℕ → List ℕ → List ℕ → List ℕ
weight_rest b field unit = b ∷ 32 ∷ (field ++ (32 ∷ (unit ++ line_end)))

-- a text in quotes, and the end of the line
abbrev pub quoted_end : List ℕ → List ℕ
quoted_end t = 34 ∷ (t ++ (34 ∷ line_end))

plain_shape : (w s : List ℕ) (b : ℕ) → s ≡ b ∷ [] → w ++ ascii " " ++ s ++ line_end ≡ w ++ (32 ∷ b ∷ line_end)
plain_shape w s b e = rw e (simp append_assoc)

pub plain_line : (h : Head) (t : List ℕ) → line_of (Plain h) t ≡ name_of h.identification ++ (32 ∷ status_byte h.status ∷ line_end)
unfolding line_of head_text
plain_line h t = plain_shape (name_of h.identification) (status_text h.status) (status_byte h.status) (status_text_lem h.status)

weight_shape : (w s f u : List ℕ) (b : ℕ) → s ≡ b ∷ []
    → w ++ ascii " " ++ s ++ ascii " " ++ (f ++ ascii " " ++ u) ++ line_end ≡ w ++ (32 ∷ weight_rest b f u)
weight_shape w s f u b e = rw e (simp append_assoc)

pub weight_line : (h : Head) (n : Number) (t : List ℕ) → fits_field n.coarse n.decimals n.places.0 ≡ true
    → line_of (Weight h n) t
    ≡ name_of h.identification
    ++ (32 ∷ weight_rest (status_byte h.status) (field_of n.coarse n.decimals n.places.0) (unit_text n.unit))
unfolding line_of head_text weight_text
weight_line h n t e =
    rw e
    (weight_shape (name_of h.identification) (status_text h.status) (field_of n.coarse n.decimals n.places.0) (unit_text n.unit)
    (status_byte h.status) (status_text_lem h.status))

text_shape : (w t : List ℕ) → w ++ ascii " A " ++ quoted t ++ line_end ≡ w ++ (32 ∷ 65 ∷ 32 ∷ quoted_end t)
text_shape w t = simp append_assoc

pub text_line : (c : ℕ) (t : List ℕ) → line_of (Text c) t ≡ name_of c ++ (32 ∷ 65 ∷ 32 ∷ quoted_end t)
unfolding line_of
text_line c t = text_shape (name_of c) t

listed_shape : (b d : ℕ) (t : List ℕ)
    → ascii "I0 " ++ (b ∷ []) ++ ascii " " ++ (d ∷ []) ++ ascii " " ++ quoted t ++ line_end ≡ ascii "I0" ++ (32 ∷ b ∷ 32 ∷ d ∷ 32 ∷ quoted_end t)
listed_shape b d t = simp append_assoc

abbrev pub listed_byte : Bool → ℕ
listed_byte last = cond last 65 66

pub listed_line_lem : (last : Bool) (c : ℕ) (t : List ℕ)
    → line_of (Listed last c) t ≡ ascii "I0" ++ (32 ∷ listed_byte last ∷ 32 ∷ digit (level_of c) ∷ 32 ∷ quoted_end (name_of c))
unfolding line_of listed_line
listed_line_lem true c t = listed_shape 65 (digit (level_of c)) (name_of c)
listed_line_lem false c t = listed_shape 66 (digit (level_of c)) (name_of c)

-- what follows the name in M21's answer: A, the zero, the code
abbrev pub code_rest : List ℕ → List ℕ
code_rest code = 65 ∷ 32 ∷ 48 ∷ 32 ∷ (code ++ line_end)

pub host_unit_line : (u : WeightUnit) (t : List ℕ) → line_of (HostUnit u) t ≡ ascii "M21" ++ (32 ∷ code_rest (unit_code u))
unfolding line_of
host_unit_line u t = refl
