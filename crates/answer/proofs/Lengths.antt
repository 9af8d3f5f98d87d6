-- How long the line of an answer is: at most 384 bytes with a text of at most 40.
-- Assumes nothing.
use mathlib.Core.Path.{◌≡◌, refl}
use mathlib.Core.Bool.{Bool, true, false, cond}
use mathlib.Core.List.{List, [], ◌∷◌, ◌++◌}
use Prim.Native.Nat.{ℕ, ◌+◌, ◌≤◌}
use native.Mathlib.Omega.{arith}
use lib.IntN.{ℤ}
use lib.ListN.{length, take, drop, length-append}
use Rattle.weight.specs.Characters.{digit}
use Rattle.text.specs.Ascii.{ascii}
use Rattle.weight.specs.Places.{fits_field}
use Rattle.text.specs.Field.{field_if, blank}
use Rattle.std.specs.Prelude.{unwrap_or}
use Rattle.weight.specs.declared.units.WeightUnit.{WeightUnit}
use Rattle.text.specs.UnitTexts.{unit_text, unit_code}
use Rattle.text.proofs.FieldWidth.{field_length}
use Rattle.answer.specs.declared.answer.Status.{Status}
use Rattle.answer.specs.declared.answer.Status.TheVariants.{A, B, S, D, I, L, Over, Under}
use Rattle.answer.specs.declared.answer.Head.{Head}
use Rattle.answer.specs.declared.answer.Number.{Number}
use Rattle.answer.specs.declared.answer.Error.{Error}
use Rattle.answer.specs.declared.answer.Error.TheVariants.{Syntax, Transmission, Logical}
use Rattle.answer.specs.declared.answer.Answer.{Answer}
use Rattle.answer.specs.declared.answer.Answer.TheVariants.{Nothing, Plain, Weight, ErrorLine, Text, Listed, CommandList, Versions, HostUnit}
use Rattle.answer.specs.Commands.{name_of, level_of}
use Rattle.answer.specs.Lines.{line_end, quoted, status_text, head_text, weight_text, listed_line, listed_from, line_of}
use Rattle.answer.proofs.Names.{name_short}
use Rattle.text.proofs.Named.{unit_short, code_short}

-- ---- the parts

status_length : (s : Status) → length (status_text s) ≡ 1
status_length A = refl
status_length B = refl
status_length S = refl
status_length D = refl
status_length I = refl
status_length L = refl
status_length Over = refl
status_length Under = refl

-- the field is ten characters, also of a number that does not fit
field_ten : (c : Bool) (d : ℕ) (n : ℤ) → length (unwrap_or (field_if (fits_field c d n) c d n) blank) ≡ 10
field_ten c d n = go (fits_field c d n) refl
  where
    go : (b : Bool) → fits_field c d n ≡ b → length (unwrap_or (field_if b c d n) blank) ≡ 10
    go true e = field_length c d n e
    go false e = refl

-- a space and a status after a name
with_status : (n s : List ℕ) → length s ≡ 1 → length (n ++ (32 ∷ []) ++ s) ≡ length n + 2
with_status n s h = omega (arith, length-append n (32 ∷ []), length-append (n ++ (32 ∷ [])) s)

head_length_lem : (h : Head) → length (head_text h) ≡ length (name_of h.identification) + 2
unfolding head_text
head_length_lem h = with_status (name_of h.identification) (status_text h.status) (status_length h.status)

with_unit_lem : (f u : List ℕ) → length f ≡ 10 → length (f ++ (32 ∷ []) ++ u) ≡ length u + 11
with_unit_lem f u h = omega (arith, length-append f (32 ∷ []), length-append (f ++ (32 ∷ [])) u)

number_length : (n : Number) → length (weight_text n) ≡ length (unit_text n.unit) + 11
unfolding weight_text
number_length n =
    with_unit_lem (unwrap_or (field_if (fits_field n.coarse n.decimals n.places.0) n.coarse n.decimals n.places.0) blank) (unit_text n.unit) (field_ten n.coarse n.decimals n.places.0)

quoted_length : (t : List ℕ) → length (quoted t) ≡ length t + 2
quoted_length t = omega (arith, length-append t (34 ∷ []))

-- ---- the lines

with_end : (s : List ℕ) → length (s ++ line_end) ≡ length s + 2
with_end s = length-append s line_end

pub nothing_length : (t : List ℕ) → length (line_of Nothing t) ≡ 0
unfolding line_of
nothing_length t = refl

pub plain_length_lem : (h : Head) (t : List ℕ) → length (line_of (Plain h) t) ≡ length (name_of h.identification) + 4
unfolding line_of
plain_length_lem h t = omega (arith, with_end (head_text h), head_length_lem h)

weight_parts : (h n : List ℕ) → length (h ++ (32 ∷ []) ++ n ++ line_end) ≡ length h + length n + 3
weight_parts h n = omega (arith, length-append h (32 ∷ []), length-append (h ++ (32 ∷ [])) n, with_end (h ++ (32 ∷ []) ++ n))

pub weight_length : (h : Head) (n : Number) (t : List ℕ)
    → length (line_of (Weight h n) t) ≡ length (name_of h.identification) + length (unit_text n.unit) + 16
unfolding line_of
weight_length h n t = omega (arith, weight_parts (head_text h) (weight_text n), head_length_lem h, number_length n)

pub error_length : (e : Error) (t : List ℕ) → length (line_of (ErrorLine e) t) ≡ 4
unfolding line_of
error_length Syntax t = refl
error_length Transmission t = refl
error_length Logical t = refl

text_parts : (n t : List ℕ) → length (n ++ ascii " A " ++ quoted t ++ line_end) ≡ length n + length t + 7
text_parts n t =
    omega (arith, length-append n (ascii " A "), length-append (n ++ ascii " A ") (quoted t), quoted_length t, with_end (n ++ ascii " A " ++ quoted t))

pub text_length : (c : ℕ) (t : List ℕ) → length (line_of (Text c) t) ≡ length (name_of c) + length t + 7
unfolding line_of
text_length c t = text_parts (name_of c) t

-- the end of a line of I0, after its status
listed_parts : (m v n : List ℕ) → length m ≡ 1 → length v ≡ 1 → length (ascii "I0 " ++ m ++ ascii " " ++ v ++ ascii " " ++ quoted n ++ line_end) ≡ length n + 11
listed_parts m v n h k =
    let a = ascii "I0 " ++ m in
    let b = a ++ ascii " " in
    let d = b ++ v in
    let e = d ++ ascii " " in
    omega (arith, length-append (ascii "I0 ") m, length-append a (ascii " "), length-append b v, length-append d (ascii " "), length-append e (quoted n), quoted_length n, with_end (e ++ quoted n))

mark_length : (last : Bool) → length (cond last (ascii "A") (ascii "B")) ≡ 1
mark_length true = refl
mark_length false = refl

pub listed_length : (last : Bool) (c : ℕ) (t : List ℕ) → length (line_of (Listed last c) t) ≡ length (name_of c) + 11
unfolding line_of listed_line
listed_length last c t = listed_parts (cond last (ascii "A") (ascii "B")) (digit (level_of c) ∷ []) (name_of c) (mark_length last) refl

-- all lines of I0: document 01's 231 bytes, 13 of SR and 14 of M21
pub list_length : (t : List ℕ) → length (line_of CommandList t) ≡ 258
unfolding line_of listed_from listed_line
list_length t = refl

pub versions_length : (t : List ℕ) → length (line_of Versions t) ≡ 24
unfolding line_of
versions_length t = refl

pub unit_length : (u : WeightUnit) (t : List ℕ) → length (line_of (HostUnit u) t) ≡ length (unit_code u) + 10
unfolding line_of
unit_length u t = omega (arith, length-append (ascii "M21 A 0 ") (unit_code u), with_end (ascii "M21 A 0 " ++ unit_code u))

-- 384 bytes always suffice
pub line_limit_lem : (a : Answer) (t : List ℕ) → length t ≤ 40 → length (line_of a t) ≤ 384
unfolding line_of
line_limit_lem Nothing t h = omega arith
line_limit_lem (Plain s) t h = omega (arith, plain_length_lem s t, name_short s.identification)
line_limit_lem (Weight s n) t h = omega (arith, weight_length s n t, name_short s.identification, unit_short n.unit)
line_limit_lem (ErrorLine e) t h = omega (arith, error_length e t)
line_limit_lem (Text c) t h = omega (arith, text_length c t, name_short c)
line_limit_lem (Listed last c) t h = omega (arith, listed_length last c t, name_short c)
line_limit_lem CommandList t h = omega (arith, list_length t)
line_limit_lem Versions t h = omega (arith, versions_length t)
line_limit_lem (HostUnit u) t h = omega (arith, unit_length u t, code_short u)

-- the first line of I0 and the last two
pub list_first : (t : List ℕ) → take 13 (line_of CommandList t) ≡ ascii "I0 B 0 \"I0\"\r\n"
unfolding line_of listed_from listed_line
list_first t = refl

pub list_last : (t : List ℕ) → drop 231 (line_of CommandList t) ≡ ascii "I0 B 1 \"TI\"\r\nI0 A 2 \"M21\"\r\n"
unfolding line_of listed_from listed_line
list_last t = refl

-- the length of a line, case by case
pub ruleset line_lengths = (nothing_length, plain_length_lem, weight_length, error_length, text_length, listed_length, list_length, versions_length, unit_length)
