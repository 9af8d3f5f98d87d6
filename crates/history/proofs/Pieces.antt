-- How an answer is split after every CR LF: the line of a form is one piece, and a line before more bytes is the first of theirs.
-- Assumes nothing.
use Rattle.std.specs.Prelude.{unwrap_or}
use Prim.Native.Nat.{ℕ, zero, suc, ◌-◌, ◌/◌, ◌%◌, ◌^◌}
use native.Mathlib.Omega.{arith}
use mathlib.Core.Path.{◌≡◌, refl, sym, ap, ◌∙◌}
use mathlib.Core.Bool.{Bool, true, false, cond, not, ◌&&◌, ◌||◌, false≢true}
use mathlib.Core.List.{List, [], ◌∷◌, ◌++◌, append_assoc, append-nil, reverse, reverse-cons}
use borrow.Author.Tests.{ne_eqb, leb-true, not-true}
use lib.Dec.{leb, ltb, eqb}
use lib.IntN.{ℤ, pos, negsuc}
use lib.ListN.{length, replicate}
use Rattle.answer.specs.Commands.{names, name_of, level_of, has_text}
use Rattle.answer.specs.Lines.{line_end, quoted, status_text, head_text, weight_text, error_text, listed_line, line_of}
use Rattle.answer.specs.declared.answer.Answer.{Answer}
use Rattle.answer.specs.declared.answer.Answer.TheVariants.{Nothing, Plain, Weight, ErrorLine, Text, Listed, CommandList, Versions, HostUnit}
use Rattle.answer.specs.declared.answer.Error.{Error}
use Rattle.answer.specs.declared.answer.Error.TheVariants.{Syntax, Transmission, Logical}
use Rattle.answer.specs.declared.answer.Head.{Head}
use Rattle.answer.specs.declared.answer.Number.{Number}
use Rattle.answer.specs.declared.answer.Status.{Status}
use Rattle.answer.specs.declared.answer.Status.TheVariants.{A, B, S, D, I, L, Over, Under}
use Rattle.forms.specs.Forms.{can_form}
use Rattle.history.specs.EndToEnd.{pieces_after, pieces_of}
use Rattle.answer.proofs.Names.{at_name}
use Rattle.text.specs.Printable.{is_printable}
use Rattle.weight.specs.Characters.{digit, space}
use Rattle.text.specs.Ascii.{ascii}
use Rattle.weight.specs.Places.{last_digits, digits_in, digits_of, decimal_of, number_text, width_of, fits_field}
use Rattle.text.specs.Field.{aligned_in, field_of, blank, field_if}
use Rattle.text.specs.UnitTexts.{unit_text, unit_code}
use Rattle.weight.specs.declared.units.WeightUnit.{WeightUnit}
use Rattle.weight.specs.declared.units.WeightUnit.TheVariants.{G, Mg, Ct, Oz, Ozt, Gn, Dwt, Kg, Lb}
use Rattle.weight.proofs.Allowed.{both_hold, both_left, both_right}

-- ---- bytes that end no line

-- no LF
abbrev unbroken : List ℕ → Bool
unbroken [] = true
unbroken (c ∷ l) = not (eqb c 10) && unbroken l

-- and none in both together
joined : (a b : List ℕ) → unbroken a ≡ true → unbroken b ≡ true → unbroken (a ++ b) ≡ true
joined [] b h k = k
joined (c ∷ a) b h k =
    both_hold (not (eqb c 10)) (unbroken (a ++ b)) (both_left (not (eqb c 10)) (unbroken a) h)
    (joined a b (both_right (not (eqb c 10)) (unbroken a) h) k)

-- ---- the first piece

-- a byte that ends no line joins the piece so far
goes_on : (acc : List ℕ) (c : ℕ) (l : List ℕ) → eqb c 10 ≡ false → pieces_after acc (c ∷ l) ≡ pieces_after (c ∷ acc) l
unfolding pieces_after
goes_on [] c l e = rw (e, pieces_after)
goes_on (b ∷ acc) c l e = rw (e, pieces_after)

-- LF after CR ends it
ends_here : (acc l : List ℕ) → pieces_after (13 ∷ acc) (10 ∷ l) ≡ reverse (10 ∷ 13 ∷ acc) ∷ pieces_after [] l
unfolding pieces_after
ends_here acc l = refl

-- the piece so far, oldest byte first, and then the bytes up to the end
turned : (acc : List ℕ) (c : ℕ) (l : List ℕ) → reverse (c ∷ acc) ++ l ≡ reverse acc ++ (c ∷ l)
turned acc c l = rw reverse-cons (append_assoc (reverse acc) (c ∷ []) l)

-- the first piece goes up to the first CR LF
cut : (acc a r : List ℕ) → unbroken a ≡ true → pieces_after acc (a ++ (13 ∷ 10 ∷ r)) ≡ (reverse acc ++ (a ++ line_end)) ∷ pieces_after [] r
cut acc [] r h =
    goes_on acc 13 (10 ∷ r) refl
    ∙ ends_here acc r
    ∙ ap (λ (l : List ℕ). l ∷ pieces_after [] r) (sym (append-nil (reverse (10 ∷ 13 ∷ acc))) ∙ turned (13 ∷ acc) 10 [] ∙ turned acc 13 (10 ∷ []))
cut acc (c ∷ a) r h =
    goes_on acc c (a ++ (13 ∷ 10 ∷ r)) (not-true (eqb c 10) (both_left (not (eqb c 10)) (unbroken a) h))
    ∙ cut (c ∷ acc) a r (both_right (not (eqb c 10)) (unbroken a) h)
    ∙ ap (λ (l : List ℕ). l ∷ pieces_after [] r) (turned acc c (a ++ line_end))

-- a line with more after it
first_piece : (a r : List ℕ) → unbroken a ≡ true → pieces_of ((a ++ line_end) ++ r) ≡ (a ++ line_end) ∷ pieces_of r
unfolding pieces_of
first_piece a r h = rw append_assoc (cut [] a r h)

-- a line alone
one_piece : (a : List ℕ) → unbroken a ≡ true → pieces_of (a ++ line_end) ≡ (a ++ line_end) ∷ []
unfolding pieces_of pieces_after
one_piece a h = cut [] a [] h

-- ---- the bytes of a line before its end

-- texts that may be shown
printable_unbroken : (t : List ℕ) → is_printable t ≡ true → unbroken t ≡ true
printable_unbroken [] e = refl
printable_unbroken (c ∷ t) e =
    let here = both_left (leb 32 c && not (eqb c 34)) (is_printable t) e in
    let low = leb-true 32 c (both_left (leb 32 c) (not (eqb c 34)) here) in
    rw (ne_eqb c 10 (λ is. omega arith)) (printable_unbroken t (both_right (leb 32 c && not (eqb c 34)) (is_printable t) e))

-- digits
digit_unbroken : (k : ℕ) → unbroken (digit k ∷ []) ≡ true
digit_unbroken k = rw (ne_eqb (digit k) 10 (λ is. omega arith))

-- the last digits of a number
last_unbroken : (d m : ℕ) → unbroken (last_digits d m) ≡ true
unfolding last_digits
last_unbroken zero m = refl
last_unbroken (suc d) m = joined (last_digits d (m / 10)) (digit (m % 10) ∷ []) (last_unbroken d (m / 10)) (digit_unbroken (m % 10))

-- one digit, or more before it
digits_by : (b : Bool) (s : List ℕ) (m : ℕ) → unbroken s ≡ true → unbroken (elim b [ true ↦ digit m ∷ [] | false ↦ s ++ (digit (m % 10) ∷ []) ]) ≡ true
digits_by true s m h = digit_unbroken m
digits_by false s m h = joined s (digit (m % 10) ∷ []) h (digit_unbroken (m % 10))

-- all digits of a number
digits_unbroken : (f m : ℕ) → unbroken (digits_in f m) ≡ true
unfolding digits_in
digits_unbroken zero m = digit_unbroken m
digits_unbroken (suc f) m = digits_by (ltb m 10) (digits_in f (m / 10)) m (digits_unbroken f (m / 10))

-- with its point
decimal_unbroken : (d m : ℕ) → unbroken (decimal_of d m) ≡ true
unfolding decimal_of digits_of
decimal_unbroken zero m = digits_unbroken m m
decimal_unbroken (suc d) m =
    joined (digits_in (m / 10 ^ suc d) (m / 10 ^ suc d)) _ (digits_unbroken (m / 10 ^ suc d) (m / 10 ^ suc d)) (last_unbroken (suc d) m)

-- with its sign
number_unbroken : (d : ℕ) (n : ℤ) → unbroken (number_text d n) ≡ true
unfolding number_text
number_unbroken d (pos m) = decimal_unbroken d m
number_unbroken d (negsuc m) = decimal_unbroken d (suc m)

-- spaces
spaces_unbroken : (k : ℕ) → unbroken (replicate k space) ≡ true
spaces_unbroken zero = refl
spaces_unbroken (suc k) = spaces_unbroken k

-- the ten characters of a weight
aligned_unbroken : (w d : ℕ) (n : ℤ) → unbroken (aligned_in w d n) ≡ true
aligned_unbroken w d n = joined (replicate (w - width_of d n) space) (number_text d n) (spaces_unbroken (w - width_of d n)) (number_unbroken d n)

field_unbroken : (c : Bool) (d : ℕ) (n : ℤ) → unbroken (field_of c d n) ≡ true
unfolding field_of
field_unbroken true d n = joined (aligned_in 9 d n) (space ∷ []) (aligned_unbroken 9 d n) refl
field_unbroken false d n = aligned_unbroken 10 d n

cells_unbroken : (fits c : Bool) (d : ℕ) (n : ℤ) → unbroken (unwrap_or (field_if fits c d n) blank) ≡ true
cells_unbroken true c d n = field_unbroken c d n
cells_unbroken false c d n = refl

-- units, and their codes
unit_unbroken : (u : WeightUnit) → unbroken (unit_text u) ≡ true
unit_unbroken G = refl
unit_unbroken Mg = refl
unit_unbroken Ct = refl
unit_unbroken Oz = refl
unit_unbroken Ozt = refl
unit_unbroken Gn = refl
unit_unbroken Dwt = refl
unit_unbroken Kg = refl
unit_unbroken Lb = refl

code_unbroken : (u : WeightUnit) → unbroken (unit_code u) ≡ true
code_unbroken G = refl
code_unbroken Mg = refl
code_unbroken Ct = refl
code_unbroken Oz = refl
code_unbroken Ozt = refl
code_unbroken Gn = refl
code_unbroken Dwt = refl
code_unbroken Kg = refl
code_unbroken Lb = refl

-- ten characters, space, unit
weight_unbroken : (n : Number) → unbroken (weight_text n) ≡ true
unfolding weight_text
weight_unbroken n =
    let f = unwrap_or (field_if (fits_field n.coarse n.decimals n.places.0) n.coarse n.decimals n.places.0) blank in
    joined (f ++ ascii " ") (unit_text n.unit)
    (joined f (ascii " ") (cells_unbroken (fits_field n.coarse n.decimals n.places.0) n.coarse n.decimals n.places.0) refl)
    (unit_unbroken n.unit)

-- names
name_unbroken : (c : ℕ) → unbroken (name_of c) ≡ true
name_unbroken c = at_name unbroken names c refl

-- statuses
status_unbroken : (s : Status) → unbroken (status_text s) ≡ true
status_unbroken A = refl
status_unbroken B = refl
status_unbroken S = refl
status_unbroken D = refl
status_unbroken I = refl
status_unbroken L = refl
status_unbroken Over = refl
status_unbroken Under = refl

-- identification, space, status
head_unbroken : (h : Head) → unbroken (head_text h) ≡ true
unfolding head_text
head_unbroken h =
    joined (name_of h.identification ++ ascii " ") (status_text h.status)
    (joined (name_of h.identification) (ascii " ") (name_unbroken h.identification) refl)
    (status_unbroken h.status)

-- a text in quotes
quoted_unbroken : (t : List ℕ) → unbroken t ≡ true → unbroken (quoted t) ≡ true
quoted_unbroken t h = joined (ascii "\"" ++ t) (ascii "\"") (joined (ascii "\"") t refl h) refl

-- ES, ET, EL
error_unbroken : (e : Error) → unbroken (error_text e) ≡ true
error_unbroken Syntax = refl
error_unbroken Transmission = refl
error_unbroken Logical = refl

-- a line of I0
abbrev listed_body : Bool → ℕ → List ℕ
listed_body last c =
    ascii "I0 " ++ cond last (ascii "A") (ascii "B") ++ ascii " " ++ (digit (level_of c) ∷ []) ++ ascii " " ++ quoted (name_of c)

-- which ends nowhere before its end
listed_unbroken : (last : Bool) (c : ℕ) → unbroken (listed_body last c) ≡ true
listed_unbroken true c = joined (ascii "I0 A " ++ (digit (level_of c) ∷ []) ++ ascii " ") (quoted (name_of c)) (digit_unbroken (level_of c)) (quoted_unbroken (name_of c) (name_unbroken c))
listed_unbroken false c = joined (ascii "I0 B " ++ (digit (level_of c) ∷ []) ++ ascii " ") (quoted (name_of c)) (digit_unbroken (level_of c)) (quoted_unbroken (name_of c) (name_unbroken c))

-- ---- the pieces of the lines

-- a line of I0 with more after it
pub listed_first : (last : Bool) (c : ℕ) (r : List ℕ) → pieces_of (listed_line last c ++ r) ≡ listed_line last c ∷ pieces_of r
unfolding listed_line
listed_first last c r = first_piece (listed_body last c) r (listed_unbroken last c)

-- a text of I2 to I5 is one that may be shown
form_printable : (c : ℕ) (t : List ℕ) → can_form (Text c) t ≡ true → is_printable t ≡ true
form_printable c t e = both_right (has_text c && (leb (length t) 20 || (leb c 3 && leb (length t) 40))) (is_printable t) e

-- the line of an answer that can be formed is one piece
pub formed_piece : (a : Answer) (t : List ℕ) → can_form a t ≡ true → pieces_of (line_of a t) ≡ line_of a t ∷ []
unfolding line_of listed_line
formed_piece Nothing t e = absurd (false≢true e)
formed_piece (Plain h) t e = one_piece (head_text h) (head_unbroken h)
formed_piece (Weight h n) t e =
    one_piece (head_text h ++ ascii " " ++ weight_text n)
    (joined (head_text h ++ ascii " ") (weight_text n) (joined (head_text h) (ascii " ") (head_unbroken h) refl) (weight_unbroken n))
formed_piece (ErrorLine e) t form = one_piece (error_text e) (error_unbroken e)
formed_piece (Text c) t e =
    one_piece (name_of c ++ ascii " A " ++ quoted t)
    (joined (name_of c ++ ascii " A ") (quoted t)
    (joined (name_of c) (ascii " A ") (name_unbroken c) refl)
    (quoted_unbroken t (printable_unbroken t (form_printable c t e))))
formed_piece (Listed last c) t e = one_piece (listed_body last c) (listed_unbroken last c)
formed_piece CommandList t e = absurd (false≢true e)
formed_piece Versions t e = one_piece (ascii "I1 A \"0\" \"2.30\" \"2.20\"") refl
formed_piece (HostUnit u) t e = one_piece (ascii "M21 A 0 " ++ unit_code u) (joined (ascii "M21 A 0 ") (unit_code u) refl (code_unbroken u))
