-- What is guessed of a line that an answer forms is that answer.
-- Assumes nothing.
use mathlib.Core.Path.{◌≡◌, refl, ap, ◌∙◌}
use mathlib.Core.Bool.{Bool, true, false, cond, and-false}
use mathlib.Core.List.{List, ◌∷◌, ◌++◌}
use Prim.Native.Nat.{ℕ, ◌+◌, ◌-◌, ◌<◌}
use native.Mathlib.Omega.{arith}
use borrow.Author.Tests.{eq-eqb, ne_eqb, ltb-true, lt-leb}
use lib.Dec.{eqb, ltb, leb, lit<}
use lib.ListN.{length, drop, length-append}
use lib.Seq.{get_or-append-add, drop-append-add, take-append_seam, take_at}
use Rattle.answer.specs.Commands.{name_of, level_of, place_in, place_of, command_count, is_m21, has_text, place_i0, place_i1, place_i2, place_i5, place_m21}
use Rattle.answer.specs.Lines.{line_end, line_of}
use Rattle.answer.specs.declared.answer.Answer.{Answer}
use Rattle.answer.specs.declared.answer.Answer.TheVariants.{Nothing, Plain, Weight, ErrorLine, Text, Listed, CommandList, Versions, HostUnit}
use Rattle.answer.specs.declared.answer.Error.{Error}
use Rattle.answer.specs.declared.answer.Error.TheVariants.{Syntax, Transmission, Logical}
use Rattle.answer.specs.declared.answer.Head.{Head}
use Rattle.answer.specs.declared.answer.Number.{Number}
use Rattle.answer.proofs.Names.{name_found}
use Rattle.forms.specs.Forms.{plain_form, weight_form, no_text, can_form}
use Rattle.forms.proofs.Forming.{weight_head, weight_fits, text_command_lem}
use Rattle.forms.proofs.Places.{plain_place, weight_place, text_place_lem}
use Rattle.host.specs.Reads.{status_guess, weight_guess, head_guess, field_guess, unit_guess, listed_guess, code_guess, host_unit_guess, guessed}
use Rattle.host.proofs.Named.{name_unspaced, before_word, word_spaced}
use Rattle.host.proofs.Shapes.{status_byte, status_back, weight_rest, quoted_end, code_rest, listed_byte, plain_line, weight_line, text_line, listed_line_lem, host_unit_line}
use Rattle.text.specs.Searching.{has_space}
use Rattle.weight.specs.Characters.{digit}
use Rattle.text.specs.Ascii.{ascii}
use Rattle.weight.specs.declared.units.WeightUnit.{WeightUnit}
use Rattle.weight.specs.Places.{fits_field}
use Rattle.text.specs.Field.{field_of}
use Rattle.text.specs.Reading.{read_field}
use Rattle.text.specs.UnitTexts.{unit_text, unit_code, unit_named}
use Rattle.weight.proofs.Allowed.{both_left}
use Rattle.text.proofs.Named.{unit_read_back, code_read_back}
use Rattle.text.proofs.ReadBack.{read_back}
use Rattle.text.proofs.FieldWidth.{field_length}

-- ---- a word without a space, a space and a rest

-- the rest of a weight answer after the field
past_field : (f r : List ℕ) → length f ≡ 10 → drop 11 (f ++ (32 ∷ r)) ≡ r
past_field f r e =
    let at : 11 ≡ length f + 1 = omega arith in
    ap (λ (k : ℕ). drop k (f ++ (32 ∷ r))) at ∙ drop-append-add f (32 ∷ r) 1

module _ (w : List ℕ) (none : has_space w ≡ false) where
  plain_guessed : (b : ℕ) → guessed (w ++ (32 ∷ b ∷ line_end)) ≡ Plain (record { identification = place_of w; status = status_guess b })
  unfolding guessed
  plain_guessed b =
      rw (
        word_spaced w (b ∷ line_end),
        before_word w (b ∷ line_end) none,
        eq-eqb (length (w ++ (32 ∷ b ∷ line_end))) (length w + 4) (length-append w (32 ∷ b ∷ line_end)),
        get_or-append-add w (32 ∷ b ∷ line_end) 1 0,
      )

  -- a longer line goes by the place of its name
  module _ (r : List ℕ) (long : 3 < length r) where
    long_guessed : guessed (w ++ (32 ∷ r))
        ≡ cond (eqb (place_of w) 0) (listed_guess (w ++ (32 ∷ r)))
        (cond (eqb (place_of w) 1) Versions
        (cond (has_text (place_of w)) (Text (place_of w))
        (cond (is_m21 (place_of w)) (host_unit_guess (code_guess (w ++ (32 ∷ r))))
        (weight_guess (head_guess (w ++ (32 ∷ r))) (field_guess (w ++ (32 ∷ r))) (unit_guess (w ++ (32 ∷ r)))))))
    unfolding guessed
    long_guessed =
        rw (
          word_spaced w r,
          before_word w r none,
          ne_eqb (length (w ++ (32 ∷ r))) (length w + 4) (λ e. omega (arith, length-append w (32 ∷ r))),
        )

  module _ (b : ℕ) (f u : List ℕ) (ten : length f ≡ 10) where
    head_guessed : head_guess (w ++ (32 ∷ weight_rest b f u)) ≡ record { identification = place_of w; status = status_guess b }
    head_guessed = rw (before_word w (weight_rest b f u) none, get_or-append-add w (32 ∷ weight_rest b f u) 1 0)

    field_guessed : field_guess (w ++ (32 ∷ weight_rest b f u)) ≡ read_field f
    field_guessed = rw (before_word w (weight_rest b f u) none, drop-append-add w (32 ∷ weight_rest b f u) 3, take_at f (32 ∷ (u ++ line_end)) 10 ten)

    unit_length : length (w ++ (32 ∷ weight_rest b f u)) - (length w + 16) ≡ length u
    unit_length = omega (arith, length-append w (32 ∷ weight_rest b f u), length-append f (32 ∷ (u ++ line_end)), length-append u line_end)

    unit_guessed : unit_guess (w ++ (32 ∷ weight_rest b f u)) ≡ unit_named u
    unit_guessed =
        rw (
          before_word w (weight_rest b f u) none,
          unit_length,
          drop-append-add w (32 ∷ weight_rest b f u) 14,
          past_field f (u ++ line_end) ten,
          take-append_seam u line_end,
        )

-- ---- each form

module _ (h : Head) where
  guessed_plain : (t : List ℕ) → plain_form h.identification h.status ≡ true → guessed (line_of (Plain h) t) ≡ Plain h
  guessed_plain t e =
      let c = h.identification in
      ap guessed (plain_line h t)
      ∙ plain_guessed (name_of c) (name_unspaced c) (status_byte h.status)
      ∙ rw (name_found c (plain_place c h.status e), status_back h.status)

  module _ (n : Number) (form : weight_form h.identification h.status ≡ true) (fits : fits_field n.coarse n.decimals n.places.0 ≡ true) where
    weight_guessed : (w : List ℕ) → has_space w ≡ false → place_of w ≡ h.identification
        → guessed (w ++ (32 ∷ weight_rest (status_byte h.status) (field_of n.coarse n.decimals n.places.0) (unit_text n.unit))) ≡ Weight h n
    weight_guessed w none p =
        let c = h.identification in
        let b = status_byte h.status in
        let f = field_of n.coarse n.decimals n.places.0 in
        let u = unit_text n.unit in
        let ten = field_length n.coarse n.decimals n.places.0 fits in
        let place = weight_place c h.status form in
        long_guessed w none (weight_rest b f u) (omega (arith, length-append f (32 ∷ (u ++ line_end))))
        ∙ rw (
          p,
          ne_eqb c place_i0 (λ e. omega arith),
          ne_eqb c place_i1 (λ e. omega arith),
          lt-leb c place_i5 (omega arith),
          and-false (leb place_i2 c),
          ne_eqb c place_m21 (λ e. omega arith),
          head_guessed w none b f u ten,
          field_guessed w none b f u ten,
          unit_guessed w none b f u ten,
          p,
          status_back h.status,
          read_back n.coarse n.decimals n.places.0 fits,
          unit_read_back n.unit,
        )

    guessed_weight : (t : List ℕ) → guessed (line_of (Weight h n) t) ≡ Weight h n
    guessed_weight t =
        let c = h.identification in
        ap guessed (weight_line h n t fits)
        ∙ weight_guessed (name_of c) (name_unspaced c) (name_found c (omega (arith, (weight_place c h.status form).1)))

guessed_text : (c : ℕ) (t : List ℕ) → has_text c ≡ true → guessed (line_of (Text c) t) ≡ Text c
guessed_text c t e =
    let p = text_place_lem c e in
    let rest : List ℕ = 65 ∷ 32 ∷ quoted_end t in
    ap guessed (text_line c t)
    ∙ long_guessed (name_of c) (name_unspaced c) rest (omega (arith, length-append t (34 ∷ line_end)))
    ∙ rw (name_found c (omega arith), ne_eqb c 0 (λ e. omega arith), ne_eqb c 1 (λ e. omega arith), e)

guessed_listed : (last : Bool) (c : ℕ) (t : List ℕ) → c < command_count → guessed (line_of (Listed last c) t) ≡ Listed last c
guessed_listed last c t h =
    let n = name_of c in
    let rest = listed_byte last ∷ 32 ∷ digit (level_of c) ∷ 32 ∷ quoted_end n in
    let end = length-append n (34 ∷ line_end) in
    let name : length (ascii "I0" ++ (32 ∷ rest)) - 11 ≡ length n = omega arith in
    ap guessed (listed_line_lem last c t)
    ∙ long_guessed (ascii "I0") refl rest (omega arith)
    ∙ rw (name_found 0 (lit< tt), name, take-append_seam n (34 ∷ line_end), name_found c h, listed_last last)
  where
    listed_last : (b : Bool) → eqb (listed_byte b) 65 ≡ b
    listed_last true = refl
    listed_last false = refl

guessed_host_unit : (u : WeightUnit) (t : List ℕ) → guessed (line_of (HostUnit u) t) ≡ HostUnit u
guessed_host_unit u t =
    let rest = code_rest (unit_code u) in
    let code : length (ascii "M21" ++ (32 ∷ rest)) - 10 ≡ length (unit_code u) = omega (arith, length-append (unit_code u) line_end) in
    ap guessed (host_unit_line u t)
    ∙ long_guessed (ascii "M21") refl rest (omega arith)
    ∙ rw (name_found place_m21 (lit< tt), code, take-append_seam (unit_code u) line_end, code_read_back u)

guessed_versions : (t : List ℕ) → guessed (line_of Versions t) ≡ Versions
unfolding guessed line_of place_of place_in
guessed_versions t = refl

guessed_error : (e : Error) (t : List ℕ) → guessed (line_of (ErrorLine e) t) ≡ ErrorLine e
unfolding guessed line_of
guessed_error Syntax t = refl
guessed_error Transmission t = refl
guessed_error Logical t = refl

-- ---- what is used above

-- the guess of a line that an answer forms
pub guessed_back : (a : Answer) (t : List ℕ) → can_form a t ≡ true → guessed (line_of a t) ≡ a
guessed_back Nothing t e = let z : ◌≡◌ {A = ℕ} 0 1 = cc in absurd (omega arith)
guessed_back (Plain h) t e = guessed_plain h t (both_left (plain_form h.identification h.status) (no_text t) e)
guessed_back (Weight h n) t e = guessed_weight h n (weight_head h n t e) (weight_fits h n t e) t
guessed_back (ErrorLine e) t form = guessed_error e t
guessed_back (Text c) t e = guessed_text c t (text_command_lem c t e)
guessed_back (Listed last c) t e = guessed_listed last c t (ltb-true c command_count (both_left (ltb c command_count) (no_text t) e))
guessed_back CommandList t e = let z : ◌≡◌ {A = ℕ} 0 1 = cc in absurd (omega arith)
guessed_back Versions t e = guessed_versions t
guessed_back (HostUnit u) t e = guessed_host_unit u t
