-- The bytes that a guess does not look at decide whether the line of a guess that can be formed is the line read.
-- Assumes nothing.
use mathlib.Core.Path.{◌≡◌, refl, sym, ap, ap₂, ◌∙◌}
use mathlib.Core.Bool.{Bool, true, false, cond, ◌&&◌, false≢true}
use mathlib.Core.List.{List, [], ◌∷◌, ◌++◌}
use Prim.Native.Nat.{ℕ, zero, suc, ◌+◌, ◌-◌, ◌≤◌, ◌<◌}
use native.Mathlib.Omega.{arith}
use borrow.Author.Tests.{eqb-true, ltb-true}
use lib.Dec.{eqb, leb, ltb}
use lib.ListN.{length, get_or, take, drop, length-append}
use lib.Seq.{get_or-append-add, drop-append-add}
use Rattle.answer.specs.Commands.{name_of, place_in, place_of, command_count, has_text, place_m21}
use Rattle.answer.specs.Lines.{line_end, line_of}
use Rattle.answer.specs.declared.answer.Answer.{Answer}
use Rattle.answer.specs.declared.answer.Answer.TheVariants.{Nothing, Plain, Weight, ErrorLine, Text, Listed, CommandList, Versions, HostUnit}
use Rattle.answer.specs.declared.answer.Error.{Error}
use Rattle.answer.specs.declared.answer.Error.TheVariants.{Syntax, Transmission, Logical}
use Rattle.answer.specs.declared.answer.Head.{Head}
use Rattle.answer.specs.declared.answer.Number.{Number}
use Rattle.answer.specs.declared.answer.Status.{Status}
use Rattle.answer.specs.declared.answer.Status.TheVariants.{A, B, S, D, I, L, Over, Under}
use Rattle.answer.proofs.Names.{found_name}
use Rattle.forms.specs.Forms.{plain_form, weight_form, can_form}
use Rattle.forms.proofs.Forming.{weight_head, text_command_lem}
use Rattle.forms.proofs.Places.{plain_place, weight_place, text_place_lem, text_width}
use Rattle.host.specs.Frames.{is_ended, weight_frame, error_frame, text_frame, listed_frame, host_unit_frame, frame_of}
use Rattle.host.specs.Reads.{status_guess, error_guess, weight_guess, head_guess, field_guess, unit_guess, listed_guess, code_guess, host_unit_guess, named_guess, plain_length, guessed, text_place, text_at, confirms}
use Rattle.host.proofs.Frames.{plain_same, weight_same, text_same, listed_same, host_unit_same, error_same}
use Rattle.host.proofs.Shapes.{status_byte, weight_rest, quoted_end, plain_line, weight_line, text_line, listed_line_lem, host_unit_line}
use Rattle.text.specs.Searching.{before_space, after_space, has_space}
use Rattle.text.specs.Ascii.{ascii, same_text}
use Rattle.text.specs.Field.{field_of}
use Rattle.text.specs.UnitTexts.{unit_text, unit_code, first_marked, unit_named, unit_coded}
use Rattle.std.specs.Prelude.{Option, Some, None}
use Rattle.text.specs.declared.reading.FieldNumber.{FieldNumber}
use Rattle.text.specs.Reading.{field_number}
use Rattle.weight.specs.declared.units.WeightUnit.{WeightUnit}
use Rattle.weight.specs.Units.{all_units}
use Rattle.weight.proofs.Allowed.{both_left}
use Rattle.text.proofs.Named.{unit_write_back, code_write_back}
use Rattle.text.proofs.Searching.{first_between}
use Rattle.text.proofs.FieldWidth.{field_length}
use Rattle.text.proofs.WriteBack.{write_back}

-- ---- what a guess says of its line

record PlainOf (l : List ℕ) (h : Head) : Type 0 where
  spaced : has_space l ≡ true
  size : length l ≡ length (before_space l) + 4
  head : h ≡ head_guess l

record WeightOf (l : List ℕ) (h : Head) (n : Number) : Type 0 where
  spaced : has_space l ≡ true
  head : h ≡ head_guess l
  field : field_guess l ≡ Some (field_number n.decimals n.places.0 n.coarse)
  unit : unit_guess l ≡ Some n.unit

record TextOf (l : List ℕ) (c : ℕ) : Type 0 where
  spaced : has_space l ≡ true
  place : c ≡ place_of (before_space l)

record ListedOf (l : List ℕ) (last : Bool) (c : ℕ) : Type 0 where
  spaced : has_space l ≡ true
  place : place_of (before_space l) ≡ 0
  mark : eqb (get_or l 3 0) 65 ≡ last
  name : c ≡ place_of (take (length l - 11) (drop 8 l))

record HostUnitOf (l : List ℕ) (u : WeightUnit) : Type 0 where
  spaced : has_space l ≡ true
  place : place_of (before_space l) ≡ place_m21
  code : code_guess l ≡ Some u

abbrev error_byte : Error → ℕ
error_byte Syntax = 83
error_byte Transmission = 84
error_byte Logical = 76

abbrev Of : List ℕ → Answer → Type 0
Of l Nothing = Unit
Of l (Plain h) = PlainOf l h
Of l (Weight h n) = WeightOf l h n
Of l (ErrorLine e) = get_or l 1 0 ≡ error_byte e
Of l (Text c) = TextOf l c
Of l (Listed last c) = ListedOf l last c
Of l CommandList = Unit
Of l Versions = Unit
Of l (HostUnit u) = HostUnitOf l u

module _ (l : List ℕ) where
  error_of : (x y z : Bool) → eqb (get_or l 1 0) 83 ≡ x → eqb (get_or l 1 0) 84 ≡ y → eqb (get_or l 1 0) 76 ≡ z
      → Of l (cond x (ErrorLine Syntax) (cond y (ErrorLine Transmission) (cond z (ErrorLine Logical) Nothing)))
  error_of true y z e f g = eqb-true (get_or l 1 0) 83 e
  error_of false true z e f g = eqb-true (get_or l 1 0) 84 f
  error_of false false true e f g = eqb-true (get_or l 1 0) 76 g
  error_of false false false e f g = tt

  weight_of : (f : Option FieldNumber) (u : Option WeightUnit) → has_space l ≡ true → field_guess l ≡ f → unit_guess l ≡ u → Of l (weight_guess (head_guess l) f u)
  weight_of (Some f) (Some u) s e g = record { spaced = s; head = refl; field = e; unit = g }
  weight_of (Some f) None s e g = tt
  weight_of None u s e g = tt

  host_unit_of : (u : Option WeightUnit) → has_space l ≡ true → place_of (before_space l) ≡ place_m21 → code_guess l ≡ u → Of l (host_unit_guess u)
  host_unit_of (Some u) s p e = record { spaced = s; place = p; code = e }
  host_unit_of None s p e = tt

  named_of : (p z o i m : Bool) → has_space l ≡ true → eqb (length l) (plain_length l) ≡ p → eqb (place_of (before_space l)) 0 ≡ z
      → eqb (place_of (before_space l)) place_m21 ≡ m
      → Of l
      (cond p (Plain (head_guess l))
      (cond z (listed_guess l)
      (cond o Versions
      (cond i (Text (place_of (before_space l)))
      (cond m (host_unit_guess (code_guess l)) (weight_guess (head_guess l) (field_guess l) (unit_guess l)))))))
  named_of true z o i m s p q n = record { spaced = s; size = eqb-true (length l) (plain_length l) p; head = refl }
  named_of false true o i m s p q n = record { spaced = s; place = eqb-true (place_of (before_space l)) 0 q; mark = refl; name = refl }
  named_of false false true i m s p q n = tt
  named_of false false false true m s p q n = record { spaced = s; place = refl }
  named_of false false false false true s p q n = host_unit_of (code_guess l) s (eqb-true (place_of (before_space l)) place_m21 n) refl
  named_of false false false false false s p q n = weight_of (field_guess l) (unit_guess l) s refl refl

  spaced_of : (b : Bool) → has_space l ≡ b → Of l (cond b (named_guess (place_of (before_space l)) l) (error_guess (get_or l 1 0)))
  spaced_of true s =
      let c = place_of (before_space l) in
      named_of (eqb (length l) (plain_length l)) (eqb c 0) (eqb c 1) (leb 2 c && leb c 5) (eqb c place_m21) s refl refl refl
  spaced_of false s = error_of (eqb (get_or l 1 0) 83) (eqb (get_or l 1 0) 84) (eqb (get_or l 1 0) 76) refl refl refl

  guess_of : Of l (guessed l)
  unfolding guessed
  guess_of = spaced_of (has_space l) refl

-- ---- what the guess has read

-- the status of a byte, but for B, has that byte
own_status : (b : ℕ) (s : Status) → s ≡ status_guess b → (s ≡ B → ⊥) → status_byte s ≡ b
own_status b s e other =
    ap status_byte e
    ∙ by (eqb b 65) (eqb b 83) (eqb b 68) (eqb b 73) (eqb b 76) (eqb b 43) (eqb b 45) refl refl refl refl refl refl refl (λ p. other (e ∙ p))
  where
    by : (a s d i l o u : Bool) → eqb b 65 ≡ a → eqb b 83 ≡ s → eqb b 68 ≡ d → eqb b 73 ≡ i → eqb b 76 ≡ l → eqb b 43 ≡ o → eqb b 45 ≡ u
        → (cond a A (cond s S (cond d D (cond i I (cond l L (cond o Over (cond u Under B)))))) ≡ B → ⊥)
        → status_byte (cond a A (cond s S (cond d D (cond i I (cond l L (cond o Over (cond u Under B))))))) ≡ b
    by true s d i l o u e1 e2 e3 e4 e5 e6 e7 n = sym (eqb-true b 65 e1)
    by false true d i l o u e1 e2 e3 e4 e5 e6 e7 n = sym (eqb-true b 83 e2)
    by false false true i l o u e1 e2 e3 e4 e5 e6 e7 n = sym (eqb-true b 68 e3)
    by false false false true l o u e1 e2 e3 e4 e5 e6 e7 n = sym (eqb-true b 73 e4)
    by false false false false true o u e1 e2 e3 e4 e5 e6 e7 n = sym (eqb-true b 76 e5)
    by false false false false false true u e1 e2 e3 e4 e5 e6 e7 n = sym (eqb-true b 43 e6)
    by false false false false false false true e1 e2 e3 e4 e5 e6 e7 n = sym (eqb-true b 45 e7)
    by false false false false false false false e1 e2 e3 e4 e5 e6 e7 n = absurd (n refl)

-- no text is no unit, no code and no name
marked_some : (coded : Bool) (k : ℕ) (v : List ℕ) (u : WeightUnit) → first_marked coded (take k v) all_units ≡ Some u → 1 ≤ k
unfolding first_marked
marked_some true zero v u e = let z : ◌≡◌ {A = ℕ} 0 1 = cc in absurd (omega arith)
marked_some false zero v u e = let z : ◌≡◌ {A = ℕ} 0 1 = cc in absurd (omega arith)
marked_some coded (suc k) v u e = omega arith

unit_some : (k : ℕ) (v : List ℕ) (u : WeightUnit) → unit_named (take k v) ≡ Some u → 1 ≤ k
unfolding unit_named
unit_some = marked_some false

code_some : (k : ℕ) (v : List ℕ) (u : WeightUnit) → unit_coded (take k v) ≡ Some u → 1 ≤ k
unfolding unit_coded
code_some = marked_some true

name_some : (k : ℕ) (v : List ℕ) → place_of (take k v) < command_count → 1 ≤ k
unfolding place_of place_in
name_some zero v h = let z : command_count < command_count = h in absurd (omega arith)
name_some (suc k) v h = omega arith

text_after : (w r t : List ℕ) → length w ≡ 2 → take (length (w ++ (32 ∷ r)) - 9) (drop 6 (w ++ (32 ∷ r))) ≡ t
    → text_frame (w ++ (32 ∷ r)) && is_ended (w ++ (32 ∷ r)) ≡ same_text (w ++ (32 ∷ 65 ∷ 32 ∷ quoted_end t)) (w ++ (32 ∷ r))
text_after [] r t h e = absurd (omega arith)
text_after (c ∷ []) r t h e = absurd (omega arith)
text_after (c ∷ d ∷ []) r t h e = text_same c d t r e
text_after (c ∷ d ∷ x ∷ w) r t h e = absurd (omega arith)

-- a line with a space: its name, and the bytes after the space
module _ (l : List ℕ) (spaced : has_space l ≡ true) where
  cut : l ≡ before_space l ++ (32 ∷ after_space l)
  cut = first_between 32 l spaced

  cut_length : length l ≡ length (before_space l) + length (32 ∷ after_space l)
  cut_length = ap length cut ∙ length-append (before_space l) (32 ∷ after_space l)

  drop_past : (i : ℕ) → drop (length (before_space l) + i) l ≡ drop i (32 ∷ after_space l)
  drop_past i =
      ap (λ (v : List ℕ). drop (length (before_space l) + i) v) cut ∙ drop-append-add (before_space l) (32 ∷ after_space l) i

  module _ (h : Head) (head : h ≡ head_guess l) where
    head_name : h.identification < command_count → name_of h.identification ≡ before_space l
    head_name known =
        let place : h.identification ≡ place_of (before_space l) = ap (λ (x : Head). x.identification) head in
        ap name_of place ∙ found_name (before_space l) (rw place at known)

    head_byte : (h.status ≡ B → ⊥) → status_byte h.status ≡ get_or (after_space l) 0 0
    head_byte other =
        own_status (get_or l (length (before_space l) + 1) 0) h.status (ap (λ (x : Head). x.status) head) other
        ∙ ap (λ (v : List ℕ). get_or v (length (before_space l) + 1) 0) cut
        ∙ get_or-append-add (before_space l) (32 ∷ after_space l) 1 0

    plain_framed : (t : List ℕ) → length l ≡ length (before_space l) + 4 → plain_form h.identification h.status ≡ true
        → is_ended l ≡ same_text (line_of (Plain h) t) l
    plain_framed t size form =
        let name = head_name (plain_place h.identification h.status form) in
        let byte = head_byte (λ e. false≢true (rw e at form)) in
        ap is_ended cut
        ∙ plain_same (before_space l) (after_space l) (status_byte h.status) (omega (arith, cut_length)) byte
        ∙ sym (ap₂ same_text (plain_line h t ∙ ap (λ (v : List ℕ). v ++ (32 ∷ status_byte h.status ∷ line_end)) name) cut)

    weight_framed : (n : Number) (t : List ℕ) → field_guess l ≡ Some (field_number n.decimals n.places.0 n.coarse) → unit_guess l ≡ Some n.unit
        → weight_form h.identification h.status ≡ true
        → weight_frame (length (before_space l)) l && is_ended l ≡ same_text (line_of (Weight h n) t) l
    weight_framed n t field unit form =
        let w = before_space l in
        let r = after_space l in
        let k = length l - (length w + 16) in
        let f = field_of n.coarse n.decimals n.places.0 in
        let name = head_name (omega (arith, (weight_place h.identification h.status form).1)) in
        let byte = head_byte (λ e. false≢true (rw e at form)) in
        let back = write_back (take 10 (drop (length w + 3) l)) n.coarse n.decimals n.places.0 field in
        let ten = field_length n.coarse n.decimals n.places.0 back.0 in
        let cells : take 10 (drop 2 r) ≡ f = ap (take 10) (sym (drop_past 3)) ∙ sym back.1 in
        let named : take k (drop 13 r) ≡ unit_text n.unit = ap (take k) (sym (drop_past 14)) ∙ unit_write_back (take k (drop (length w + 14) l)) n.unit unit in
        let some = unit_some k (drop (length w + 14) l) n.unit unit in
        ap (λ (v : List ℕ). weight_frame (length w) v && is_ended v) cut
        ∙ weight_same w r f (unit_text n.unit) (status_byte h.status) k byte cells ten named (omega (arith, some, cut_length))
        ∙ sym (ap₂ same_text (weight_line h n t back.0 ∙ ap (λ (v : List ℕ). v ++ (32 ∷ weight_rest (status_byte h.status) f (unit_text n.unit))) name) cut)

  text_framed : (c : ℕ) → c ≡ place_of (before_space l) → has_text c ≡ true
      → text_frame l && is_ended l ≡ same_text (line_of (Text c) (take (length l - 9) (drop 6 l))) l
  text_framed c place form =
      let w = before_space l in
      let p = text_place_lem c form in
      let known : place_of w < command_count = rw (← place) (omega arith) in
      let name : name_of c ≡ w = ap name_of place ∙ found_name w known in
      let two : length w ≡ 2 = ap length (sym name) ∙ text_width c form in
      let t = take (length l - 9) (drop 6 l) in
      ap (λ (v : List ℕ). text_frame v && is_ended v) cut
      ∙ text_after w (after_space l) t two (ap (λ (v : List ℕ). take (length v - 9) (drop 6 v)) (sym cut))
      ∙ sym (ap₂ same_text (text_line c t ∙ ap (λ (v : List ℕ). v ++ (32 ∷ 65 ∷ 32 ∷ quoted_end t)) name) cut)

  listed_framed : (last : Bool) (c : ℕ) (t : List ℕ) → place_of (before_space l) ≡ 0 → eqb (get_or l 3 0) 65 ≡ last
      → c ≡ place_of (take (length l - 11) (drop 8 l)) → c < command_count
      → listed_frame last c l && is_ended l ≡ same_text (line_of (Listed last c) t) l
  listed_framed last c t place mark found h =
      let w = before_space l in
      let r = after_space l in
      let first : ascii "I0" ≡ w = ap name_of (sym place) ∙ found_name w (rw place (omega arith)) in
      let line : l ≡ 73 ∷ 48 ∷ 32 ∷ r = cut ∙ ap (λ (v : List ℕ). v ++ (32 ∷ r)) (sym first) in
      let known : place_of (take (length l - 11) (drop 8 l)) < command_count = rw (← found) h in
      let own : take (length l - 11) (drop 8 l) ≡ name_of c = sym (ap name_of found ∙ found_name (take (length l - 11) (drop 8 l)) known) in
      let some = name_some (length l - 11) (drop 8 l) known in
      let size = ap length line in
      let less : length r - 8 ≡ length l - 11 = omega arith in
      let name : take (length r - 8) (drop 5 r) ≡ name_of c = ap₂ take less (ap (drop 8) (sym line)) ∙ own in
      ap (λ (v : List ℕ). listed_frame last c v && is_ended v) line
      ∙ listed_same r (name_of c) last c name (omega arith) (ap (λ (v : List ℕ). eqb (get_or v 3 0) 65) (sym line) ∙ mark)
      ∙ sym (ap₂ same_text (listed_line_lem last c t) line)

  host_unit_framed : (u : WeightUnit) (t : List ℕ) → place_of (before_space l) ≡ place_m21 → code_guess l ≡ Some u
      → host_unit_frame l && is_ended l ≡ same_text (line_of (HostUnit u) t) l
  host_unit_framed u t place found =
      let w = before_space l in
      let r = after_space l in
      let k = length l - 10 in
      let name : ascii "M21" ≡ w = ap name_of (sym place) ∙ found_name w (rw place (omega arith)) in
      let line : l ≡ ascii "M21" ++ (32 ∷ r) = cut ∙ ap (λ (v : List ℕ). v ++ (32 ∷ r)) (sym name) in
      let code : take k (drop 4 r) ≡ unit_code u = ap (λ (v : List ℕ). take k (drop 8 v)) (sym line) ∙ code_write_back (take k (drop 8 l)) u found in
      let some = code_some k (drop 8 l) u found in
      ap (λ (v : List ℕ). host_unit_frame v && is_ended v) line
      ∙ host_unit_same r (unit_code u) k code (omega (arith, some, ap length line))
      ∙ sym (ap₂ same_text (host_unit_line u t) line)

error_framed : (l t : List ℕ) (e : Error) → get_or l 1 0 ≡ error_byte e → error_frame l && is_ended l ≡ same_text (line_of (ErrorLine e) t) l
unfolding line_of
error_framed l t Syntax p = error_same l 83 (sym p)
error_framed l t Transmission p = error_same l 84 (sym p)
error_framed l t Logical p = error_same l 76 (sym p)

versions_framed : (l t : List ℕ) → same_text (line_of Versions l) l ≡ same_text (line_of Versions t) l
unfolding line_of
versions_framed l t = refl

framed_same : (a : Answer) (l : List ℕ) → Of l a → can_form a (text_at (text_place a l) l) ≡ true
    → frame_of a l ≡ same_text (line_of a (text_at (text_place a l) l)) l
framed_same Nothing l g form = let z : ◌≡◌ {A = ℕ} 0 1 = cc in absurd (omega arith)
framed_same (Plain h) l g form = plain_framed l g.spaced h g.head [] g.size (both_left (plain_form h.identification h.status) true form)
framed_same (Weight h n) l g form = weight_framed l g.spaced h g.head n [] g.field g.unit (weight_head h n [] form)
framed_same (ErrorLine e) l g form = error_framed l [] e g
framed_same (Text c) l g form = text_framed l g.spaced c g.place (text_command_lem c (take (length l - 9) (drop 6 l)) form)
framed_same (Listed last c) l g form = listed_framed l g.spaced last c [] g.place g.mark g.name (ltb-true c command_count (both_left (ltb c command_count) true form))
framed_same CommandList l g form = let z : ◌≡◌ {A = ℕ} 0 1 = cc in absurd (omega arith)
framed_same Versions l g form = versions_framed l []
framed_same (HostUnit u) l g form = host_unit_framed l g.spaced u [] g.place g.code

-- ---- what is used above

-- a guess is confirmed where it can be formed and its frame is there
pub framed_confirms : (a : Answer) (t l : List ℕ) → a ≡ guessed l → t ≡ text_at (text_place a l) l → can_form a t && frame_of a l ≡ confirms a t l
unfolding confirms
framed_confirms a t l guess text = by (can_form a t) refl
  where
    by : (b : Bool) → can_form a t ≡ b → b && frame_of a l ≡ b && same_text (line_of a t) l
    by true e = rw text (framed_same a l (rw guess (guess_of l)) (rw text at e))
    by false e = refl
