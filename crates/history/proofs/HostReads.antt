-- What the host hands back of an answer that the tally accepts: each piece is read, and a weight is near enough.
-- Assumes nothing.
use Prim.Native.Nat.{ℕ, zero, suc, ◌+◌, ◌*◌, ◌≤◌}
use native.Mathlib.Omega.{arith}
use mathlib.Core.Path.{◌≡◌, refl, sym, subst, ◌∙◌}
use mathlib.Core.Bool.{Bool, true, ◌&&◌, ◌||◌}
use mathlib.Core.List.{List, [], ◌∷◌}
use borrow.Author.Tests.{lt-ltb, le-leb, leb-true}
use lib.Dec.{leb, eqb}
use lib.IntN.{ℤ, nat_abs, ◌-ℤ◌}
use lib.Signed.{non_neg}
use Rattle.answer.specs.Commands.{command_count, is_s}
use Rattle.answer.specs.Lines.{listed_line, listed_from, line_of, head_of}
use Rattle.answer.specs.declared.answer.Answer.{Answer}
use Rattle.answer.specs.declared.answer.Answer.TheVariants.{Nothing, Plain, Weight, ErrorLine, Text, Listed, CommandList, Versions, HostUnit}
use Rattle.answer.specs.declared.answer.Error.{Error}
use Rattle.answer.specs.declared.answer.Status.{Status}
use Rattle.forms.specs.Forms.{plain_form, weight_form, can_form}
use Rattle.model.specs.declared.profile.Profile.{Profile}
use Rattle.device.specs.Calls.{answer_text, answer_bytes}
use Rattle.weighing.specs.Weighings.{number_in}
use Rattle.history.specs.EndToEnd.{pieces_after, pieces_of, value_allowance, value_holds, pieces_hold}
use Rattle.history.specs.Tally.{Tally, in_force, in_force_at, in_same_range, is_weight_answer, is_whole, number_femtograms, exact_weight, allowance, weight_holds}
use Rattle.history.proofs.Pieces.{listed_first, formed_piece}
use Rattle.history.proofs.WeightLines.{Shows, places_printed, field_fits}
use Rattle.host.proofs.Inverse.{read_written}
use Rattle.weight.specs.declared.rounding.Resolution.{Resolution}
use Rattle.weight.specs.declared.units.WeightUnit.{WeightUnit}
use Rattle.weight.proofs.Allowed.{both_left, both_right}
use Rattle.weight.specs.Printing.{printable}
use Rattle.weight.specs.Rounding.{places_of}
use Rattle.text.specs.Ascii.{same_text}
use Rattle.text.specs.UnitTexts.{unit_text}
use Rattle.text.proofs.Named.{same_self}

-- each piece of the answer is read, and what is read of a weight in the unit u that the tally takes is near enough
abbrev pub ReadByHost : Profile → WeightUnit → Answer → Type 0
ReadByHost p u a =
    (t : Tally) → t.unit ≡ u → weight_holds (in_force_at p t (answer_bytes p a)) t (answer_bytes p a) ≡ true → pieces_hold p t (pieces_of (answer_bytes p a)) ≡ true

-- the unit of the resolution in force
force_unit : (p : Profile) (t : Tally) → (in_force p t).unit ≡ t.unit
unfolding in_force
force_unit p t = refl

-- ---- an answer of one line

-- a line that can be formed is read as its answer
read_back : (p : Profile) (t : Tally) (a : Answer) (text : List ℕ) (rest : List (List ℕ)) → can_form a text ≡ true
    → pieces_hold p t (line_of a text ∷ rest) ≡ (value_holds (in_force_at p t (line_of a text)) t (line_of a text) a && pieces_hold p t rest)
unfolding pieces_hold
read_back p t a text rest form = rw (read_written a text form).0

-- nothing is asked of no piece
none_held : (p : Profile) (t : Tally) → pieces_hold p t [] ≡ true
unfolding pieces_hold
none_held p t = refl

-- so it is read if its value holds
pub formed_read
    : (p : Profile) (u : WeightUnit) (a : Answer)
    → can_form a (answer_text p a) ≡ true
    → ((t : Tally) → t.unit ≡ u → let r = in_force_at p t (answer_bytes p a) in weight_holds r t (answer_bytes p a) ≡ true → value_holds r t (answer_bytes p a) a ≡ true)
    → ReadByHost p u a
unfolding answer_bytes
formed_read p u a form value t same holds =
    rw (formed_piece a (answer_text p a) form, read_back p t a (answer_text p a) [] form, value t same holds) (none_held p t)

-- ---- no answer

-- no bytes have no piece
no_pieces : (p : Profile) (t : Tally) → pieces_hold p t (pieces_of []) ≡ true
unfolding pieces_of pieces_after
no_pieces p t = none_held p t

pub nothing_read : (p : Profile) (u : WeightUnit) → ReadByHost p u Nothing
unfolding answer_bytes line_of
nothing_read p u t same holds = no_pieces p t

-- ---- I0

-- one of its lines is read
line_held : (p : Profile) (t : Tally) (last : Bool) (c : ℕ) (rest : List (List ℕ)) → can_form (Listed last c) [] ≡ true
    → pieces_hold p t (listed_line last c ∷ rest) ≡ pieces_hold p t rest
unfolding line_of
line_held p t last c rest form = read_back p t (Listed last c) [] rest form

-- and so are the n lines from c on
listed_held : (p : Profile) (t : Tally) (n c : ℕ) → n + c ≤ command_count → pieces_hold p t (pieces_of (listed_from n c)) ≡ true
unfolding listed_from
listed_held p t zero c known = no_pieces p t
listed_held p t (suc n) c known =
    let form : can_form (Listed (eqb n 0) c) [] ≡ true = rw (lt-ltb c command_count (omega arith)) in
    rw (listed_first (eqb n 0) c (listed_from n (suc c)), line_held p t (eqb n 0) c (pieces_of (listed_from n (suc c))) form)
    (listed_held p t n (suc c) (omega arith))

-- all of them
pub list_read : (p : Profile) (u : WeightUnit) → ReadByHost p u CommandList
unfolding answer_bytes line_of
list_read p u t same holds = listed_held p t command_count 0 (omega arith)

-- ---- answers of one line that are no weights

-- an identification and a status
pub plain_read : (p : Profile) (u : WeightUnit) (c : ℕ) (s : Status) → plain_form c s ≡ true → ReadByHost p u (Plain (head_of c s))
plain_read p u c s form = formed_read p u (Plain (head_of c s)) (rw form) (λ t same holds. refl)

-- ES, ET, EL
pub error_read : (p : Profile) (u : WeightUnit) (e : Error) → ReadByHost p u (ErrorLine e)
error_read p u e = formed_read p u (ErrorLine e) refl (λ t same holds. refl)

-- I1
pub versions_read : (p : Profile) (u : WeightUnit) → ReadByHost p u Versions
versions_read p u = formed_read p u Versions refl (λ t same holds. refl)

-- I2 to I5
pub text_read : (p : Profile) (u : WeightUnit) (c : ℕ) → can_form (Text c) (answer_text p (Text c)) ≡ true → ReadByHost p u (Text c)
text_read p u c form = formed_read p u (Text c) form (λ t same holds. refl)

-- M21: the unit in force
pub unit_read : (p : Profile) (u : WeightUnit) → ReadByHost p u (HostUnit u)
unit_read p u = formed_read p u (HostUnit u) refl (λ t same holds. rw (force_unit p t, same) (same_self (unit_text u)))

-- ---- weights

module _ (p : Profile) (r : Resolution) (w : ℤ) (fits : printable r w ≡ true) where
  -- how far off the number is, in a unit
  abbrev off : WeightUnit → Tally → List ℕ → ℕ
  off u t l = 2 * nat_abs (number_femtograms u r.decimals (places_of r w) -ℤ exact_weight t l)

  -- what the tally takes of its ten characters: the range, and how far off
  number_near : (k : Resolution) (t : Tally) (l : List ℕ) → is_weight_answer l ≡ true → Shows r w l → weight_holds k t l ≡ true
      → (in_same_range k.coarse r.coarse && leb (off k.unit t l) (allowance k t)) ≡ true
  unfolding weight_holds
  number_near k t l weight shows holds =
      both_right (is_whole k.unit l) (in_same_range k.coarse r.coarse && leb (off k.unit t l) (allowance k t)) (rw (weight, shows.number) at holds)

  -- the reader's value may be as far off
  value_near : (u : WeightUnit) (t : Tally) (l : List ℕ) (k : Resolution) → leb (off u t l) (allowance k t) ≡ true → leb (off u t l) (value_allowance k t) ≡ true
  value_near u t l k e = le-leb (off u t l) (value_allowance k t) (omega (arith, leb-true (off u t l) (allowance k t) e))

  -- the reader's number is the one that the tally compared
  pub weight_read
      : (c : ℕ) (s : Status)
      → weight_form c s ≡ true
      → (is_s c || non_neg (places_of r w)) ≡ true
      → is_weight_answer (answer_bytes p (Weight (head_of c s) (number_in r w))) ≡ true
      → Shows r w (answer_bytes p (Weight (head_of c s) (number_in r w)))
      → ReadByHost p r.unit (Weight (head_of c s) (number_in r w))
  weight_read c s form sign weight shows =
      formed_read p r.unit (Weight (head_of c s) (number_in r w))
      (rw (form, places_printed r w fits, field_fits r w fits, sign))
      (λ t same holds.
      let l = answer_bytes p (Weight (head_of c s) (number_in r w)) in
      let k = in_force_at p t l in
      let both = number_near k t l weight shows holds in
      let range = both_left (in_same_range k.coarse r.coarse) (leb (off k.unit t l) (allowance k t)) both in
      let near = both_right (in_same_range k.coarse r.coarse) (leb (off k.unit t l) (allowance k t)) both in
      let unit : same_text (unit_text r.unit) (unit_text k.unit) ≡ true =
      subst (λ (u : WeightUnit). same_text (unit_text r.unit) (unit_text u) ≡ true) (sym (force_unit p t ∙ same)) (same_self (unit_text r.unit)) in
      rw (range, unit, places_printed r w fits) (value_near k.unit t l k near))
