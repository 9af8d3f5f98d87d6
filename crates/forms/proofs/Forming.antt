-- What can be formed: what its test says, and its length.
-- Assumes nothing.
use mathlib.Core.Path.{◌≡◌}
use mathlib.Core.Logic.{⊎_elim}
use mathlib.Core.Bool.{true, ◌&&◌, ◌||◌}
use mathlib.Core.List.{List}
use Prim.Native.Nat.{ℕ, ◌≤◌}
use native.Mathlib.Omega.{arith}
use borrow.Author.Tests.{leb-true}
use lib.Dec.{leb}
use lib.ListN.{length}
use lib.Signed.{non_neg}
use Rattle.answer.specs.Commands.{is_s, has_text}
use Rattle.answer.specs.Lines.{line_of}
use Rattle.answer.specs.declared.answer.Answer.{Answer}
use Rattle.answer.specs.declared.answer.Answer.TheVariants.{Nothing, Plain, Weight, ErrorLine, Text, Listed, CommandList, Versions, HostUnit}
use Rattle.answer.specs.declared.answer.Head.{Head}
use Rattle.answer.specs.declared.answer.Number.{Number}
use Rattle.answer.proofs.Lengths.{plain_length_lem, weight_length, error_length, text_length, listed_length, versions_length, unit_length}
use Rattle.answer.proofs.Names.{name_short}
use Rattle.forms.specs.Forms.{weight_form, number_form, no_text, can_form, longest_line}
use Rattle.forms.proofs.Places.{text_width}
use Rattle.text.specs.Printable.{is_printable}
use Rattle.weight.specs.Places.{fits_field}
use Rattle.text.proofs.Named.{unit_short, code_short}
use Rattle.weight.proofs.Allowed.{both_left, both_right, either_holds}

-- ---- what a form's test says

module _ (h : Head) (n : Number) (t : List ℕ) (form : can_form (Weight h n) t ≡ true) where
  weight_front : weight_form h.identification h.status && number_form h.identification n ≡ true
  weight_front = both_left (weight_form h.identification h.status && number_form h.identification n) (no_text t) form

  pub weight_head : weight_form h.identification h.status ≡ true
  weight_head = both_left (weight_form h.identification h.status) (number_form h.identification n) weight_front

  pub weight_fits : fits_field n.coarse n.decimals n.places.0 ≡ true
  weight_fits =
      both_left (fits_field n.coarse n.decimals n.places.0) (is_s h.identification || non_neg n.places.0)
      (both_right (weight_form h.identification h.status) (number_form h.identification n) weight_front)

module _ (c : ℕ) (t : List ℕ) (form : can_form (Text c) t ≡ true) where
  text_front : has_text c && (leb (length t) 20 || (leb c 3 && leb (length t) 40)) ≡ true
  text_front = both_left (has_text c && (leb (length t) 20 || (leb c 3 && leb (length t) 40))) (is_printable t) form

  pub text_command_lem : has_text c ≡ true
  text_command_lem = both_left (has_text c) (leb (length t) 20 || (leb c 3 && leb (length t) 40)) text_front

  pub text_short : length t ≤ 40
  text_short =
      ⊎_elim (λ e. omega (arith, leb-true (length t) 20 e)) (λ e. leb-true (length t) 40 (both_right (leb c 3) (leb (length t) 40) e))
      (either_holds (leb (length t) 20) (leb c 3 && leb (length t) 40)
      (both_right (has_text c) (leb (length t) 20 || (leb c 3 && leb (length t) 40)) text_front))

-- ---- no line is over 49 bytes

pub form_length : (a : Answer) (t : List ℕ) → can_form a t ≡ true → length (line_of a t) ≤ longest_line
form_length Nothing t e = let z : ◌≡◌ {A = ℕ} 0 1 = cc in absurd (omega arith)
form_length (Plain h) t e = omega (arith, plain_length_lem h t, name_short h.identification)
form_length (Weight h n) t e = omega (arith, weight_length h n t, name_short h.identification, unit_short n.unit)
form_length (ErrorLine e) t form = omega (arith, error_length e t)
form_length (Text c) t e = omega (arith, text_length c t, text_width c (text_command_lem c t e), text_short c t e)
form_length (Listed last c) t e = omega (arith, listed_length last c t, name_short c)
form_length CommandList t e = let z : ◌≡◌ {A = ℕ} 0 1 = cc in absurd (omega arith)
form_length Versions t e = omega (arith, versions_length t)
form_length (HostUnit u) t e = omega (arith, unit_length u t, code_short u)
