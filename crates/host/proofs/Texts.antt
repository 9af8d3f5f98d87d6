-- The text beside an answer stands in its line.
-- Assumes nothing.
use mathlib.Core.Path.{◌≡◌, refl}
use mathlib.Core.Bool.{true, ◌&&◌}
use mathlib.Core.List.{List, [], ◌∷◌, ◌++◌}
use Prim.Native.Nat.{ℕ, ◌+◌, ◌-◌}
use native.Mathlib.Omega.{arith}
use borrow.Author.Tests.{eqb-true}
use lib.Dec.{ltb}
use lib.ListN.{length, length-append}
use lib.Seq.{drop-append-add, take-append_seam}
use Rattle.answer.specs.Commands.{name_of, command_count}
use Rattle.answer.specs.Lines.{line_end, line_of}
use Rattle.answer.specs.declared.answer.Answer.{Answer}
use Rattle.answer.specs.declared.answer.Answer.TheVariants.{Nothing, Plain, Weight, ErrorLine, Text, Listed, CommandList, Versions, HostUnit}
use Rattle.forms.specs.Forms.{plain_form, weight_form, number_form, no_text, can_form}
use Rattle.forms.proofs.Forming.{text_command_lem}
use Rattle.forms.proofs.Places.{text_width}
use Rattle.host.specs.Reads.{text_place, text_at}
use Rattle.host.proofs.Shapes.{quoted_end, text_line}
use Rattle.weight.proofs.Allowed.{both_right}

none_is : (t : List ℕ) → no_text t ≡ true → [] ≡ t
none_is [] e = refl
none_is (c ∷ t) e = let z = eqb-true (length (c ∷ t)) 0 e in absurd (omega arith)

text_stands : (w t : List ℕ) → length w ≡ 2 → text_at (text_place (Text 0) (w ++ (32 ∷ 65 ∷ 32 ∷ quoted_end t))) (w ++ (32 ∷ 65 ∷ 32 ∷ quoted_end t)) ≡ t
text_stands w t e =
    let l = w ++ (32 ∷ 65 ∷ 32 ∷ quoted_end t) in
    let size : length l - 9 ≡ length t = omega (arith, length-append w (32 ∷ 65 ∷ 32 ∷ quoted_end t), length-append t (34 ∷ line_end)) in
    let at : 6 ≡ length w + 4 = omega arith in
    rw (size, at, drop-append-add w (32 ∷ 65 ∷ 32 ∷ quoted_end t) 4) (take-append_seam t (34 ∷ line_end))

pub text_back : (a : Answer) (t : List ℕ) → can_form a t ≡ true → text_at (text_place a (line_of a t)) (line_of a t) ≡ t
text_back Nothing t e = let z : ◌≡◌ {A = ℕ} 0 1 = cc in absurd (omega arith)
text_back (Plain h) t e = none_is t (both_right (plain_form h.identification h.status) (no_text t) e)
text_back (Weight h n) t e = none_is t (both_right (weight_form h.identification h.status && number_form h.identification n) (no_text t) e)
text_back (ErrorLine e) t form = none_is t form
text_back (Text c) t e = rw (text_line c t) (text_stands (name_of c) t (text_width c (text_command_lem c t e)))
text_back (Listed last c) t e = none_is t (both_right (ltb c command_count) (no_text t) e)
text_back CommandList t e = let z : ◌≡◌ {A = ℕ} 0 1 = cc in absurd (omega arith)
text_back Versions t e = none_is t e
text_back (HostUnit u) t e = none_is t e
