-- Reading and writing are inverse, and a line is refused exactly when no answer forms it.
-- Assumes nothing.
use mathlib.Core.Path.{◌≡◌, refl, ap}
use mathlib.Core.Bool.{Bool, true, false, cond}
use mathlib.Core.List.{List}
use Prim.Native.Nat.{ℕ}
use native.Mathlib.Omega.{arith}
use Rattle.answer.specs.Lines.{line_of}
use Rattle.answer.specs.declared.answer.Answer.{Answer}
use Rattle.forms.specs.Forms.{can_form}
use Rattle.std.specs.Prelude.{Result, Ok, Err}
use Rattle.host.specs.Refusals.{number_of}
use Rattle.host.specs.declared.reader.ReadLine.{ReadLine}
use Rattle.host.specs.declared.refusal.Refusal.{Refusal}
use Rattle.host.specs.declared.refusal.Refusal.TheVariants.{Room, Form}
use Rattle.host.specs.declared.reader.ReadText.{ReadText}
use Rattle.host.specs.Reads.{guessed, text_place, text_at, confirms, read_as, read_line}
use Rattle.host.proofs.Texts.{text_back}
use Rattle.host.proofs.Guessing.{guessed_back}
use Rattle.text.specs.Ascii.{same_text}
use Rattle.weight.proofs.Allowed.{both_left, both_right}
use Rattle.text.proofs.Named.{same_is, same_self}

-- ---- writing what was read

-- what is confirmed can be formed, and its line is the line read
confirmed : (a : Answer) (t l : List ℕ) → confirms a t l ≡ true → (can_form a t ≡ true) × (line_of a t ≡ l)
unfolding confirms
confirmed a t l e = (both_left (can_form a t) (same_text (line_of a t) l) e, same_is (line_of a t) l (both_right (can_form a t) (same_text (line_of a t) l) e))

-- by the test that the reader makes
read_by : (b : Bool) (l : List ℕ) (a g : Answer) (p q : ReadText) → confirms g (text_at q l) l ≡ b → cond b (Ok (read_as g q)) (Err Form) ≡ Ok (read_as a p)
    → (can_form a (text_at p l) ≡ true) × (line_of a (text_at p l) ≡ l)
read_by true l a g p q t e =
    let same : read_as g q ≡ read_as a p = cc in
    let answer : g ≡ a = ap (λ (r : ReadLine). r.answer) same in
    let place : q ≡ p = ap (λ (r : ReadLine). r.text) same in
    rw (← answer, ← place) (confirmed g (text_at q l) l t)
read_by false l a g p q t e = let z : ◌≡◌ {A = ℕ} 0 1 = cc in absurd (omega arith)

-- writing what was read gives those bytes again
pub written_read : (l : List ℕ) (a : Answer) (p : ReadText) → read_line l ≡ Ok (read_as a p)
    → (can_form a (text_at p l) ≡ true) × (line_of a (text_at p l) ≡ l)
unfolding read_line
written_read l a p e = read_by (confirms (guessed l) (text_at (text_place (guessed l) l) l) l) l a (guessed l) p (text_place (guessed l) l) refl e

-- ---- reading what was written

-- reading what was written gives that answer again, and the text at its place is the text written
pub read_written : (a : Answer) (t : List ℕ) → can_form a t ≡ true
    → (read_line (line_of a t) ≡ Ok (read_as a (text_place a (line_of a t)))) × (text_at (text_place a (line_of a t)) (line_of a t) ≡ t)
unfolding read_line confirms
read_written a t e = (rw (guessed_back a t e, text_back a t e, e, same_self (line_of a t)), text_back a t e)

-- ---- what is refused

-- no answer forms this line
abbrev pub Unformed : List ℕ → Type 0
Unformed l = (a : Answer) (t : List ℕ) → can_form a t ≡ true → line_of a t ≡ l → ⊥

-- what an answer forms is read
formed_read : (l : List ℕ) → read_line l ≡ Err Form → Unformed l
formed_read l e a t form line =
    let read = (read_written a t form).0 in
    let same : read_line (line_of a t) ≡ read_line l = ap read_line line in
    let z : ◌≡◌ {A = ℕ} 0 1 = cc in
    omega arith

refused_by : (b : Bool) (l : List ℕ) (g : Answer) (q : ReadText) → confirms g (text_at q l) l ≡ b → Unformed l → cond b (Ok (read_as g q)) (Err Form) ≡ Err Form
refused_by true l g q t none = let c = confirmed g (text_at q l) l t in absurd (none g (text_at q l) c.0 c.1)
refused_by false l g q t none = refl

unformed_refused : (l : List ℕ) → Unformed l → read_line l ≡ Err Form
unfolding read_line
unformed_refused l none =
    refused_by (confirms (guessed l) (text_at (text_place (guessed l) l) l) l) l (guessed l) (text_place (guessed l) l) refl none

-- a line is refused exactly when no answer forms it
pub refused_exactly : (l : List ℕ) → (read_line l ≡ Err Form → Unformed l) × (Unformed l → read_line l ≡ Err Form)
refused_exactly l = (formed_read l, unformed_refused l)

four_refused : (r : Result ReadLine Refusal) → number_of r ≡ 4 → r ≡ Err Form
four_refused (Ok p) e = absurd (omega arith)
four_refused (Err Room) e = absurd (omega arith)
four_refused (Err Form) e = refl

-- so its number is 4
pub four_exactly : (l : List ℕ) → (number_of (read_line l) ≡ 4 → Unformed l) × (Unformed l → number_of (read_line l) ≡ 4)
four_exactly l = (λ e. (refused_exactly l).0 (four_refused (read_line l) e), λ u. ap number_of ((refused_exactly l).1 u))
