-- The reader's and writer's branches.
-- Assumes nothing.
use mathlib.Core.Path.{◌≡◌, refl, sym, ap, ◌∙◌}
use mathlib.Core.Bool.{Bool, true, false, cond, ◌&&◌, and-false}
use mathlib.Core.List.{List}
use Prim.Native.Nat.{ℕ, ◌+◌, ◌<◌}
use native.Mathlib.Omega.{arith}
use borrow.Author.Tests.{eq-eqb}
use lib.ListN.{length}
use Rattle.std.specs.Prelude.{Option, Result, Ok, Err, ok_or}
use Rattle.answer.specs.Lines.{line_of}
use Rattle.emit.specs.Rooms.{fits_room, emitted, laid_in}
use Rattle.answer.specs.declared.answer.Answer.{Answer}
use Rattle.answer.specs.declared.answer.Answer.TheVariants.{Plain}
use Rattle.forms.specs.Forms.{plain_form, can_form, longest_line}
use Rattle.forms.proofs.Forming.{form_length}
use Rattle.host.specs.declared.reader.ReadText.{ReadText}
use Rattle.host.specs.declared.refusal.Refusal.{Refusal}
use Rattle.host.specs.declared.refusal.Refusal.TheVariants.{Room, Form}
use Rattle.host.specs.Refusals.{number_of}
use Rattle.host.specs.Frames.{is_ended, frame_of}
use Rattle.host.specs.Reads.{head_guess, guessed, text_place, text_at, is_answer, read_as, read_line, number_of_line}
use Rattle.host.specs.Writes.{WritesLine, writing}
use Rattle.host.proofs.Branches.{spaced_branch}
use Rattle.host.proofs.Confirming.{framed_confirms}
use Rattle.host.proofs.Inverse.{refused_exactly}
use Rattle.text.specs.Searching.{before_space}

-- ---- a line read

-- no answer forms a longer line
pub too_long : (l : List ℕ) → longest_line < length l → read_line l ≡ Err Form
too_long l h = (refused_exactly l).1 (λ a t form e. omega (arith, form_length a t form, ap length e))

-- what is guessed is taken where it can be formed and its frame is there
by_tests : (l : List ℕ) (a : Answer) → guessed l ≡ a
    → read_line l ≡ cond (can_form a (text_at (text_place a l) l) && frame_of a l) (Ok (read_as a (text_place a l))) (Err Form)
unfolding read_line
by_tests l a guess =
    rw guess (ap (λ (b : Bool). cond b (Ok (read_as a (text_place a l))) (Err Form)) (sym (framed_confirms a (text_at (text_place a l) l) l (sym guess) refl)))

module _ (l : List ℕ) where
  pub read_branch : frame_of (guessed l) l ≡ true → can_form (guessed l) (text_at (text_place (guessed l) l) l) ≡ true
      → read_line l ≡ Ok (read_as (guessed l) (text_place (guessed l) l))
  read_branch e f = rw (e, f) at (by_tests l (guessed l) refl)

  pub unframed_branch : frame_of (guessed l) l ≡ false → read_line l ≡ Err Form
  unframed_branch e = rw (e, and-false (can_form (guessed l) (text_at (text_place (guessed l) l) l))) at (by_tests l (guessed l) refl)

  pub unformed_branch : can_form (guessed l) (text_at (text_place (guessed l) l) l) ≡ false → read_line l ≡ Err Form
  unformed_branch f = rw f at (by_tests l (guessed l) refl)

-- an identification and a status alone, beside which no text is
abbrev nowhere : ReadText
nowhere = record { start = 0; len = 0 }

module _ (l : List ℕ) (size : length l ≡ length (before_space l) + 4) where
  plain_guess : guessed l ≡ Plain (head_guess l)
  plain_guess = spaced_branch l (omega arith) ∙ rw (eq-eqb (length l) (length (before_space l) + 4) size)

  plain_tests : (ended form : Bool) → is_ended l ≡ ended → plain_form (head_guess l).identification (head_guess l).status ≡ form
      → read_line l ≡ cond (form && true && ended) (Ok (read_as (Plain (head_guess l)) nowhere)) (Err Form)
  plain_tests ended form e f = rw (e, f) at (by_tests l (Plain (head_guess l)) plain_guess)

  pub plain_read : is_ended l ≡ true → plain_form (head_guess l).identification (head_guess l).status ≡ true → read_line l ≡ Ok (read_as (Plain (head_guess l)) nowhere)
  plain_read = plain_tests true true

  pub plain_unended : is_ended l ≡ false → read_line l ≡ Err Form
  plain_unended e = rw (and-false (plain_form (head_guess l).identification (head_guess l).status && true)) at (plain_tests false (plain_form (head_guess l).identification (head_guess l).status) e refl)

  pub plain_unformed : plain_form (head_guess l).identification (head_guess l).status ≡ false → read_line l ≡ Err Form
  plain_unformed f = plain_tests (is_ended l) false refl f

-- ---- the number of what is read

pub numbered_read : (l : List ℕ) → number_of_line l ≡ number_of (read_line l)
unfolding read_line number_of_line
numbered_read l = by (is_answer l) refl
  where
    by : (b : Bool) → is_answer l ≡ b → cond (is_answer l) 0 4 ≡ number_of (cond (is_answer l) (Ok (read_as (guessed l) (text_place (guessed l) l))) (Err Form))
    by true e = rw e
    by false e = rw e

-- ---- a line written

module _ (a : Answer) (t room : List ℕ) where
  pub unformed : can_form a t ≡ false → WritesLine a t room (Err Form) room
  unfolding writing
  unformed test = record { numbered = rw test; counted = rw test; left = rw test }

  pub written : (r : Result ℕ Refusal) (out : List ℕ) → can_form a t ≡ true → {n : Option ℕ} → n ≡ emitted (line_of a t) room → r ≡ ok_or n Room → out ≡ laid_in (line_of a t) room
      → WritesLine a t room r out
  unfolding writing emitted laid_in
  written r out test count given laid = by (fits_room (line_of a t) room) refl
    where
      by : (b : Bool) → fits_room (line_of a t) room ≡ b → WritesLine a t room r out
      by true e = record { numbered = rw (given, count, test, e); counted = rw (given, count, test, e); left = laid ∙ rw (test, e) }
      by false e = record { numbered = rw (given, count, test, e); counted = rw (given, count, test, e); left = laid ∙ rw (test, e) }
