-- What the judgement of a finished line says of that line, in the tally's words.
-- Assumes nothing.
use Prim.Native.Nat.{ℕ}
use mathlib.Core.Path.{◌≡◌, refl, sym, ap, ◌∙◌}
use mathlib.Core.Bool.{Bool, true, false, not, false≢true}
use mathlib.Core.List.{List, ◌++◌, map}
use borrow.Author.Tests.{not-true}
use Rattle.answer.specs.Commands.{name_of}
use Rattle.line.specs.declared.judge.Situation.{Situation}
use Rattle.line.specs.declared.judge.Verdict.{Verdict}
use Rattle.line.specs.declared.judge.Verdict.TheVariants.{Erroneous, Reset, Busy, Wrong, NoSample, Run, Preset, Change, Show, Select}
use Rattle.line.specs.Unbounded.{Marked, byte_in, any_faulty, judgement_of}
use Rattle.line.proofs.Proper.{RunMay, run_may}
use Rattle.line.proofs.Verdicts.{GoodLine, reset_line, reset_judged, run_line, preset_line, parameter_in, select_line}
use Rattle.weight.specs.declared.amount.Tare.{Tare}
use Rattle.text.specs.Ascii.{ascii, same_text}
use Rattle.text.specs.Searching.{before_space}
use Rattle.text.specs.Typed.{preset_resolution}
use Rattle.weight.specs.declared.rounding.Resolution.{Resolution}
use Rattle.weight.specs.declared.units.WeightUnit.{WeightUnit}
use Rattle.weight.proofs.Allowed.{both_left, both_right}
use Rattle.text.proofs.Named.{same_is}
use Rattle.history.specs.Tally.{is_reset_line, is_unit_line, typed_text, unit_set}
use Rattle.history.proofs.TypedLines.{TypedAs, typed_as}

-- ---- @

abbrev pub resets : Verdict → Bool
resets (Erroneous e) = false
resets Reset = true
resets (Busy c) = false
resets (Wrong c) = false
resets (NoSample c) = false
resets (Run c) = false
resets (Preset m) = false
resets (Change t) = false
resets (Show n) = false
resets (Select u) = false

resets_is : (v : Verdict) → resets v ≡ true → v ≡ Reset
resets_is (Erroneous e) h = absurd (false≢true h)
resets_is Reset h = refl
resets_is (Busy c) h = absurd (false≢true h)
resets_is (Wrong c) h = absurd (false≢true h)
resets_is (NoSample c) h = absurd (false≢true h)
resets_is (Run c) h = absurd (false≢true h)
resets_is (Preset m) h = absurd (false≢true h)
resets_is (Change t) h = absurd (false≢true h)
resets_is (Show n) h = absurd (false≢true h)
resets_is (Select u) h = absurd (false≢true h)

-- two tests that hold together are the same
same_tests : (a b : Bool) → (a ≡ true → b ≡ true) → (b ≡ true → a ≡ true) → a ≡ b
same_tests true b f g = sym (f refl)
same_tests false true f g = g refl
same_tests false false f g = refl

reset_good : (f : List Marked) → is_reset_line f ≡ true → GoodLine f (ascii "@")
reset_good f e =
    record {
      bytes = same_is (map byte_in f) (ascii "@") (both_right (not (any_faulty f)) (same_text (map byte_in f) (ascii "@")) e);
      good = not-true (any_faulty f) (both_left (not (any_faulty f)) (same_text (map byte_in f) (ascii "@")) e);
    }

module _ (j : Situation) (f : List Marked) where
  reset_then : resets (judgement_of j f) ≡ true → is_reset_line f ≡ true
  reset_then e =
      let g : GoodLine f (ascii "@") = reset_line j f (resets_is (judgement_of j f) e) in
      rw (g.good, g.bytes)

  -- the line @, and no other, resets
  pub reset_test : resets (judgement_of j f) ≡ is_reset_line f
  reset_test =
      same_tests (resets (judgement_of j f)) (is_reset_line f) reset_then
      (λ e. ap resets (reset_judged j f (reset_good f e)))

-- ---- what each verdict says of the line

-- the line of a command run: its name alone
pub record RunSays (j : Situation) (f : List Marked) (c : ℕ) : Type 0 where
  pub other : is_reset_line f ≡ false
  pub text : map byte_in f ≡ name_of c
  pub may : RunMay j c

-- the resolution that a typed number is rounded to
abbrev pub rounded_to : Situation → List ℕ → Resolution
rounded_to j t = preset_resolution j.capacity j.fine j.resolution t

-- the line TA number unit
pub record PresetSays (j : Situation) (f : List Marked) (m : Tare) : Type 0 where
  pub other : is_reset_line f ≡ false
  pub more : same_text (map byte_in f) (ascii "TA") ≡ false
  pub typed : TypedAs j.capacity (rounded_to j (typed_text (map byte_in f))) (typed_text (map byte_in f)) m.0

-- the line M21 0 code
pub record SelectSays (f : List Marked) (u : WeightUnit) : Type 0 where
  pub other : is_reset_line f ≡ false
  pub line : is_unit_line f ≡ true
  pub unit : unit_set (map byte_in f) ≡ u

abbrev pub Says : Situation → List Marked → Verdict → Type 0
Says j f (Erroneous e) = is_reset_line f ≡ false
Says j f Reset = is_reset_line f ≡ true
Says j f (Busy c) = is_reset_line f ≡ false
Says j f (Wrong c) = is_reset_line f ≡ false
Says j f (NoSample c) = is_reset_line f ≡ false
Says j f (Run c) = RunSays j f c
Says j f (Preset m) = PresetSays j f m
Says j f (Change t) = is_reset_line f ≡ false
Says j f (Show n) = is_reset_line f ≡ false
Says j f (Select u) = SelectSays f u

unit_name : (q : List ℕ) → before_space (ascii "M21 " ++ q) ≡ ascii "M21"
unit_name q = refl

module _ (j : Situation) (f : List Marked) where
  by_verdict : {v : Verdict} → judgement_of j f ≡ v → is_reset_line f ≡ resets v
  by_verdict h = sym (reset_test j f) ∙ ap resets h

  pub verdict_says : (v : Verdict) → judgement_of j f ≡ v → Says j f v
  verdict_says (Erroneous e) h = by_verdict h
  verdict_says Reset h = by_verdict h
  verdict_says (Busy c) h = by_verdict h
  verdict_says (Wrong c) h = by_verdict h
  verdict_says (NoSample c) h = by_verdict h
  verdict_says (Run c) h =
      record { other = by_verdict h; text = (run_line j f h).line.bytes; may = run_may j f h }
  verdict_says (Preset m) h =
      let line = preset_line j f h in
      record {
        other = by_verdict h;
        more = rw line.line.bytes;
        typed = typed_as j.capacity (rounded_to j (typed_text (map byte_in f))) (typed_text (map byte_in f)) m line.number line.within;
      }
  verdict_says (Change t) h = by_verdict h
  verdict_says (Show n) h = by_verdict h
  verdict_says (Select u) h =
      let line = select_line j f h in
      let name : before_space (map byte_in f) ≡ ascii "M21" = ap before_space line.line.bytes ∙ unit_name (parameter_in f) in
      record { other = by_verdict h; line = rw (line.line.good, name, line.unit); unit = rw line.unit }
