-- Document 02, No. 3: what TA A answers to a typed tare is the rounded decimal, over the lists of calls of demand 3, and typing what it
-- answered sets the same tare again. Two of the customer's loggers rely on both. With a coarse range (No. 7) the stored tare can lie in
-- another range than the number that was typed: then the answer is the stored tare's, and typing it again may set another one.
-- Assumes nothing.
use Rattle.std.specs.Prelude.{ℕ, ◌≡◌, Bool, true, false, cond, not, ◌&&◌, ◌||◌, List, [], ◌∷◌, ◌++◌, map, eqb, ℤ, pos}
use Rattle.commands.specs.Reactions.{situation_of}
use Rattle.device.specs.Calls.{answer_bytes}
use Rattle.line.specs.declared.judge.Verdict.TheVariants.{Preset}
use Rattle.line.specs.Unbounded.{Marked, byte_in, any_faulty, judgement_of}
use Rattle.model.specs.declared.profile.Profile.{Profile}
use Rattle.model.specs.declared.state.State.{State}
use Rattle.model.specs.Profiles.{profile_allowed, resolution_in, scale_of}
use Rattle.text.specs.Ascii.{ascii, same_text}
use Rattle.text.specs.Field.{field_of}
use Rattle.text.specs.Reading.{after_spaces, decimals_in, value_in}
use Rattle.text.specs.UnitTexts.{unit_text}
use Rattle.weighing.specs.Weighings.{tare_answer}
use Rattle.weight.specs.declared.amount.Tare.{Tare}
use Rattle.weight.specs.declared.rounding.Resolution.{Resolution}
use Rattle.text.specs.Typed.{preset_resolution}
use Rattle.weight.specs.Presets.{preset_micrograms, preset_places}
use Rattle.weight.specs.Ranges.{resolution_at}
use Rattle.weight.specs.Rounding.{places_of}
use Rattle.history.specs.Claim.{OverCalls}
use Rattle.history.specs.Tally.{Event, Input, Tally, start_tally, in_force, in_same_range, ended_text, typed_text, ten_of, grants_typed, after_event}

-- ---- the answer

-- k is the resolution that a number was rounded to and places its decimal, r the one that the stored tare m is told in: in the same range
-- the answer is the decimal itself
abbrev pub shown_places : Resolution → Resolution → ℕ → ℕ → ℤ
shown_places k r places m = cond (in_same_range k.coarse r.coarse) (pos places) (places_of r (pos m))

-- the ten characters that answer the line TA number unit
abbrev pub typed_field : Profile → Resolution → List ℕ → List ℕ
typed_field p fine l =
    let t = typed_text l in
    let k = preset_resolution p.capacity p.fine fine t in
    let m = preset_micrograms k (decimals_in t) (value_in t) in
    let r = resolution_at p.fine fine (pos m) in
    field_of r.coarse r.decimals (shown_places k r (preset_places k (decimals_in t) (value_in t)) m)

-- TA A to a line other than TA has these
unfoldable pub shows_typed : Profile → Tally → Input → List ℕ → Bool
shows_typed p t i l = not (grants_typed t i l) || same_text (ten_of l) (typed_field p (in_force p t) (ended_text t i))

unfoldable pub event_shows : Profile → Tally → Event → Bool
event_shows p t e = not (eqb e.refusal 0) || shows_typed p t e.input e.answer

unfoldable pub shown_as_typed : Profile → Tally → List Event → Bool
shown_as_typed p t [] = true
shown_as_typed p t (e ∷ es) = event_shows p t e && shown_as_typed p (after_event p t e) es

abbrev pub TypedShown : Type 0
TypedShown = OverCalls (λ p sent es. shown_as_typed p start_tally es ≡ true)

-- ---- typed again

-- TA, the number of an answer with its spaces left out, and the unit
abbrev pub typed_from : Resolution → List ℕ → List ℕ
typed_from r answer = ascii "TA " ++ (after_spaces (ten_of answer) ++ (ascii " " ++ unit_text r.unit))

-- a line that sets the tare m, and a good line with what TA A answered to it, at any time when no command waits and the same unit is in
-- force, in a profile without a coarse range
abbrev pub TypedAgain : Type 0
TypedAgain =
    (p : Profile) (s s' : State) (f f' : List Marked) (m : Tare)
    → profile_allowed p ≡ true
    → p.fine ≡ p.capacity
    → resolution_in p s'.weighing ≡ resolution_in p s.weighing
    → judgement_of (situation_of p s) f ≡ Preset m
    → map byte_in f' ≡ typed_from (resolution_in p s.weighing) (answer_bytes p (tare_answer (scale_of p s.weighing) m.0))
    → any_faulty f' ≡ false
    → (situation_of p s').waiting ≡ false
    → judgement_of (situation_of p s') f' ≡ Preset m
