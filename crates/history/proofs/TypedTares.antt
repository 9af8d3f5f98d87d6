-- A typed tare over a list of calls: its answer has the characters of the rounded decimal; and typing them sets it again.
-- Assumes nothing.
use borrow.Author.Tests.{le-ltb}
use mathlib.Core.Path.{◌≡◌, refl, ap, subst, ◌∙◌}
use mathlib.Core.Bool.{Bool, true, false}
use mathlib.Core.List.{List, ◌++◌}
use Prim.Native.Nat.{ℕ}
use lib.IntN.{pos}
use Rattle.commands.specs.Reactions.{situation_of}
use Rattle.device.specs.Calls.{answer_bytes}
use Rattle.line.proofs.PresetLines.{preset_judged}
use Rattle.line.proofs.Verdicts.{parameter_in, preset_line}
use Rattle.model.specs.Profiles.{resolution_in, scale_of}
use Rattle.text.specs.Ascii.{ascii}
use Rattle.text.specs.Field.{field_of}
use Rattle.text.specs.Reading.{after_spaces, decimals_in, value_in}
use Rattle.text.specs.Searching.{before_space}
use Rattle.text.specs.Typed.{preset_resolution, read_preset}
use Rattle.text.specs.UnitTexts.{unit_text}
use Rattle.text.proofs.ReadBack.{typed_back}
use Rattle.text.proofs.TypedText.{preset_read_again}
use Rattle.weighing.specs.Weighings.{resolution_by, tare_answer}
use Rattle.std.specs.Prelude.{Ok}
use Rattle.weight.specs.declared.rounding.Resolution.{Resolution}
use Rattle.weight.specs.Places.{fits_field}
use Rattle.weight.specs.Presets.{preset_places}
use Rattle.weight.specs.Printing.{printable}
use Rattle.weight.specs.Ranges.{ranged}
use Rattle.weight.specs.Rounding.{places_of}
use Rattle.model.proofs.InForce.{fine_itself, in_fine_lem}
use Rattle.history.specs.Tally.{ten_of}
use Rattle.history.specs.TypedTares.{event_shows, shown_as_typed, TypedShown, TypedAgain}
use Rattle.history.proofs.DueWeights.{tare_printable}
use Rattle.history.proofs.EachCall.{each_call}
use Rattle.history.proofs.TypedLines.{typed_as, unranged_preset}
use Rattle.history.proofs.WeightLines.{field_fits, told_shows}

pub typed_shown : TypedShown
unfolding shown_as_typed
typed_shown = each_call shown_as_typed event_shows (λ p t. refl) (λ p t e es h k. rw h k) (λ p t e s h. h.shown)

pub typed_again : TypedAgain
typed_again p s s' f f' m allowed unranged force judged bytes good free =
    let w = s.weighing in
    let r = resolution_in p w in
    let line = preset_line (situation_of p s) f judged in
    let t = before_space (parameter_in f) in
    let n = preset_places r (decimals_in t) (value_in t) in
    -- both what is typed and what is told is in the fine range
    let rounds : (x : List ℕ) → preset_resolution p.capacity p.fine r x ≡ r = λ x. unranged_preset p.capacity p.fine r x unranged ∙ fine_itself p w in
    let tells : resolution_by (scale_of p w) (pos m.0) ≡ r =
    ap (λ (c : Bool). ranged c r) (rw unranged (le-ltb p.capacity m.0 line.within)) ∙ fine_itself p w in
    let read : read_preset r t ≡ Ok m = subst (λ (x : Resolution). read_preset x t ≡ Ok m) (rounds t) line.number in
    let typed = typed_as p.capacity r t m read line.within in
    let prints = subst (λ (x : Resolution). printable x (pos m.0) ≡ true) tells (tare_printable p allowed w m.0 line.within) in
    let fits : fits_field false r.decimals (pos n) ≡ true =
    subst (λ (c : Bool). fits_field c r.decimals (pos n) ≡ true) (in_fine_lem p w) (rw typed.printed at (field_fits r (pos m.0) prints)) in
    let back = typed_back r.decimals n fits in
    let number : List ℕ = after_spaces (field_of false r.decimals (pos n)) in
    let ten : ten_of (answer_bytes p (tare_answer (scale_of p w) m.0)) ≡ field_of false r.decimals (pos n) =
    (told_shows p (resolution_by (scale_of p w) (pos m.0)) (pos m.0) (tare_printable p allowed w m.0 line.within)).ten
    ∙ ap (λ (x : Resolution). field_of x.coarse x.decimals (places_of x (pos m.0))) tells
    ∙ ap (field_of r.coarse r.decimals) typed.printed
    ∙ ap (λ (c : Bool). field_of c r.decimals (pos n)) (in_fine_lem p w) in
    preset_judged (situation_of p s') f' number
    (record { bytes = rw force (bytes ∙ ap (λ (x : List ℕ). ascii "TA " ++ (x ++ (ascii " " ++ unit_text r.unit))) (ap after_spaces ten)); good = good })
    back.is
    (rw (force, rounds number) (preset_read_again r t read back))
    line.within
    free
