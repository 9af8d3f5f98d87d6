-- The line that `state` prints: what the module holds and no answer shows, in the line's order.
-- Assumes nothing.
use Rattle.std.specs.Prelude.{ℕ, Bool, cond, Option, Some, None, List, [], ◌++◌, ltb, take}
use Rattle.line.specs.declared.receive.Line.{Line}
use Rattle.model.specs.declared.sending.Mode.{Mode}
use Rattle.model.specs.declared.sending.Mode.TheVariants.{Off, EachSample, OnChange}
use Rattle.model.specs.declared.sending.Sending.{Sending}
use Rattle.model.specs.declared.state.Display.{Display}
use Rattle.model.specs.declared.state.Pending.{Pending}
use Rattle.model.specs.declared.state.Pending.TheVariants.{Weigh, Zero, Tare, Change}
use Rattle.model.specs.declared.state.State.{State}
use Rattle.model.specs.declared.state.Waiting.{Waiting}
use Rattle.model.specs.declared.weighing.Weighing.{Weighing}
use Rattle.text.specs.Ascii.{ascii}
use Rattle.text.specs.UnitTexts.{unit_text}
use Rattle.weight.specs.declared.amount.Tare as T
use Rattle.weight.specs.declared.changes.Threshold.{Threshold}
use Rattle.weight.specs.declared.loads.Load.{Load}
use Rattle.weight.specs.declared.rounding.Micrograms.{Micrograms}
use Rattle.weight.specs.declared.units.WeightUnit.{WeightUnit}
use Rattle.weight.specs.Places.{digits_of, number_text}

-- an amount in micrograms, a minus directly before the digits if it is below zero
abbrev pub amount_text : Micrograms → List ℕ
amount_text a = number_text 0 a.0

-- a load in micrograms, in the same way
abbrev pub load_text : Load → List ℕ
load_text l = number_text 0 l.0

-- a set threshold in micrograms; `-` where none is set
abbrev pub threshold_text : Threshold → List ℕ
threshold_text t = cond (ltb t.0 1) (ascii "-") (digits_of t.0)

abbrev pub only_if : Bool → List ℕ → List ℕ
only_if holds word = cond holds word []

unfoldable pub zero_word : Load → List ℕ
zero_word zero = ascii " zero " ++ load_text zero

unfoldable pub tare_word : T.Tare → List ℕ
tare_word tare = ascii " tare " ++ digits_of tare.0

-- `s` or `u` and the load, as in the script
unfoldable pub sample_word : Weighing → List ℕ
sample_word w =
    cond w.sampled (cond w.stable (ascii " sample s ") (ascii " sample u ") ++ load_text w.load) (ascii " sample none")

-- the command that waits and the unstable samples that have come; SR's threshold after them
abbrev pub waits_for : Option Pending → ℕ → Threshold → List ℕ
waits_for None unstable threshold = ascii "none"
waits_for (Some Weigh) unstable threshold = ascii "S " ++ digits_of unstable
waits_for (Some Zero) unstable threshold = ascii "Z " ++ digits_of unstable
waits_for (Some Tare) unstable threshold = ascii "T " ++ digits_of unstable
waits_for (Some Change) unstable threshold = ascii "SR " ++ digits_of unstable ++ ascii " " ++ threshold_text threshold

unfoldable pub waits_word : Waiting → Threshold → List ℕ
waits_word w threshold = ascii " waits " ++ waits_for w.pending w.unstable threshold

-- the last net that SR sent and its threshold; `owed` while a stable net is owed, `out` while the load is told to be out of range
unfoldable pub change_text : Sending → List ℕ
change_text c =
    ascii "SR "
    ++ amount_text c.last
    ++ ascii " "
    ++ threshold_text c.threshold
    ++ only_if c.owed (ascii " owed")
    ++ only_if c.outside (ascii " out")

-- what is sent unasked: nothing, the repetition of SIR, or what changes as SR says
abbrev pub repeats_as : Mode → Sending → List ℕ
repeats_as Off c = ascii "no"
repeats_as EachSample c = ascii "SIR"
repeats_as OnChange c = change_text c

unfoldable pub repeats_word : Sending → List ℕ
repeats_word c = ascii " repeats " ++ repeats_as c.mode c

-- the text's bytes as they are
unfoldable pub shows_word : Display → List ℕ
shows_word d = cond d.shown (ascii " shows \"" ++ take d.text.len d.text.bytes ++ ascii "\"") (ascii " shows weight")

-- a CR that is kept apart is not counted
unfoldable pub line_word : Line → List ℕ
line_word l =
    ascii " line "
    ++ digits_of l.len
    ++ only_if l.over (ascii " over")
    ++ only_if l.faulty (ascii " faulty")
    ++ only_if l.returned (ascii " cr")

-- the unit in force
unfoldable pub unit_word : WeightUnit → List ℕ
unit_word u = ascii " unit " ++ unit_text u

unfoldable pub state_line : State → List ℕ
state_line s =
    ascii "state"
    ++ zero_word s.weighing.zero
    ++ tare_word s.weighing.tare
    ++ sample_word s.weighing
    ++ waits_word s.waiting s.sending.threshold
    ++ repeats_word s.sending
    ++ shows_word s.display
    ++ line_word s.line
    ++ unit_word s.weighing.unit
    ++ ascii "\r\n"
