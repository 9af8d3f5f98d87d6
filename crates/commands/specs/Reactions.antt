-- Document 01, "What each command does": what a finished line and a byte make of the state, and the answer. SR and M21 are
-- document 02's.
-- Assumes nothing.
use Rattle.std.specs.Prelude.{ℕ, Bool, true, false, cond, ◌||◌, ◌++◌, take, drop}
use Rattle.answer.specs.Commands.{kind_of, may_wait, has_text, is_i0, is_i1, is_si, is_sir, is_sr, is_dw, is_t, is_ta, is_tac, is_ti, place_i4, place_m21, place_s, place_zi, place_d, place_dw, place_tac, place_ti}
use Rattle.answer.specs.declared.command.Kind.{Kind}
use Rattle.answer.specs.declared.command.Kind.TheVariants.{Informs, Weighs, Zeroes, Resets, Shows, Sends, Tares, Selects, Unknown}
use Rattle.answer.specs.declared.answer.Answer.{Answer}
use Rattle.answer.specs.declared.answer.Answer.TheVariants.{Plain, CommandList, Versions, HostUnit}
use Rattle.answer.specs.declared.answer.Answer.TheVariants as answers
use Rattle.answer.specs.declared.answer.Status.TheVariants.{A, I, L}
use Rattle.line.specs.declared.judge.Situation.{Situation}
use Rattle.line.specs.declared.judge.Verdict.{Verdict}
use Rattle.line.specs.declared.judge.Verdict.TheVariants.{Erroneous, Reset, Busy, Wrong, NoSample, Run, Preset, Change, Show, Select}
use Rattle.line.specs.declared.receive.Line.{Line}
use Rattle.line.specs.Judging.{judgement}
use Rattle.line.specs.Receiving.{cleared_line, received_byte}
use Rattle.model.specs.declared.profile.Profile.{Profile}
use Rattle.model.specs.declared.sending.Mode.{Mode}
use Rattle.model.specs.declared.sending.Mode.TheVariants.{Off, EachSample}
use Rattle.model.specs.declared.state.Pending.TheVariants.{Weigh, Zero, Tare}
use Rattle.model.specs.declared.state.Pending.TheVariants as pendings
use Rattle.model.specs.declared.state.Display.{Display}
use Rattle.model.specs.declared.state.State.{State}
use Rattle.model.specs.Profiles.{resolution_in, scale_of}
use Rattle.model.specs.States.{is_pending}
use Rattle.model.specs.declared.react.Reaction.{Reaction}
use Rattle.model.specs.Groups.{with_line, with_weighing, with_sending, with_mode, with_display, reaction, chosen_reaction, not_waiting}
use Rattle.waiting.specs.Changes.{with_threshold}
use Rattle.waiting.specs.Waits.{measured_reaction, begun}
use Rattle.answer.specs.Lines.{head_of}
use Rattle.weighing.specs.Weighings.{stability, weighed, with_tare, with_unit, zeroed, tared, tare_answer}

-- ---- a command's own rule, by its kind

-- I0 to I5
abbrev pub information_of : ℕ → Answer
information_of c = cond (is_i0 c) CommandList (cond (is_i1 c) Versions (cond (has_text c) (answers.Text c) answers.Nothing))

abbrev pub informed : State → ℕ → Reaction
informed s c = reaction s (information_of c)

-- nothing is sent unasked after S and SI, and each sample after SIR
abbrev pub mode_after : ℕ → Mode
mode_after c = cond (is_sir c) EachSample Off

abbrev pub sending_as : State → Mode → State
sending_as s mode = with_sending s (with_mode s.sending mode)

-- S waits, SI and SIR take the latest sample; S and SI end a repetition and SR, SIR starts a repetition
unfoldable pub weighing : Profile → State → ℕ → Reaction
weighing p s c =
    chosen_reaction (may_wait c)
    (begun p (sending_as s Off) Weigh)
    (reaction (sending_as s (mode_after c)) (weighed p s.weighing))

-- Z waits, ZI takes the latest sample
unfoldable pub zeroing : Profile → State → ℕ → Reaction
zeroing p s c = chosen_reaction (may_wait c) (begun p s Zero) (measured_reaction s (zeroed p s.weighing place_zi (stability s.weighing)))

abbrev pub weight_shown : Display → Display
weight_shown d = record { shown = false; text = d.text }

-- DW: the weight is shown
abbrev pub showing_weight : State → Reaction
showing_weight s = reaction (with_display s (weight_shown s.display)) (Plain (head_of place_dw A))

-- what has no own rule is not answered: @, which row 4 carries out, D, whose verdict has its text, and what is no command
abbrev pub unanswered : State → Reaction
unanswered s = reaction s answers.Nothing

-- D and DW
unfoldable pub showing : State → ℕ → Reaction
showing s c = chosen_reaction (is_dw c) (showing_weight s) (unanswered s)

-- SR with this threshold, 0 for none, waits as S; it ends a repetition and an earlier SR
unfoldable pub changing : Profile → State → ℕ → Reaction
changing p s threshold = begun p (with_sending s (with_threshold s.sending threshold)) pendings.Change

-- T, TI, TAC, TA alone
unfoldable pub taring : Profile → State → ℕ → Reaction
taring p s c =
    chosen_reaction (is_t c) (begun p s Tare)
    (chosen_reaction (is_ti c) (measured_reaction s (tared p s.weighing place_ti))
    (chosen_reaction (is_tac c)
    (reaction (with_weighing s (with_tare s.weighing 0)) (Plain (head_of place_tac A)))
    (chosen_reaction (is_ta c) (reaction s (tare_answer (scale_of p s.weighing) s.weighing.tare.0)) (unanswered s))))

-- M21 alone: the unit in force
abbrev pub unit_told : State → Reaction
unit_told s = reaction s (HostUnit s.weighing.unit)

abbrev pub run_as : Kind → Profile → State → ℕ → Reaction
run_as Informs p s c = informed s c
run_as Weighs p s c = weighing p s c
run_as Zeroes p s c = zeroing p s c
run_as Resets p s c = unanswered s
run_as Shows p s c = showing s c
run_as Sends p s c = changing p s 0
run_as Tares p s c = taring p s c
run_as Selects p s c = unit_told s
run_as Unknown p s c = unanswered s

unfoldable pub run : Profile → State → ℕ → Reaction
run p s c = run_as (kind_of c) p s c

-- ---- a finished line

-- the identification is the name; for SI, SIR and SR it is S
abbrev pub identification_of : ℕ → ℕ
identification_of c = cond (is_si c || is_sir c || is_sr c) place_s c

-- @: waiting command dropped unanswered, repetition and SR ended, tare 0, weight shown; zero, latest sample and unit are kept
unfoldable pub reset_state : State → State
reset_state s =
    record {
      line = s.line;
      weighing = with_tare s.weighing 0;
      waiting = not_waiting;
      sending = with_mode s.sending Off;
      display = weight_shown s.display;
    }

-- the text of D, whose n bytes start at the line's fourth
abbrev pub text_shown : Display → Line → ℕ → Display
text_shown d l n =
    record { shown = true; text = record { bytes = take n (drop 3 l.bytes) ++ drop n d.text.bytes; len = n } }

-- s is the state with its line cleared, l the finished line
abbrev pub performed : Profile → State → Line → Verdict → Reaction
performed p s l (Erroneous e) = reaction s (answers.ErrorLine e)
performed p s l Reset = reaction (reset_state s) (answers.Text place_i4)
performed p s l (Busy c) = reaction s (Plain (head_of (identification_of c) I))
performed p s l (Wrong c) = reaction s (Plain (head_of (identification_of c) L))
performed p s l (NoSample c) = reaction s (Plain (head_of (identification_of c) I))
performed p s l (Run c) = run p s c
performed p s l (Preset m) = reaction (with_weighing s (with_tare s.weighing m.0)) (tare_answer (scale_of p s.weighing) m.0)
performed p s l (Change t) = changing p s t.0
performed p s l (Show n) = reaction (with_display s (text_shown s.display l n)) (Plain (head_of place_d A))
performed p s l (Select u) = reaction (with_weighing s (with_unit s.weighing u)) (Plain (head_of place_m21 A))

-- ---- a byte

-- what the judging table asks of the device
abbrev pub situation_of : Profile → State → Situation
situation_of p s =
    record {
      capacity = p.capacity;
      fine = p.fine;
      resolution = resolution_in p s.weighing;
      waiting = is_pending s.waiting.pending;
      sampled = s.weighing.sampled;
    }

-- the line of the state is ended: it is judged, and the next one starts empty
abbrev pub line_reaction : Profile → State → Reaction
line_reaction p s = performed p (with_line s (cleared_line s.line)) s.line (judgement (situation_of p s) s.line)

unfoldable pub byte_reaction : Profile → State → ℕ → Bool → Reaction
byte_reaction p s b bad =
    let r = received_byte s.line b bad in
    chosen_reaction r.ended (line_reaction p (with_line s r.line)) (reaction (with_line s r.line) answers.Nothing)
