-- The groups of the state, each put back alone; and a reaction, which is the new state and an answer.
-- Assumes nothing.
use Rattle.std.specs.Prelude.{Bool, true, false, None}
use Rattle.answer.specs.declared.answer.Answer.{Answer}
use Rattle.line.specs.declared.receive.Line.{Line}
use Rattle.model.specs.declared.react.Reaction.{Reaction}
use Rattle.model.specs.declared.sending.Mode.{Mode}
use Rattle.model.specs.declared.sending.Sending.{Sending}
use Rattle.model.specs.declared.state.Display.{Display}
use Rattle.model.specs.declared.state.State.{State}
use Rattle.model.specs.declared.state.Waiting.{Waiting}
use Rattle.model.specs.declared.weighing.Weighing.{Weighing}

abbrev pub with_line : State → Line → State
with_line s l = record { line = l; weighing = s.weighing; waiting = s.waiting; sending = s.sending; display = s.display }

abbrev pub with_weighing : State → Weighing → State
with_weighing s w = record { line = s.line; weighing = w; waiting = s.waiting; sending = s.sending; display = s.display }

abbrev pub with_waiting : State → Waiting → State
with_waiting s w = record { line = s.line; weighing = s.weighing; waiting = w; sending = s.sending; display = s.display }

abbrev pub with_sending : State → Sending → State
with_sending s c = record { line = s.line; weighing = s.weighing; waiting = s.waiting; sending = c; display = s.display }

abbrev pub with_display : State → Display → State
with_display s d = record { line = s.line; weighing = s.weighing; waiting = s.waiting; sending = s.sending; display = d }

-- what SR keeps stays, and does not count unless it runs
abbrev pub with_mode : Sending → Mode → Sending
with_mode c mode = record { last = c.last; threshold = c.threshold; mode = mode; owed = c.owed; outside = c.outside }

abbrev pub reaction : State → Answer → Reaction
reaction s a = record { state = s; answer = a }

abbrev pub chosen_reaction : Bool → Reaction → Reaction → Reaction
chosen_reaction true a b = a
chosen_reaction false a b = b

-- no command waits
abbrev pub not_waiting : Waiting
not_waiting = record { pending = None; unstable = 0 }
