-- Document 01, "Refusal numbers": the three calls, each refusal in its case only and in this order.
-- Assumes nothing.
use Rattle.std.specs.Prelude.{ℕ, ◌≡◌, Bool, true, false, cond, List, [], length, Result, Ok, Err}
use Rattle.answer.specs.Commands.{place_i4}
use Rattle.answer.specs.declared.answer.Answer.{Answer}
use Rattle.answer.specs.declared.answer.Answer.TheVariants.{Nothing, Plain, Weight, ErrorLine, Text, Listed, CommandList, Versions, HostUnit}
use Rattle.answer.specs.Lines.{line_of}
use Rattle.emit.specs.Rooms.{fits_room, laid_in}
use Rattle.device.specs.declared.call.Called.{Called}
use Rattle.model.specs.declared.profile.Profile.{Profile}
use Rattle.model.specs.declared.react.Reaction.{Reaction}
use Rattle.model.specs.declared.state.State.{State}
use Rattle.weight.specs.declared.loads.Load.{Load}
use Rattle.model.specs.Profiles.{profile_allowed, information_text}
use Rattle.model.specs.declared.refusal.Refusal.{Refusal}
use Rattle.model.specs.declared.refusal.Refusal.TheVariants as refusals
use Rattle.model.specs.Refusals.{number_of_outcome}
use Rattle.model.specs.States.{state_allowed, start_state}
use Rattle.commands.specs.Reactions.{byte_reaction}
use Rattle.model.specs.Groups.{reaction}
use Rattle.waiting.specs.Waits.{sample_reaction}

-- the text that goes with an answer, by the command that asked for it; none with every other
abbrev pub answer_text : Profile → Answer → List ℕ
answer_text p Nothing = []
answer_text p (Plain h) = []
answer_text p (Weight h n) = []
answer_text p (ErrorLine e) = []
answer_text p (Text c) = information_text p c
answer_text p (Listed last c) = []
answer_text p CommandList = []
answer_text p Versions = []
answer_text p (HostUnit u) = []

-- the bytes of an answer
unfoldable pub answer_bytes : Profile → Answer → List ℕ
answer_bytes p a = line_of a (answer_text p a)

-- what a call gives: the paper's refusal number, 0 for none, the state and n that it returns, and its buffer at the end
pub record Outcome : Type 0 where
  pub number : ℕ
  pub state : State
  pub count : ℕ
  pub buffer : List ℕ

-- on a refusal: the given state, n = 0, buffer untouched
abbrev pub refused : ℕ → State → List ℕ → Outcome
refused n s room = record { number = n; state = s; count = 0; buffer = room }

abbrev pub chosen_outcome : Bool → Outcome → Outcome → Outcome
chosen_outcome true a b = a
chosen_outcome false a b = b

-- 3: buffer shorter than the answer due; else the first n bytes are the answer and the rest is as before
unfoldable pub delivered : Profile → State → Reaction → List ℕ → Outcome
delivered p s r room =
    let bytes = answer_bytes p r.answer in
    chosen_outcome (fits_room bytes room)
    (record { number = 0; state = r.state; count = length bytes; buffer = laid_in bytes room })
    (refused 3 s room)

-- 1: profile refused, before anything else
unfoldable pub of_profile : Profile → State → List ℕ → Outcome → Outcome
of_profile p s room next = chosen_outcome (profile_allowed p) next (refused 1 s room)

-- 2: state refused
unfoldable pub of_state : Profile → State → List ℕ → Outcome → Outcome
of_state p s room next = chosen_outcome (state_allowed p s) next (refused 2 s room)

-- the two of them, as the code asks for them
abbrev pub admitted_by : Bool → Bool → Result (Unit {0}) Refusal
admitted_by profile state = cond profile (cond state (Ok tt) (Err refusals.State)) (Err refusals.Profile)

abbrev pub admitted : Profile → State → Result (Unit {0}) Refusal
admitted p s = admitted_by (profile_allowed p) (state_allowed p s)

-- power-on sends the I4 line; it reads no earlier state
unfoldable pub power_on_outcome : Profile → State → List ℕ → Outcome
power_on_outcome p s room = of_profile p s room (delivered p s (reaction start_state (Text place_i4)) room)

unfoldable pub byte_outcome : Profile → State → ℕ → Bool → List ℕ → Outcome
byte_outcome p s b bad room = of_profile p s room (of_state p s room (delivered p s (byte_reaction p s b bad) room))

unfoldable pub sample_outcome : Profile → State → Load → Bool → List ℕ → Outcome
sample_outcome p s load stable room = of_profile p s room (of_state p s room (delivered p s (sample_reaction p s load stable) room))

-- ---- what the contracts say: the refusal number, the result and the whole buffer at exit, for every input

-- n of a call's result
abbrev pub count_of : Result ℕ Refusal → ℕ
count_of (Ok n) = n
count_of (Err e) = 0

pub record Gives (o : Outcome) (r : Called) (buffer : List ℕ) : Type 0 where
  pub numbered : number_of_outcome r.outcome ≡ o.number
  pub returned : r.state ≡ o.state
  pub counted : count_of r.outcome ≡ o.count
  pub left : buffer ≡ o.buffer

pub record PowerOnCalled (p : Profile) (s : State) (room : List ℕ) (r : Called) (buffer : List ℕ) : Type 0 where
  pub gives : Gives (power_on_outcome p s room) r buffer

pub record ByteCalled (p : Profile) (s : State) (b : ℕ) (bad : Bool) (room : List ℕ) (r : Called) (buffer : List ℕ) : Type 0 where
  pub gives : Gives (byte_outcome p s b bad room) r buffer

pub record SampleCalled (p : Profile) (s : State) (load : Load) (stable : Bool) (room : List ℕ) (r : Called) (buffer : List ℕ) : Type 0 where
  pub gives : Gives (sample_outcome p s load stable room) r buffer
