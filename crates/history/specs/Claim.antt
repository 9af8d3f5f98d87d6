-- Document 01, "The tally of demand 3", and document 02, No. 2: the list of calls, and the claim over the whole of it.
-- Assumes nothing.
use Rattle.std.specs.Prelude.{ℕ, ◌≡◌, Bool, true, List, [], ◌∷◌, ◌++◌, map, take}
use Rattle.line.specs.Runs.{marked_bytes}
use Rattle.line.specs.Unbounded.{Marked}
use Rattle.model.specs.declared.profile.Profile.{Profile}
use Rattle.model.specs.declared.state.State.{State}
use Rattle.weight.specs.declared.loads.Load.{Load}
use Rattle.device.specs.declared.bytes.BytesTaken.{BytesTaken}
use Rattle.device.specs.declared.call.Called.{Called}
use Rattle.model.specs.Refusals.{number_of_outcome}
use Rattle.device.specs.Buffers.{counts_of, joined, taken_singly, BytesCalled}
use Rattle.device.specs.Calls.{count_of, PowerOnCalled, ByteCalled, SampleCalled}
use Rattle.history.specs.Tally.{Event, byte_is, sample_is, start_tally, accepts}

-- what the tally is fed of a byte call and of a sample call: the answer is the first n bytes of the buffer
abbrev pub byte_event : ℕ → Bool → Called → List ℕ → Event
byte_event b bad r buffer =
    record { input = byte_is (record { byte = b; faulty = bad }); refusal = number_of_outcome r.outcome; answer = take (count_of r.outcome) buffer }

abbrev pub sample_event : Load → Bool → Called → List ℕ → Event
sample_event z stable r buffer =
    record { input = sample_is z.0 stable; refusal = number_of_outcome r.outcome; answer = take (count_of r.outcome) buffer }

-- each byte that was taken with its own answer; those that were not are no events
unfoldable pub taken_events : List Marked → List (List ℕ) → List Event
taken_events ms [] = []
taken_events [] (l ∷ ls) = []
taken_events (m ∷ ms) (l ∷ ls) = record { input = byte_is m; refusal = 0; answer = l } ∷ taken_events ms ls

-- it stands for these
abbrev pub bytes_events : Profile → State → List ℕ → List ℕ → List ℕ → List Event
bytes_events p s bytes marks room = taken_events (marked_bytes bytes marks) (taken_singly p s bytes marks room).answers

-- these bytes and answers are the call's own: the first ones, as many as it says that it took, and together what it wrote
abbrev pub StandsForBytes : Type 0
StandsForBytes =
    (p : Profile) (s : State) (bytes marks room : List ℕ) (r : BytesTaken) (buffer : List ℕ)
    → BytesCalled p s bytes marks room r buffer
    → (map (λ (e : Event). e.input) (bytes_events p s bytes marks room) ≡ map byte_is (take (counts_of r.outcome).taken (marked_bytes bytes marks)))
    × (joined (map (λ (e : Event). e.answer) (bytes_events p s bytes marks room)) ≡ take (counts_of r.outcome).count buffer)

-- A list of calls from a state, as the tally is fed it: each with that profile, a lent buffer of any length and content, and the
-- state that the call before it returned. What is known of a call is what its contract ensures, and nothing else.
pub data Calls (p : Profile) : State → List Event → State → Type 0 where
  done : {s : State} → Calls p s [] s
  byte_call : {s : State} {b : ℕ} {bad : Bool} {room : List ℕ} {r : Called} {buffer : List ℕ} {es : List Event} {s' : State}
      → ByteCalled p s b bad room r buffer → Calls p r.state es s' → Calls p s (byte_event b bad r buffer ∷ es) s'
  sample_call : {s : State} {z : Load} {stable : Bool} {room : List ℕ} {r : Called} {buffer : List ℕ} {es : List Event} {s' : State}
      → SampleCalled p s z stable room r buffer → Calls p r.state es s' → Calls p s (sample_event z stable r buffer ∷ es) s'
  bytes_call : {s : State} {bytes marks room : List ℕ} {r : BytesTaken} {buffer : List ℕ} {es : List Event} {s' : State}
      → BytesCalled p s bytes marks room r buffer → Calls p r.state es s' → Calls p s (bytes_events p s bytes marks room ++ es) s'

-- What holds, of the profile, of what power-on sent and of the events, over every list of calls from the state that a power-on not
-- refused returned
abbrev pub OverCalls : (Profile → List ℕ → List Event → Type 0) → Type 0
OverCalls Holds =
    (p : Profile) (earlier : State) (room : List ℕ) (r : Called) (buffer : List ℕ)
    → PowerOnCalled p earlier room r buffer
    → number_of_outcome r.outcome ≡ 0
    → (es : List Event) (s : State)
    → Calls p r.state es s
    → Holds p (take (count_of r.outcome) buffer) es

-- Demand 3: the tally accepts
abbrev pub Demand3 : Type 0
Demand3 = OverCalls (λ p sent es. accepts p start_tally es ≡ true)
