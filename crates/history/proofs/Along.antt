-- The induction over a list of calls, generic in what is followed along it: every theorem over histories is one step.
-- Assumes nothing.
use Prim.Native.Nat.{ℕ}
use mathlib.Core.Path.{◌≡◌, refl, sym}
use mathlib.Core.Bool.{Bool, true, false}
use mathlib.Core.List.{List, [], ◌∷◌, ◌++◌}
use borrow.Author.Tests.{eqb-true}
use lib.Dec.{eqb}
use Rattle.model.specs.declared.profile.Profile.{Profile}
use Rattle.model.specs.declared.state.State.{State}
use Rattle.weight.specs.declared.loads.Load.{Load}
use Rattle.device.specs.declared.call.Called.{Called}
use Rattle.device.specs.Buffers.{answer_in, room_after, chosen_singly, none_taken, with_answer, singly, lengths_allowed, taken_singly}
use Rattle.device.proofs.Took.{took_singly}
use Rattle.device.specs.Calls.{Outcome, byte_outcome, ByteCalled, SampleCalled}
use Rattle.history.specs.Claim.{Calls, OverCalls, done, byte_call, sample_call, bytes_call, byte_event, sample_event, taken_events, bytes_events}
use Rattle.line.specs.Runs.{marked_bytes}
use Rattle.line.specs.Unbounded.{Marked}
use Rattle.std.specs.Prelude.{Ok}
use Rattle.model.specs.Profiles.{profile_allowed}
use Rattle.model.specs.States.{start_state}
use Rattle.history.specs.Tally.{Event}
use Rattle.history.proofs.Delivering.{Started, started}

-- A call's event is followed from x: what is kept holds again of the state after it, and a list of events that is accepted from
-- there is accepted from x with the event before it.
pub record Followed (X : Type 0) (Inv : State → X → Type 0) (accepted : X → List Event → Bool) (s : State) (x : X) (e : Event) : Type 0 where
  pub next : X
  pub kept : Inv s next
  pub joins : (es : List Event) → accepted next es ≡ true → accepted x (e ∷ es) ≡ true

-- What is kept, and that a byte call and a sample call keep it.
pub record Step (p : Profile) (X : Type 0) (Inv : State → X → Type 0) (accepted : X → List Event → Bool) : Type 0 where
  pub ends : (x : X) → accepted x [] ≡ true
  pub byte
      : (s : State) (x : X) (b : ℕ) (bad : Bool) (room : List ℕ) (r : Called) (buffer : List ℕ)
      → Inv s x
      → ByteCalled p s b bad room r buffer
      → Followed X Inv accepted r.state x (byte_event b bad r buffer)
  pub sample
      : (s : State) (x : X) (z : Load) (stable : Bool) (room : List ℕ) (r : Called) (buffer : List ℕ)
      → Inv s x
      → SampleCalled p s z stable room r buffer
      → Followed X Inv accepted r.state x (sample_event z stable r buffer)

-- ---- a whole-buffer call

-- the events of several calls, followed from x
pub record FollowedAll (X : Type 0) (Inv : State → X → Type 0) (accepted : X → List Event → Bool) (s : State) (x : X) (before : List Event) : Type 0 where
  pub next : X
  pub kept : Inv s next
  pub joins : (es : List Event) → accepted next es ≡ true → accepted x (before ++ es) ≡ true

module _ {p : Profile} {X : Type 0} {Inv : State → X → Type 0} {accepted : X → List Event → Bool} (step : Step p X Inv accepted) where
  -- a byte that was taken is a byte call, in the room that was left
  as_call : (s : State) (m : Marked) (room : List ℕ) → (byte_outcome p s m.byte m.faulty room).number ≡ 0 →
      let o = byte_outcome p s m.byte m.faulty room in
      ByteCalled p s m.byte m.faulty room (record { state = o.state; outcome = Ok o.count }) o.buffer
  as_call s m room e = record { gives = record { numbered = sym e; returned = refl; counted = refl; left = refl } }

  none_followed : (ms : List Marked) (s : State) (x : X) → Inv s x → FollowedAll X Inv accepted s x (taken_events ms [])
  unfolding taken_events
  none_followed ms s x i = record { next = x; kept = i; joins = λ es a. a }

  one_followed : (m : Marked) (ms : List Marked) (s : State) (x : X) (room : List ℕ) → Inv s x →
      let o = byte_outcome p s m.byte m.faulty room in
      (b : Bool) → eqb o.number 0 ≡ b
      → ((next : X) → Inv o.state next
      → FollowedAll X Inv accepted (singly p o.state ms (room_after o)).state next (taken_events ms (singly p o.state ms (room_after o)).answers))
      → let q = chosen_singly b (with_answer (answer_in o) (singly p o.state ms (room_after o))) (none_taken s room) in
      FollowedAll X Inv accepted q.state x (taken_events (m ∷ ms) q.answers)
  unfolding taken_events
  one_followed m ms s x room i true e rest =
      let o : Outcome = byte_outcome p s m.byte m.faulty room in
      let f = step.byte s x m.byte m.faulty room (record { state = o.state; outcome = Ok o.count }) o.buffer i
      (as_call s m room (eqb-true o.number 0 e)) in
      let g = rest f.next f.kept in
      record { next = g.next; kept = g.kept; joins = λ es a. f.joins _ (g.joins es a) }
  one_followed m ms s x room i false e rest = record { next = x; kept = i; joins = λ es a. a }

  -- and so the bytes that were taken are byte calls, one after another
  singly_followed : (ms : List Marked) (s : State) (x : X) (room : List ℕ) → Inv s x
      → FollowedAll X Inv accepted (singly p s ms room).state x (taken_events ms (singly p s ms room).answers)
  unfolding singly taken_events
  singly_followed [] s x room i = record { next = x; kept = i; joins = λ es e. e }
  singly_followed (m ∷ ms) s x room i =
      let o : Outcome = byte_outcome p s m.byte m.faulty room in
      one_followed m ms s x room i (eqb o.number 0) refl (λ next kept. singly_followed ms o.state next (room_after o) kept)

  -- the one step of a whole-buffer call
  bytes_followed : (bytes marks : List ℕ) (s : State) (x : X) (room : List ℕ) → Inv s x
      → FollowedAll X Inv accepted (taken_singly p s bytes marks room).state x (bytes_events p s bytes marks room)
  bytes_followed bytes marks s x room i = by (lengths_allowed bytes marks)
    where
      by : (b : Bool)
          → let q = chosen_singly b (singly p s (marked_bytes bytes marks) room) (none_taken s room) in
          FollowedAll X Inv accepted q.state x (taken_events (marked_bytes bytes marks) q.answers)
      by true = singly_followed (marked_bytes bytes marks) s x room i
      by false = none_followed (marked_bytes bytes marks) s x i

-- every list of calls from a state that is followed is accepted
pub along
    : {p : Profile} {X : Type 0} {Inv : State → X → Type 0} {accepted : X → List Event → Bool} {s : State} {es : List Event} {s' : State}
    → Step p X Inv accepted
    → (x : X)
    → Inv s x
    → Calls p s es s'
    → accepted x es ≡ true
along step x i done = step.ends x
along {s = s} step x i (byte_call {b = b} {bad = bad} {room = room} {r = r} {buffer = buffer} {es = es} call calls) =
    let f = step.byte s x b bad room r buffer i call in
    f.joins es (along step f.next f.kept calls)
along {s = s} step x i (sample_call {z = z} {stable = stable} {room = room} {r = r} {buffer = buffer} {es = es} call calls) =
    let f = step.sample s x z stable room r buffer i call in
    f.joins es (along step f.next f.kept calls)
along {s = s} step x i (bytes_call {bytes = bytes} {marks = marks} {room = room} {r = r} {es = es} call calls) =
    let f = bytes_followed step bytes marks s x room i in
    f.joins es (along step f.next (rw (took_singly _ s bytes marks room call).state f.kept) calls)

-- and the state that it ends in is followed
pub reached
    : {p : Profile} {X : Type 0} {Inv : State → X → Type 0} {accepted : X → List Event → Bool} {s : State} {es : List Event} {s' : State}
    → Step p X Inv accepted
    → (x : X)
    → Inv s x
    → Calls p s es s'
    → (y : X) × Inv s' y
reached step x i done = (x, i)
reached {s = s} step x i (byte_call {b = b} {bad = bad} {room = room} {r = r} {buffer = buffer} call calls) =
    let f = step.byte s x b bad room r buffer i call in
    reached step f.next f.kept calls
reached {s = s} step x i (sample_call {z = z} {stable = stable} {room = room} {r = r} {buffer = buffer} call calls) =
    let f = step.sample s x z stable room r buffer i call in
    reached step f.next f.kept calls
reached {s = s} step x i (bytes_call {bytes = bytes} {marks = marks} {room = room} call calls) =
    let f = bytes_followed step bytes marks s x room i in
    reached step f.next (rw (took_singly _ s bytes marks room call).state f.kept) calls

-- and so is every list of calls after a power-on, where the state of power-on is followed
pub over_calls
    : {X : Type 0} {Inv : Profile → State → X → Type 0} {accepted : Profile → X → List Event → Bool}
    → ((p : Profile) → profile_allowed p ≡ true → Step p X (Inv p) (accepted p))
    → (x : X)
    → ((p : Profile) → Inv p start_state x)
    → OverCalls (λ p sent es. accepted p x es ≡ true)
over_calls step x start p earlier room r buffer call none es s calls =
    let on : Started p r buffer = started p earlier room call none in
    along (step p on.profile) x (rw on.state (start p)) calls
