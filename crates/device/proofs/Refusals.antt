-- What each call gives, by what leads to its return.
-- Assumes nothing.
use mathlib.Core.Path.{◌≡◌, refl, sym, ap, subst, ◌∙◌}
use mathlib.Core.Bool.{Bool, true, false}
use mathlib.Core.List.{List}
use Prim.Native.Nat.{ℕ}
use native.Mathlib.Omega.{arith}
use borrow.Author.Tests.{le-leb}
use lib.ListN.{length}
use Rattle.std.specs.Prelude.{Option, Some, None, unwrap_or, Result, Ok, Err}
use Rattle.answer.specs.declared.answer.Answer.TheVariants.{Nothing, Text}
use Rattle.answer.specs.Lines.{line_of}
use Rattle.emit.specs.Rooms.{fits_room, emitted, laid_in}
use Rattle.model.specs.declared.react.Reaction.{Reaction}
use Rattle.commands.specs.Reactions.{byte_reaction, line_reaction}
use Rattle.model.specs.Groups.{reaction, with_line}
use Rattle.waiting.specs.Waits.{sample_reaction, is_awaited, sampled_state}
use Rattle.commands.proofs.Bytes.{byte_ends, byte_joins}
use Rattle.waiting.proofs.Samples.{sample_unanswered}
use Rattle.device.specs.declared.call.Called.{Called}
use Rattle.device.specs.Calls.{
  Outcome,
  admitted,
  admitted_by,
  answer_bytes,
  chosen_outcome,
  refused,
  delivered,
  of_profile,
  of_state,
  power_on_outcome,
  byte_outcome,
  sample_outcome,
  Gives,
  PowerOnCalled,
  ByteCalled,
  SampleCalled,
}
use Rattle.line.specs.declared.receive.Received.{Received}
use Rattle.line.specs.Receiving.{received_byte}
use Rattle.model.specs.declared.profile.Profile.{Profile}
use Rattle.model.specs.declared.refusal.Refusal.{Refusal}
use Rattle.model.specs.declared.refusal.Refusal.TheVariants as refusals
use Rattle.model.specs.declared.state.State.{State}
use Rattle.weight.specs.declared.loads.Load.{Load}
use Rattle.model.specs.Profiles.{profile_allowed}
use Rattle.model.specs.Refusals.{number_of_refusal}
use Rattle.model.specs.States.{state_allowed, start_state}

-- ---- a call's result as an outcome

same_outcome : {o t : Outcome} {r : Called} {buffer : List ℕ} → o ≡ t → Gives t r buffer → Gives o r buffer
same_outcome {r = r} {buffer = buffer} e g = subst (λ (x : Outcome). Gives x r buffer) (sym e) g

-- what the code returns where it refuses, and where it does not
abbrev Refuses : Refusal → State → Called → Type 0
Refuses x s r = r ≡ record { state = s; outcome = Err x }

abbrev Takes : State → ℕ → Called → Type 0
Takes s n r = r ≡ record { state = s; outcome = Ok n }

refused_gives : {x : Refusal} {s : State} {room : List ℕ} {o : Outcome} {r : Called} → Refuses x s r → o ≡ refused (number_of_refusal x) s room
    → Gives o r room
refused_gives h e = same_outcome e (record { numbered = rw h; returned = rw h; counted = rw h; left = refl })

taken_gives : {s : State} {n : ℕ} {buffer : List ℕ} {r : Called} → Takes s n r
    → Gives (record { number = 0; state = s; count = n; buffer = buffer }) r buffer
taken_gives h = record { numbered = rw h; returned = rw h; counted = rw h; left = refl }

-- ---- profile and state are let in, or one of them is refused

passed_by : (b c : Bool) {u : Unit {0}} → admitted_by b c ≡ Ok u → (b ≡ true) × (c ≡ true)
passed_by true true e = (refl, refl)
passed_by true false e = absurd cc
passed_by false c e = absurd cc

refused_by : (b c : Bool) {x : Refusal} (s : State) (room : List ℕ) (next : Outcome) → admitted_by b c ≡ Err x
    → chosen_outcome b (chosen_outcome c next (refused 2 s room)) (refused 1 s room) ≡ refused (number_of_refusal x) s room
refused_by true true s room next e = absurd cc
refused_by true false {x} s room next e = let is : ◌≡◌ {A = Refusal} refusals.State x = cc in ap (λ (y : Refusal). refused (number_of_refusal y) s room) is
refused_by false c {x} s room next e = let is : ◌≡◌ {A = Refusal} refusals.Profile x = cc in ap (λ (y : Refusal). refused (number_of_refusal y) s room) is

-- the code asks by what the tests said
pub asked_of : (p : Profile) (s : State) {x y : Bool} {a : Result (Unit {0}) Refusal} → x ≡ profile_allowed p → y ≡ state_allowed p s → a ≡ admitted_by x y → a ≡ admitted p s
asked_of p s e f g = g ∙ rw (e, f)

module _ (p : Profile) (s : State) {a : Result (Unit {0}) Refusal} (asked : a ≡ admitted p s) where
  pub passed : {u : Unit {0}} → a ≡ Ok u → (profile_allowed p ≡ true) × (state_allowed p s ≡ true)
  passed e = passed_by (profile_allowed p) (state_allowed p s) (sym asked ∙ e)

  pub turned_away : {x : Refusal} (room : List ℕ) (next : Outcome) → a ≡ Err x → of_profile p s room (of_state p s room next) ≡ refused (number_of_refusal x) s room
  unfolding of_profile of_state
  turned_away room next e = refused_by (profile_allowed p) (state_allowed p s) s room next (sym asked ∙ e)

module _ (p : Profile) (s : State) (room : List ℕ) where
  -- no answer leaves the buffer as it was
  pub delivered_nothing : (t : State) → delivered p s (reaction t Nothing) room ≡ record { number = 0; state = t; count = 0; buffer = room }
  unfolding delivered answer_bytes line_of laid_in
  delivered_nothing t = rw (le-leb 0 (length room) (omega arith))

  -- ---- the answer due was laid into the buffer, or did not fit

  module _
      (q : Reaction)
      {e : Option ℕ}
      (told : e ≡ emitted (answer_bytes p q.answer) room)
      {r : Called}
      {buffer : List ℕ}
      (k : buffer ≡ laid_in (answer_bytes p q.answer) room)
    where
      pub sent : {n : ℕ} → e ≡ Some n → Takes q.state n r → Gives (delivered p s q room) r buffer
      unfolding delivered emitted laid_in
      sent {n} f h = go (fits_room (answer_bytes p q.answer) room) refl
        where
          go : (b : Bool) → fits_room (answer_bytes p q.answer) room ≡ b → Gives (delivered p s q room) r buffer
          go true t =
              let long : Some n ≡ Some (length (answer_bytes p q.answer)) = sym f ∙ rw t at told in
              record { numbered = rw (h, t); returned = rw (h, t); counted = rw (h, t) (ap (λ (o : Option ℕ). unwrap_or o 0) long); left = k ∙ rw t }
          go false t = let none : Some n ≡ None = sym f ∙ rw t at told in absurd cc

      pub unsent : e ≡ None → Refuses refusals.Room s r → Gives (delivered p s q room) r buffer
      unfolding delivered emitted laid_in
      unsent f h = go (fits_room (answer_bytes p q.answer) room) refl
        where
          go : (b : Bool) → fits_room (answer_bytes p q.answer) room ≡ b → Gives (delivered p s q room) r buffer
          go true t = let some : ◌≡◌ {A = Option ℕ} None (Some (length (answer_bytes p q.answer))) = sym f ∙ rw t at told in absurd cc
          go false t = record { numbered = rw (h, t); returned = rw (h, t); counted = rw (h, t); left = k ∙ rw t }

  -- ---- power on

  module _ {x : Bool} (profile : x ≡ profile_allowed p) where
    pub on_refused : {r : Called} → x ≡ false → Refuses refusals.Profile s r → PowerOnCalled p s room r room
    unfolding power_on_outcome of_profile
    on_refused t h = record { gives = refused_gives h (rw (← profile, t)) }

    pub on_delivered : {start : State} {q : Reaction} {r : Called} {buffer : List ℕ} → x ≡ true → start ≡ start_state → q ≡ reaction start (Text 4)
        → Gives (delivered p s q room) r buffer → PowerOnCalled p s room r buffer
    unfolding power_on_outcome of_profile
    on_delivered t e f d = record { gives = rw (← profile, t, ← e, ← f) d }

  -- ---- a byte or a sample, with the reaction q that is due

  module _ (q : Reaction) {a : Result (Unit {0}) Refusal} (asked : a ≡ admitted p s) where
    abbrev tested : Outcome
    tested = of_profile p s room (of_state p s room (delivered p s q room))

    turns_away : {x : Refusal} {r : Called} → a ≡ Err x → Refuses x s r → Gives tested r room
    turns_away e h = refused_gives h (turned_away p s asked room (delivered p s q room) e)

    lets_in : {u : Unit {0}} → a ≡ Ok u → tested ≡ delivered p s q room
    unfolding of_profile of_state
    lets_in e = let both = passed p s asked e in rw (both.0, both.1)

    delivers : {u : Unit {0}} {o : Reaction} {r : Called} {buffer : List ℕ} → a ≡ Ok u → q ≡ o → Gives (delivered p s o room) r buffer → Gives tested r buffer
    delivers e f d = same_outcome (lets_in e ∙ ap (λ (z : Reaction). delivered p s z room) f) d

    stays_silent : {u : Unit {0}} {t : State} {r : Called} → a ≡ Ok u → q ≡ reaction t Nothing → Takes t 0 r → Gives tested r room
    stays_silent {t = t} e f h = same_outcome (lets_in e ∙ ap (λ (z : Reaction). delivered p s z room) f ∙ delivered_nothing t) (taken_gives h)

  -- ---- a byte

  module _ (b : ℕ) (bad : Bool) {r : Called} {a : Result (Unit {0}) Refusal} (asked : a ≡ admitted p s) where
    pub byte_refused : {x : Refusal} → a ≡ Err x → Refuses x s r → ByteCalled p s b bad room r room
    unfolding byte_outcome
    byte_refused e h = record { gives = turns_away (byte_reaction p s b bad) asked e h }

    module _ {u : Unit {0}} (passed : a ≡ Ok u) {d : Received} (received : d ≡ received_byte s.line b bad) where
      pub byte_delivered : {o : Reaction} {buffer : List ℕ} → d.ended ≡ true → o ≡ line_reaction p s → Gives (delivered p s o room) r buffer
          → ByteCalled p s b bad room r buffer
      unfolding byte_outcome
      byte_delivered e o promised =
          record { gives = delivers (byte_reaction p s b bad) asked passed (byte_ends p s b bad received e ∙ sym o) promised }

      pub byte_silent : {t : State} → d.ended ≡ false → t ≡ with_line s d.line → Takes t 0 r → ByteCalled p s b bad room r room
      unfolding byte_outcome
      byte_silent e put h =
          record { gives = stays_silent (byte_reaction p s b bad) asked passed (byte_joins p s b bad received e) (rw put at h) }

  -- ---- a sample

  module _ (load : Load) (stable : Bool) {r : Called} {a : Result (Unit {0}) Refusal} (asked : a ≡ admitted p s) where
    pub sample_refused : {x : Refusal} → a ≡ Err x → Refuses x s r → SampleCalled p s load stable room r room
    unfolding sample_outcome
    sample_refused e h = record { gives = turns_away (sample_reaction p s load stable) asked e h }

    pub sample_delivered : {u : Unit {0}} {o : Reaction} {buffer : List ℕ} → a ≡ Ok u → o ≡ sample_reaction p s load stable → Gives (delivered p s o room) r buffer
        → SampleCalled p s load stable room r buffer
    unfolding sample_outcome
    sample_delivered e o promised = record { gives = delivers (sample_reaction p s load stable) asked e (sym o) promised }

    pub sample_silent : {u : Unit {0}} {z : Bool} {t : State} → a ≡ Ok u → z ≡ is_awaited s → z ≡ false → t ≡ sampled_state s load stable → Takes t 0 r
        → SampleCalled p s load stable room r room
    unfolding sample_outcome
    sample_silent e awaited f put h =
        let silent = sample_unanswered p s load stable (sym awaited ∙ f) in
        record { gives = stays_silent (sample_reaction p s load stable) asked e silent (rw put at h) }
