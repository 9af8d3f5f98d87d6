-- What a call returns where profile and state are allowed: the reaction and its answer, or refusal 3 and nothing.
-- Assumes nothing.
use mathlib.Core.Path.{◌≡◌, refl, sym, ◌∙◌}
use mathlib.Core.Bool.{Bool, true, false}
use mathlib.Core.List.{List, []}
use Prim.Native.Nat.{ℕ}
use native.Mathlib.Omega.{arith}
use lib.ListN.{length, take, drop}
use lib.Seq.{take-append_seam}
use Rattle.answer.specs.Commands.{place_i4}
use Rattle.answer.specs.declared.answer.Answer.TheVariants.{Text}
use Rattle.emit.specs.Rooms.{fits_room, laid_in}
use Rattle.device.specs.declared.call.Called.{Called}
use Rattle.model.specs.declared.profile.Profile.{Profile}
use Rattle.model.specs.declared.react.Reaction.{Reaction}
use Rattle.model.specs.declared.state.State.{State}
use Rattle.weight.specs.declared.loads.Load.{Load}
use Rattle.model.specs.Refusals.{number_of_outcome}
use Rattle.device.specs.Calls.{answer_bytes, count_of, delivered, of_profile, of_state, power_on_outcome, byte_outcome, sample_outcome, Outcome, Gives, PowerOnCalled, ByteCalled, SampleCalled}
use Rattle.model.specs.Profiles.{profile_allowed}
use Rattle.commands.specs.Reactions.{byte_reaction}
use Rattle.waiting.specs.Waits.{sample_reaction}
use Rattle.model.specs.States.{state_allowed, start_state}

pub data Delivered (p : Profile) (s : State) (x : Reaction) (r : Called) (buffer : List ℕ) : Type 0 where
  given : number_of_outcome r.outcome ≡ 0 → r.state ≡ x.state → take (count_of r.outcome) buffer ≡ answer_bytes p x.answer → Delivered p s x r buffer
  withheld : number_of_outcome r.outcome ≡ 3 → r.state ≡ s → take (count_of r.outcome) buffer ≡ [] → Delivered p s x r buffer

module _ (p : Profile) (s : State) (room : List ℕ) where
  by_room : (x : Reaction) {r : Called} {buffer : List ℕ} (fits : Bool) → fits_room (answer_bytes p x.answer) room ≡ fits
      → Gives (delivered p s x room) r buffer → Delivered p s x r buffer
  unfolding delivered laid_in
  by_room x true e g =
      let h = rw e at g in
      given h.numbered h.returned
      (rw (h.counted, h.left) (take-append_seam (answer_bytes p x.answer) (drop (length (answer_bytes p x.answer)) room)))
  by_room x false e g = let h = rw e at g in withheld h.numbered h.returned (rw h.counted)

  by_call : (x : Reaction) {r : Called} {buffer : List ℕ} → Gives (delivered p s x room) r buffer → Delivered p s x r buffer
  by_call x g = by_room x (fits_room (answer_bytes p x.answer) room) refl g

  module _ (profile : profile_allowed p ≡ true) (state : state_allowed p s ≡ true) {r : Called} {buffer : List ℕ} where
    pub byte_delivered : {b : ℕ} {bad : Bool} → ByteCalled p s b bad room r buffer → Delivered p s (byte_reaction p s b bad) r buffer
    unfolding byte_outcome of_profile of_state
    byte_delivered {b} {bad} c =
        by_call (byte_reaction p s b bad) (rw (profile, state) at c.gives)

    pub sample_delivered : {load : Load} {stable : Bool} → SampleCalled p s load stable room r buffer
        → Delivered p s (sample_reaction p s load stable) r buffer
    unfolding sample_outcome of_profile of_state
    sample_delivered {load} {stable} c =
        by_call (sample_reaction p s load stable) (rw (profile, state) at c.gives)

-- ---- power-on

-- what a power-on that is not refused tells
pub record Started (p : Profile) (r : Called) (buffer : List ℕ) : Type 0 where
  pub profile : profile_allowed p ≡ true
  pub state : r.state ≡ start_state
  pub sent : take (count_of r.outcome) buffer ≡ answer_bytes p (Text place_i4)

-- the same of its outcome
record Opened (p : Profile) (o : Outcome) : Type 0 where
  pub profile : profile_allowed p ≡ true
  pub state : o.state ≡ start_state
  pub sent : take o.count o.buffer ≡ answer_bytes p (Text place_i4)

module _ (p : Profile) (earlier : State) (room : List ℕ) where
  started_by_lem : (allowed fits : Bool) → profile_allowed p ≡ allowed → fits_room (answer_bytes p (Text place_i4)) room ≡ fits
      → (power_on_outcome p earlier room).number ≡ 0
      → Opened p (power_on_outcome p earlier room)
  unfolding power_on_outcome of_profile delivered laid_in
  started_by_lem true true e f n =
      record {
        profile = e;
        state = rw (e, f);
        sent = rw (e, f) (take-append_seam (answer_bytes p (Text place_i4)) (drop (length (answer_bytes p (Text place_i4))) room));
      }
  started_by_lem true false e f n = absurd (omega (arith, rw (e, f) at n))
  started_by_lem false fits e f n = absurd (omega (arith, rw e at n))

  pub started : {r : Called} {buffer : List ℕ} → PowerOnCalled p earlier room r buffer → number_of_outcome r.outcome ≡ 0 → Started p r buffer
  started c n =
      let o : Opened p (power_on_outcome p earlier room) =
      started_by_lem (profile_allowed p) (fits_room (answer_bytes p (Text place_i4)) room) refl refl (sym c.gives.numbered ∙ n) in
      record {
        profile = o.profile;
        state = c.gives.returned ∙ o.state;
        sent = rw (c.gives.counted, c.gives.left) o.sent;
      }
