-- One call: refused for room, it changes nothing in the tally; delivered, the tally accepts it and follows the state that it returns.
-- Assumes nothing.
use Prim.Native.Nat.{ℕ}
use mathlib.Core.Path.{◌≡◌, refl, sym}
use mathlib.Core.Bool.{Bool, true, false}
use mathlib.Core.List.{List}
use lib.IntN.{pos}
use lib.ListN.{take}
use Rattle.answer.specs.declared.answer.Answer.TheVariants.{Nothing}
use Rattle.device.specs.declared.call.Called.{Called}
use Rattle.model.specs.declared.profile.Profile.{Profile}
use Rattle.model.specs.declared.react.Reaction.{Reaction}
use Rattle.model.specs.declared.state.State.{State}
use Rattle.weight.specs.declared.loads.Load.{Load}
use Rattle.model.specs.Refusals.{number_of_outcome}
use Rattle.device.specs.Calls.{answer_bytes, count_of, ByteCalled, SampleCalled}
use Rattle.model.specs.Profiles.{profile_allowed}
use Rattle.commands.specs.Reactions.{performed, byte_reaction, situation_of}
use Rattle.commands.proofs.StaysAllowed.{byte_allowed, sample_allowed}
use Rattle.commands.proofs.Ways.{change_cases, sample_cases}
use Rattle.model.specs.Groups.{with_line, chosen_reaction, reaction}
use Rattle.waiting.specs.Waits.{sampled_state, sample_reaction, settled_reaction_by}
use Rattle.model.specs.States.{state_allowed, start_state}
use Rattle.line.specs.declared.receive.Line.{Line}
use Rattle.line.specs.Receiving.{cleared_line, received_byte}
use Rattle.line.specs.Judging.{judgement}
use Rattle.line.specs.Unbounded.{ends_unbounded, after_marked, finished_line}
use Rattle.line.proofs.Kept.{Keeps, marked_as, ends_alike, holds_finished, keeps_byte, keeps_next, keeps_empty, holds_judged}
use Rattle.line.proofs.Proper.{verdict_ruled}
use Rattle.model.proofs.StateFacts.{start_allowed}
use Rattle.weight.proofs.Nearness.{near_refl}
use Rattle.history.specs.Claim.{byte_event, sample_event}
use Rattle.history.specs.Tally.{Event, Input, byte_is, sample_is, Tally, start_tally, taken, after_event, event_holds}
use Rattle.history.specs.TypedTares.{event_shows}
use Rattle.history.proofs.Answering.{zero_exact, zero_rounded}
use Rattle.history.proofs.DueWeights.{tare_range}
use Rattle.history.proofs.Following.{Follows}
use Rattle.history.proofs.Reacting.{Reacted, performed_reacted, byte_answered, sample_reacted}
use Rattle.history.proofs.Tallying.{tallied_line}
use Rattle.history.proofs.Verdicts.{verdict_says}
use Rattle.history.proofs.Delivering.{Delivered, given, withheld, byte_delivered, sample_delivered}
use Rattle.history.proofs.Performing.{same_line, performed_kind}

-- the tally follows an allowed state: its line and its weighing
pub record FollowsState (p : Profile) (s : State) (t : Tally) : Type 0 where
  pub allowed : state_allowed p s ≡ true
  pub line : Keeps s.line t.line
  pub weighing : Follows s.weighing t

-- the tally's start follows the state of power-on
pub start_followed : (p : Profile) → FollowsState p start_state start_tally
unfolding start_state
start_followed p =
    record {
      allowed = start_allowed p;
      line = keeps_empty;
      weighing = record { latest = refl; zero = refl; tare = rw zero_exact (near_refl 0 (pos 0)); rounded = zero_rounded; unit = refl };
    }

-- the tally accepts a call, and follows the state that it returned
pub record Stepped (p : Profile) (t : Tally) (e : Event) (s : State) : Type 0 where
  pub accepted : event_holds p t e ≡ true
  pub shown : event_shows p t e ≡ true
  pub follows : FollowsState p s (after_event p t e)

-- delivered, the reaction steps; refused for room, the call changes nothing
delivered_stepped
    : (p : Profile) (s : State) (t : Tally) (i : Input) (x : Reaction) {r : Called} {buffer : List ℕ}
    → FollowsState p s t
    → Delivered p s x r buffer
    → state_allowed p x.state ≡ true
    → Reacted p t i x × Keeps x.state.line (taken t i).line
    → Stepped p t (record { input = i; refusal = number_of_outcome r.outcome; answer = take (count_of r.outcome) buffer }) r.state
unfolding event_holds event_shows after_event
delivered_stepped p s t i x kept (given none state answer) allowed reacted =
    record {
      accepted = rw (none, answer) reacted.0.accepted;
      shown = rw (none, answer) reacted.0.shown;
      follows =
          rw (none, state, answer)
          (record {
            allowed = allowed;
            line = rw (tallied_line p t i (answer_bytes p x.answer)) reacted.1;
            weighing = reacted.0.follows;
          });
    }
delivered_stepped p s t i x kept (withheld room state answer) allowed reacted =
    record { accepted = rw room; shown = rw room; follows = rw (room, state) kept }

-- ---- a byte

module _ (p : Profile) (profile : profile_allowed p ≡ true) (s : State) (t : Tally) (kept : FollowsState p s t) (b : ℕ) (bad : Bool) where
  abbrev received : Line
  received = (received_byte s.line b bad).line

  byte_by
      : (ended : Bool)
      → ends_unbounded t.line (marked_as b bad) ≡ ended
      → let r = chosen_reaction ended
      (performed p (with_line s (cleared_line received)) received (judgement (situation_of p s) received))
      (reaction (with_line s received) Nothing) in
      Reacted p t (byte_is (marked_as b bad)) r × Keeps r.state.line (after_marked t.line (marked_as b bad))
  byte_by true end =
      let v = judgement (situation_of p s) received in (
        performed_reacted p profile t (marked_as b bad) (with_line s (cleared_line received)) kept.weighing (tare_range p s kept.allowed) end received v
            (rw
            (holds_judged (situation_of p s) received (finished_line t.line)
            (holds_finished s.line t.line kept.line b bad end))
            (verdict_says (situation_of p s) (finished_line t.line) _ refl)),
        rw (same_line (performed_kind p (with_line s (cleared_line received)) received v (verdict_ruled (situation_of p s) (finished_line t.line) v
            (sym (holds_judged (situation_of p s) received (finished_line t.line) (holds_finished s.line t.line kept.line b bad end))))))
            (keeps_next s.line t.line kept.line b bad end),
      )
  byte_by false going = (
    byte_answered p t (marked_as b bad) s.weighing kept.weighing going,
    keeps_byte s.line t.line kept.line b bad going,
  )

  byte_reacted
      : Reacted p t (byte_is (marked_as b bad)) (byte_reaction p s b bad) × Keeps (byte_reaction p s b bad).state.line (taken t (byte_is (marked_as b bad))).line
  unfolding byte_reaction
  byte_reacted = rw (ends_alike s.line t.line kept.line b bad) (byte_by (ends_unbounded t.line (marked_as b bad)) refl)

  -- the byte call
  pub byte_stepped
      : (room : List ℕ) (r : Called) (buffer : List ℕ) → ByteCalled p s b bad room r buffer → Stepped p t (byte_event b bad r buffer) r.state
  byte_stepped room r buffer call =
      delivered_stepped p s t (byte_is (marked_as b bad)) (byte_reaction p s b bad) kept
      (byte_delivered p s room profile kept.allowed call)
      (byte_allowed p profile s kept.allowed b bad kept.line.held.cells)
      byte_reacted

-- ---- a sample

-- which leaves the line alone
sample_line : (p : Profile) (s : State) (z : Load) (stable : Bool) → (sample_reaction p s z stable).state.line ≡ s.line
unfolding settled_reaction_by
sample_line p s z stable =
    sample_cases (λ x. x.state.line ≡ s.line) p s z stable (λ q w e. refl) (λ q w e m. refl) (λ q w e l. refl) (λ n e. refl) (λ n e. refl)
    (λ n e. change_cases (λ x. x.state.line ≡ s.line) p (sampled_state s z stable) (λ o t. refl) (λ o t. refl) (λ i d. refl) (λ i d. refl))

module _ (p : Profile) (profile : profile_allowed p ≡ true) (s : State) (t : Tally) (kept : FollowsState p s t) (z : Load) (stable : Bool) where
  -- the sample call
  pub sample_stepped
      : (room : List ℕ) (r : Called) (buffer : List ℕ) → SampleCalled p s z stable room r buffer → Stepped p t (sample_event z stable r buffer) r.state
  sample_stepped room r buffer call =
      delivered_stepped p s t (sample_is z.0 stable) (sample_reaction p s z stable) kept
      (sample_delivered p s room profile kept.allowed call)
      (sample_allowed p profile s kept.allowed z stable)
      (sample_reacted p profile t s kept.weighing (tare_range p s kept.allowed) z stable, rw (sample_line p s z stable) kept.line)
