-- End to end: over every list of calls from the state that a power-on not refused returned, the host reads each line of each answer,
-- and the value of a weight is as near to the exact one as demand 3 asks.
-- Assumes nothing.
use Prim.Native.Nat.{ℕ}
use mathlib.Core.Path.{◌≡◌, refl}
use mathlib.Core.Bool.{true, ◌&&◌}
use mathlib.Core.List.{List}
use lib.ListN.{take}
use Rattle.answer.specs.Commands.{place_i4}
use Rattle.answer.specs.declared.answer.Answer.TheVariants.{Text}
use Rattle.device.specs.declared.call.Called.{Called}
use Rattle.model.specs.declared.profile.Profile.{Profile}
use Rattle.model.specs.declared.react.Reaction.{Reaction}
use Rattle.model.specs.declared.state.State.{State}
use Rattle.model.specs.Refusals.{number_of_outcome}
use Rattle.device.specs.Calls.{answer_bytes, count_of}
use Rattle.model.specs.Profiles.{profile_allowed}
use Rattle.commands.specs.Reactions.{byte_reaction}
use Rattle.waiting.specs.Waits.{sample_reaction}
use Rattle.history.specs.Claim.{OverCalls}
use Rattle.history.specs.EndToEnd.{pieces_of, pieces_hold, host_accepts, EndToEnd}
use Rattle.history.specs.Tally.{Input, Tally, start_tally, in_force_at, byte_is, sample_is, taken, tallied, load_holds, typed_holds, unit_holds, weight_holds, holds, after_event, event_holds}
use Rattle.history.proofs.Along.{Followed, Step, over_calls}
use Rattle.history.proofs.AnswerKinds.{text_silent}
use Rattle.history.proofs.AnswersRead.{serial_read, byte_read, sample_read}
use Rattle.history.proofs.DueWeights.{tare_range}
use Rattle.history.proofs.HostReads.{ReadByHost}
use Rattle.history.proofs.Stepping.{FollowsState, start_followed, Stepped, byte_stepped, sample_stepped}
use Rattle.history.proofs.Delivering.{Started, started, Delivered, given, withheld, byte_delivered, sample_delivered}
use Rattle.line.proofs.Kept.{marked_as}
use Rattle.weight.proofs.Allowed.{both_right}

-- ---- one call

-- what the tally takes of the weight in an answer that was sent
weight_taken : (p : Profile) (t : Tally) (i : Input) (l : List ℕ) → event_holds p t (record { input = i; refusal = 0; answer = l }) ≡ true
    → weight_holds (in_force_at p (tallied p t i l) l) (tallied p t i l) l ≡ true
unfolding event_holds holds
weight_taken p t i l h = both_right (load_holds (taken t i) l && typed_holds t i l && unit_holds t i l) (weight_holds (in_force_at p (tallied p t i l) l) (tallied p t i l) l) h

-- the unit in force after it is the tally's
unit_after : (p : Profile) (s : State) (t : Tally) (i : Input) (l : List ℕ) → FollowsState p s (after_event p t (record { input = i; refusal = 0; answer = l }))
    → (tallied p t i l).unit ≡ s.weighing.unit
unfolding after_event
unit_after p s t i l f = f.weighing.unit

-- a call that the tally accepts and follows, and whose answer the host reads
read_followed
    : (p : Profile) (s : State) (t : Tally) (i : Input) (x : Reaction) {r : Called} {buffer : List ℕ}
    → Delivered p s x r buffer
    → ReadByHost p x.state.weighing.unit x.answer
    → Stepped p t (record { input = i; refusal = number_of_outcome r.outcome; answer = take (count_of r.outcome) buffer }) r.state
    → Followed Tally (FollowsState p) (host_accepts p) r.state t
    (record { input = i; refusal = number_of_outcome r.outcome; answer = take (count_of r.outcome) buffer })
unfolding host_accepts
read_followed p s t i x (given none state answer) read stepped =
    let l = answer_bytes p x.answer in
    let taken = weight_taken p t i l (rw (none, answer) at stepped.accepted) in
    let same = unit_after p x.state t i l (rw (none, state, answer) at stepped.follows) in
    let held : pieces_hold p (tallied p t i l) (pieces_of l) ≡ true = read (tallied p t i l) same taken in
    record {
      next = after_event p t _;
      kept = stepped.follows;
      joins = λ es e. rw (none, answer, held) (rw (none, answer) at e);
    }
read_followed p s t i x (withheld room state answer) read stepped =
    record { next = after_event p t _; kept = stepped.follows; joins = λ es e. rw room (rw room at e) }

-- both calls are such
step : (p : Profile) → profile_allowed p ≡ true → Step p Tally (FollowsState p) (host_accepts p)
unfolding host_accepts
step p profile =
    record {
      ends = λ t. refl;
      byte = λ s t b bad room r buffer kept call.
          read_followed p s t (byte_is (marked_as b bad)) (byte_reaction p s b bad)
          (byte_delivered p s room profile kept.allowed call)
          (byte_read p profile s (tare_range p s kept.allowed) t.line kept.line b bad)
          (byte_stepped p profile s t kept b bad room r buffer call);
      sample = λ s t z stable room r buffer kept call.
          read_followed p s t (sample_is z.0 stable) (sample_reaction p s z stable)
          (sample_delivered p s room profile kept.allowed call)
          (sample_read p profile s (tare_range p s kept.allowed) z stable)
          (sample_stepped p profile s t kept z stable room r buffer call);
    }

-- ---- the whole list

-- power-on's line: I4 and its text
on_read : (p : Profile) → profile_allowed p ≡ true → pieces_hold p start_tally (pieces_of (answer_bytes p (Text place_i4))) ≡ true
unfolding weight_holds
on_read p allowed =
    let k = text_silent p place_i4 refl in
    serial_read p allowed start_tally.unit start_tally refl (rw (k.net_is, k.tare_is, k.told_is))

calls_read : OverCalls (λ p sent es. host_accepts p start_tally es ≡ true)
calls_read = over_calls {X = Tally} {Inv = FollowsState} {accepted = host_accepts} step start_tally start_followed

-- end to end
pub end_to_end : EndToEnd
end_to_end p earlier room r buffer call none es s calls =
    let on : Started p r buffer = started p earlier room call none in
    rw (on.sent, on_read p on.profile) (calls_read p earlier room r buffer call none es s calls)
