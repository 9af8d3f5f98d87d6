-- What SR sends is what it should: over every list of calls from the state that a power-on not refused returned, the follower of SR
-- agrees with every answer.
-- Assumes nothing.
use Prim.Native.Nat.{ℕ}
use mathlib.Core.Path.{◌≡◌, refl, sym, ap, ◌∙◌}
use mathlib.Core.Bool.{Bool, true}
use mathlib.Core.List.{List}
use lib.ListN.{take}
use Rattle.commands.specs.Reactions.{byte_reaction, situation_of}
use Rattle.commands.proofs.StaysAllowed.{byte_allowed, sample_allowed}
use Rattle.commands.proofs.Ways.{by_choice}
use Rattle.device.specs.declared.call.Called.{Called}
use Rattle.device.specs.Calls.{answer_bytes, count_of}
use Rattle.line.specs.declared.judge.Verdict.{Verdict}
use Rattle.line.specs.declared.receive.Line.{Line}
use Rattle.line.specs.Judging.{judgement}
use Rattle.line.specs.Receiving.{cleared_line, received_byte}
use Rattle.line.specs.Unbounded.{ends_unbounded, finished_line}
use Rattle.line.proofs.Kept.{Holds, marked_as, ends_alike, holds_finished, holds_judged}
use Rattle.model.specs.declared.profile.Profile.{Profile}
use Rattle.model.specs.declared.react.Reaction.{Reaction}
use Rattle.model.specs.declared.state.State.{State}
use Rattle.model.specs.Groups.{with_line}
use Rattle.model.specs.Profiles.{profile_allowed}
use Rattle.model.specs.Refusals.{number_of_outcome}
use Rattle.model.specs.States.{start_state}
use Rattle.waiting.specs.Waits.{sample_reaction}
use Rattle.history.specs.OnChange.{Sends, Sender, start_sender, sends_after, sends_hold, after_call, sender_holds, SentOnChange}
use Rattle.history.specs.Tally.{Event, Input, Tally, byte_is, sample_is, after_event}
use Rattle.history.specs.Waits.{Waits, is_awaiting}
use Rattle.history.proofs.Along.{Followed, Step, over_calls}
use Rattle.history.proofs.Delivering.{Delivered, given, withheld, byte_delivered, sample_delivered}
use Rattle.history.proofs.Following.{Follows}
use Rattle.history.proofs.Performing.{awaiting_is}
use Rattle.history.proofs.SendsLine.{Follow, performed_sent}
use Rattle.history.proofs.SendsSample.{SampleSent, sample_sent}
use Rattle.history.proofs.Stepping.{FollowsState, start_followed, Stepped, byte_stepped, sample_stepped}
use Rattle.history.proofs.WaitsEnd.{byte_reacts, start_follows}
use Rattle.history.proofs.WaitsStep.{Reacts, sample_reacts}
use Rattle.history.proofs.WaitsStep as waited

-- the follower goes with the state: its tally, its record of waits, and what is sent unasked
record FollowsSender (p : Profile) (s : State) (f : Sender) : Type 0 where
  tally : FollowsState p s f.tally
  waits : waited.Follows p s f.waits
  sends : Follow s f.sends

-- ---- one call

-- a reaction r to the input i; t is the tally after the call
record Sent (p : Profile) (w : Waits) (i : Input) (x : Sends) (r : Reaction) (t : Tally) : Type 0 where
  holds : sends_hold p w t i (answer_bytes p r.answer) x ≡ true
  follow : Follow r.state (sends_after p w t i (answer_bytes p r.answer) x)

module _ (p : Profile) (s : State) (f : Sender) (old : FollowsSender p s f) (b : ℕ) (bad : Bool) where
  -- a byte
  byte_sent : (t : Tally) → Follows (byte_reaction p s b bad).state.weighing t → Sent p f.waits (byte_is (marked_as b bad)) f.sends (byte_reaction p s b bad) t
  unfolding byte_reaction sends_hold sends_after
  byte_sent =
      let u = f.waits.line in
      let l : Line = (received_byte s.line b bad).line in
      let same : (received_byte s.line b bad).ended ≡ ends_unbounded u (marked_as b bad) = ends_alike s.line u old.waits.line b bad in
      let v : Verdict = judgement (situation_of p s) l in
      by_choice (λ r. (t : Tally) → Follows r.state.weighing t → Sent p f.waits (byte_is (marked_as b bad)) f.sends r t) (received_byte s.line b bad).ended
      (λ e t g.
      let ends : ends_unbounded u (marked_as b bad) ≡ true = sym same ∙ e in
      let held : Holds l (finished_line u) = holds_finished s.line u old.waits.line b bad ends in
      record {
        holds = refl;
        follow =
            rw ends
            (performed_sent p (with_line s (cleared_line l)) (finished_line u) f.sends (record { sends = old.sends.sends; idle = old.sends.idle }) l v
            (sym (holds_judged (situation_of p s) l (finished_line u) held))
            t
            g);
      })
      (λ e t g. record { holds = refl; follow = rw (sym same ∙ e) (record { sends = old.sends.sends; idle = old.sends.idle }) })

-- delivered, the follower agrees and goes with the state; refused for room, nothing changes
sent_followed
    : (p : Profile) (s : State) (f : Sender) (i : Input) (x : Reaction) {r : Called} {buffer : List ℕ}
    → FollowsSender p s f
    → Delivered p s x r buffer
    → Stepped p f.tally (record { input = i; refusal = number_of_outcome r.outcome; answer = take (count_of r.outcome) buffer }) r.state
    → Reacts p f.waits i x
    → ((t : Tally) → Follows x.state.weighing t → Sent p f.waits i f.sends x t)
    → Followed Sender (FollowsSender p) (sender_holds p) r.state f
    (record { input = i; refusal = number_of_outcome r.outcome; answer = take (count_of r.outcome) buffer })
unfolding sender_holds
sent_followed p s f i x old (given none state answer) stepped reacts sent =
    let e : Event = record { input = i; refusal = 0; answer = answer_bytes p x.answer } in
    let tally : FollowsState p x.state (after_event p f.tally e) = rw (none, state, answer) at stepped.follows in
    let now = sent (after_event p f.tally e) tally.weighing in
    record {
      next = after_call p f e;
      kept = rw state (record { tally = tally; waits = reacts.next; sends = now.follow });
      joins = λ es h. rw (none, answer, now.holds) h;
    }
sent_followed p s f i x old (withheld room state answer) stepped reacts sent =
    record { next = f; kept = rw state old; joins = λ es h. rw room h }

step : (p : Profile) → profile_allowed p ≡ true → Step p Sender (FollowsSender p) (sender_holds p)
unfolding sender_holds
step p profile =
    record {
      ends = λ f. refl;
      byte = λ s f b bad room r buffer old call.
          sent_followed p s f (byte_is (marked_as b bad)) (byte_reaction p s b bad) old
          (byte_delivered p s room profile old.tally.allowed call)
          (byte_stepped p profile s f.tally old.tally b bad room r buffer call)
          (byte_reacts p s f.waits b bad old.waits (byte_allowed p profile s old.tally.allowed b bad old.tally.line.held.cells))
          (byte_sent p s f old b bad);
      sample = λ s f z stable room r buffer old call.
          let awaits : is_awaiting f.waits.waiting ≡ _ = ap is_awaiting old.waits.waiting ∙ awaiting_is s.waiting.pending in
          sent_followed p s f (sample_is z.0 stable) (sample_reaction p s z stable) old
          (sample_delivered p s room profile old.tally.allowed call)
          (sample_stepped p profile s f.tally old.tally z stable room r buffer call)
          (sample_reacts p s f.waits z stable old.waits (sample_allowed p profile s old.tally.allowed z stable))
          (λ t g.
          let now : SampleSent p f.waits z.0 stable f.sends (sample_reaction p s z stable) t =
          sample_sent p s z stable f.waits awaits f.sends old.sends profile old.tally.allowed t g in
          record { holds = now.holds; follow = now.follow });
    }

-- ---- the whole list

start_sends : (p : Profile) → FollowsSender p start_state start_sender
unfolding start_state
start_sends p = record { tally = start_followed p; waits = start_follows p; sends = record { sends = refl; idle = λ e. refl } }

pub sent_on_change : SentOnChange
sent_on_change = over_calls {X = Sender} {Inv = FollowsSender} {accepted = sender_holds} step start_sender start_sends
