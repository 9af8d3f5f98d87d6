-- Over every list of calls after power-on: no call is refused by 1 or 2, every line has its answer or waits, and a wait ends where
-- it is due.
-- Assumes nothing.
use mathlib.Core.Path.{◌≡◌, refl, sym, ◌∙◌}
use mathlib.Core.Bool.{Bool, true, false}
use mathlib.Core.List.{List, ◌∷◌}
use Prim.Native.Nat.{ℕ}
use lib.ListN.{take}
use Rattle.device.specs.declared.call.Called.{Called}
use Rattle.model.specs.declared.profile.Profile.{Profile}
use Rattle.model.specs.declared.react.Reaction.{Reaction}
use Rattle.model.specs.declared.state.State.{State}
use Rattle.model.specs.Refusals.{number_of_outcome}
use Rattle.device.specs.Calls.{answer_bytes, count_of}
use Rattle.device.proofs.Took.{lengths_alone}
use Rattle.model.specs.Profiles.{profile_allowed}
use Rattle.commands.specs.Reactions.{performed, byte_reaction, situation_of}
use Rattle.commands.proofs.StaysAllowed.{byte_allowed, sample_allowed}
use Rattle.commands.proofs.Ways.{by_choice}
use Rattle.model.specs.Groups.{with_line}
use Rattle.waiting.specs.Waits.{sample_reaction}
use Rattle.model.specs.States.{state_allowed, start_state}
use Rattle.model.proofs.StateFacts.{start_allowed}
use Rattle.line.specs.declared.receive.Line.{Line}
use Rattle.line.specs.Judging.{judgement}
use Rattle.line.specs.Receiving.{cleared_line, received_byte}
use Rattle.line.specs.Unbounded.{Marked, ends_unbounded, finished_line}
use Rattle.line.proofs.Kept.{Holds, Keeps, keeps_cleared, keeps_empty, marked_as, ends_alike, holds_finished, keeps_byte, holds_judged}
use Rattle.line.proofs.Proper.{verdict_ruled}
use Rattle.history.specs.Tally.{Input, byte_is, sample_is}
use Rattle.history.specs.Waits.{Waits, start_waits, after_input, waits_hold, WaitsEnd, BuffersTaken}
use Rattle.history.proofs.Along.{Followed, Step, over_calls, reached}
use Rattle.history.proofs.Delivering.{Started, started, Delivered, given, withheld, byte_delivered, sample_delivered}
use Rattle.history.proofs.Performing.{same_line, performed_kind}
use Rattle.history.proofs.WaitsStep.{Follows, Reacts, ended_reacts, joined_reacts, sample_reacts}

-- a byte that ends no line joins it
keeps_on : (l : Line) (u : List Marked) (b : ℕ) (bad : Bool) → Keeps l u → ends_unbounded u (marked_as b bad) ≡ false
    → Keeps (received_byte l b bad).line (marked_as b bad ∷ u)
keeps_on l u b bad k e = rw e at (keeps_byte l u k b bad e)

-- a byte, if the state after it is allowed
pub byte_reacts : (p : Profile) (s : State) (w : Waits) (b : ℕ) (bad : Bool) → Follows p s w
    → state_allowed p (byte_reaction p s b bad).state ≡ true → Reacts p w (byte_is (marked_as b bad)) (byte_reaction p s b bad)
unfolding byte_reaction
byte_reacts p s w b bad old =
    let l : Line = (received_byte s.line b bad).line in
    let same : (received_byte s.line b bad).ended ≡ ends_unbounded w.line (marked_as b bad) = ends_alike s.line w.line old.line b bad in
    let v = judgement (situation_of p s) l in
    let t : State = with_line s (cleared_line l) in
    by_choice (λ x. state_allowed p x.state ≡ true → Reacts p w (byte_is (marked_as b bad)) x) (received_byte s.line b bad).ended
    (λ e allowed.
    let ends : ends_unbounded w.line (marked_as b bad) ≡ true = sym same ∙ e in
    let held : Holds l (finished_line w.line) = holds_finished s.line w.line old.line b bad ends in
    let judged = holds_judged (situation_of p s) l (finished_line w.line) held in
    let kind = performed_kind p t l v (verdict_ruled (situation_of p s) (finished_line w.line) v (sym judged)) in
    ended_reacts p s w (marked_as b bad) (performed p t l v) old allowed
    (rw (same_line kind) (keeps_cleared l held.cells))
    ends
    v
    judged
    t
    refl
    kind)
    (λ e allowed.
    let on : ends_unbounded w.line (marked_as b bad) ≡ false = sym same ∙ e in
    joined_reacts p s w (marked_as b bad) l old allowed on (keeps_on s.line w.line b bad old.line on))

-- what was delivered follows
delivered_followed : (p : Profile) (s : State) (w : Waits) (i : Input) (x : Reaction) {r : Called} {buffer : List ℕ} → Delivered p s x r buffer
    → Follows p s w → Reacts p w i x
    → Followed Waits (Follows p) (waits_hold p) r.state w
    (record { input = i; refusal = number_of_outcome r.outcome; answer = take (count_of r.outcome) buffer })
unfolding waits_hold
delivered_followed p s w i x (given none state answer) old new =
    record {
      next = after_input w i (answer_bytes p x.answer);
      kept = rw state new.next;
      joins = λ es e. rw (none, answer, new.holds) e;
    }
delivered_followed p s w i x (withheld room state answer) old new =
    record { next = w; kept = rw state old; joins = λ es e. rw (room, answer) e }

step : (p : Profile) → profile_allowed p ≡ true → Step p Waits (Follows p) (waits_hold p)
unfolding waits_hold
step p profile =
    record {
      ends = λ w. refl;
      byte = λ s w b bad room r buffer old call.
          delivered_followed p s w (byte_is (marked_as b bad)) (byte_reaction p s b bad)
          (byte_delivered p s room profile old.allowed call)
          old
          (byte_reacts p s w b bad old (byte_allowed p profile s old.allowed b bad old.line.held.cells));
      sample = λ s w z stable room r buffer old call.
          delivered_followed p s w (sample_is z.0 stable) (sample_reaction p s z stable)
          (sample_delivered p s room profile old.allowed call)
          old
          (sample_reacts p s w z stable old (sample_allowed p profile s old.allowed z stable));
    }

pub start_follows : (p : Profile) → Follows p start_state start_waits
unfolding start_state
start_follows p = record { allowed = start_allowed p; line = keeps_empty; waiting = refl; counted = λ e. refl }

pub waits_end : WaitsEnd
waits_end = over_calls {X = Waits} {Inv = Follows} {accepted = waits_hold} step start_waits start_follows

-- the state after the calls is one that no call refuses
pub buffers_taken : BuffersTaken
buffers_taken p earlier room r buffer call none es s calls bytes marks lent t after called =
    let on : Started p r buffer = started p earlier room call none in
    let at = reached (step p on.profile) start_waits (rw on.state (start_follows p)) calls in
    lengths_alone p s bytes marks lent on.profile at.1.allowed called
