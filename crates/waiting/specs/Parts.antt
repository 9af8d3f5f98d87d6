-- What the parts of the code promise each other: a sample by the groups of the state that it can change.
-- Assumes nothing.
use Rattle.model.specs.declared.profile.Profile.{Profile}
use Rattle.model.specs.declared.react.Reaction.{Reaction}
use Rattle.model.specs.declared.state.Pending.{Pending}
use Rattle.model.specs.declared.state.State.{State}
use Rattle.model.specs.Groups.{with_waiting, chosen_reaction, not_waiting}
use Rattle.waiting.specs.Waits.{by_pending, settled_reaction, unasked_as, waited}

-- what the latest sample of a state gives, where a command waits
abbrev pub attended_reaction : Profile → State → Pending → Reaction
attended_reaction p s pending =
    chosen_reaction s.weighing.stable (settled_reaction p (with_waiting s not_waiting) pending) (waited p s pending)

-- and whether or not one does
abbrev pub latest_reaction : Profile → State → Reaction
latest_reaction p s = by_pending s.waiting.pending (attended_reaction p s) (unasked_as s.sending.mode p s)

-- the groups that a sample can change, of another state
abbrev pub with_groups_of : State → State → State
with_groups_of s t = record { line = s.line; weighing = t.weighing; waiting = t.waiting; sending = t.sending; display = s.display }
