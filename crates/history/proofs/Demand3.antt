-- Demand 3: over every list of calls from the state that a power-on not refused returned, the tally accepts.
-- Assumes nothing.
use mathlib.Core.Path.{refl}
use Rattle.history.specs.Claim.{Demand3}
use Rattle.history.specs.Tally.{accepts, event_holds}
use Rattle.history.proofs.EachCall.{each_call}

pub demand3 : Demand3
unfolding accepts
demand3 = each_call accepts event_holds (λ p t. refl) (λ p t e es h k. rw h k) (λ p t e s h. h.accepted)
