-- A follower that asks something of each call, by what the tally made of the calls before it, accepts every list of calls if each call
-- gives what it asks.
-- Assumes nothing.
use mathlib.Core.Path.{◌≡◌}
use mathlib.Core.Bool.{Bool, true}
use mathlib.Core.List.{List, [], ◌∷◌}
use Rattle.model.specs.declared.profile.Profile.{Profile}
use Rattle.model.specs.declared.state.State.{State}
use Rattle.model.specs.Profiles.{profile_allowed}
use Rattle.history.specs.Claim.{OverCalls}
use Rattle.history.specs.Tally.{Event, Tally, start_tally, after_event}
use Rattle.history.proofs.Along.{Followed, Step, over_calls}
use Rattle.history.proofs.Stepping.{FollowsState, start_followed, Stepped, byte_stepped, sample_stepped}

module _
    (follows : Profile → Tally → List Event → Bool)
    (asks : Profile → Tally → Event → Bool)
    (ends : (p : Profile) (t : Tally) → follows p t [] ≡ true)
    (joins : (p : Profile) (t : Tally) (e : Event) (es : List Event) → asks p t e ≡ true → follows p (after_event p t e) es ≡ true → follows p t (e ∷ es) ≡ true)
    (gives : (p : Profile) (t : Tally) (e : Event) (s : State) → Stepped p t e s → asks p t e ≡ true)
  where
    followed : (p : Profile) (t : Tally) (e : Event) (s : State) → Stepped p t e s → Followed Tally (FollowsState p) (follows p) s t e
    followed p t e s h = record { next = after_event p t e; kept = h.follows; joins = λ es k. joins p t e es (gives p t e s h) k }

    step : (p : Profile) → profile_allowed p ≡ true → Step p Tally (FollowsState p) (follows p)
    step p profile =
        record {
          ends = ends p;
          byte = λ s t b bad room r buffer kept call. followed p t _ _ (byte_stepped p profile s t kept b bad room r buffer call);
          sample = λ s t z stable room r buffer kept call. followed p t _ _ (sample_stepped p profile s t kept z stable room r buffer call);
        }

    pub each_call : OverCalls (λ p sent es. follows p start_tally es ≡ true)
    each_call = over_calls {X = Tally} {Inv = FollowsState} {accepted = follows} step start_tally start_followed
