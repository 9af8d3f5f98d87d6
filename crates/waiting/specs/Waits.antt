-- Document 01, "What each command does": waiting for a stable sample, and what a sample makes of the state, with its answer. SR is
-- document 02's.
-- Assumes nothing.
use Rattle.std.specs.Prelude.{ℕ, ◌+◌, Bool, not, ◌&&◌, ◌||◌, leb, Option, Some, None}
use Rattle.answer.specs.Commands.{place_s, place_t, place_z}
use Rattle.answer.specs.declared.answer.Answer.TheVariants.{Plain}
use Rattle.answer.specs.declared.answer.Answer.TheVariants as answers
use Rattle.answer.specs.declared.answer.Status.TheVariants.{A, I}
use Rattle.model.specs.declared.profile.Profile.{Profile}
use Rattle.model.specs.declared.profile.Scale.{Scale}
use Rattle.model.specs.declared.state.Pending.{Pending}
use Rattle.model.specs.declared.sending.Mode.{Mode}
use Rattle.model.specs.declared.sending.Mode.TheVariants.{Off, EachSample, OnChange}
use Rattle.model.specs.declared.sending.Sending.{Sending}
use Rattle.model.specs.declared.state.Pending.TheVariants.{Weigh, Zero, Tare, Change}
use Rattle.model.specs.declared.state.State.{State}
use Rattle.weight.specs.declared.loads.Load.{Load}
use Rattle.model.specs.declared.weighing.Weighing.{Weighing}
use Rattle.model.specs.Groups.{with_weighing, with_waiting, with_sending, reaction, chosen_reaction, not_waiting}
use Rattle.model.specs.Sendings.{is_off}
use Rattle.model.specs.Profiles.{scale_of}
use Rattle.model.specs.States.{is_pending}
use Rattle.model.specs.declared.react.Reaction.{Reaction}
use Rattle.weighing.specs.declared.weighing.Measured.{Measured}
use Rattle.answer.specs.Lines.{head_of}
use Rattle.waiting.specs.Changes.{started_by, change_reaction}
use Rattle.weighing.specs.Weighings.{weighed, weighed_by, with_sample, zeroed_by, tared_by}

-- the weighing that a command made, and its answer
abbrev pub measured_reaction : State → Measured → Reaction
measured_reaction s m = reaction (with_weighing s m.weighing) m.answer

-- ---- S, Z, T and SR: judged at a stable sample, and else waiting

-- the identification of what waits; that of SR is S
abbrev pub place_of_pending : Pending → ℕ
place_of_pending Weigh = place_s
place_of_pending Zero = place_z
place_of_pending Tare = place_t
place_of_pending Change = place_s

-- what a waiting command makes of a stable sample
abbrev pub settled_by : Scale → Pending → Weighing → Measured
settled_by k Weigh w = record { weighing = w; answer = weighed_by k w }
settled_by k Zero w = zeroed_by k w place_z A
settled_by k Tare w = tared_by k w place_t
settled_by k Change w = record { weighing = w; answer = weighed_by k w }

abbrev pub settled : Profile → Pending → Weighing → Measured
settled p pending w = settled_by (scale_of p w) pending w

-- SR runs from then on
abbrev pub sending_by : Scale → Pending → Weighing → Sending → Sending
sending_by k Weigh w c = c
sending_by k Zero w c = c
sending_by k Tare w c = c
sending_by k Change w c = started_by k w c

abbrev pub sending_of : Profile → Pending → Weighing → Sending → Sending
sending_of p pending w c = sending_by (scale_of p w) pending w c

-- at the latest sample of a state
unfoldable pub settled_reaction_by : Scale → State → Pending → Reaction
settled_reaction_by k s pending =
    measured_reaction (with_sending s (sending_by k pending s.weighing s.sending)) (settled_by k pending s.weighing)

abbrev pub settled_reaction : Profile → State → Pending → Reaction
settled_reaction p s pending = settled_reaction_by (scale_of p s.weighing) s pending

-- judge the latest sample if it is stable, and otherwise wait
unfoldable pub begun_by : Scale → State → Pending → Reaction
begun_by k s pending =
    chosen_reaction (s.weighing.sampled && s.weighing.stable)
    (settled_reaction_by k s pending)
    (reaction (with_waiting s (record { pending = Some pending; unstable = 0 })) answers.Nothing)

-- the same where no command is named, which has no answer
abbrev pub begun_of : Scale → State → Option Pending → Reaction
begun_of k s None =
    chosen_reaction (s.weighing.sampled && s.weighing.stable) (reaction s answers.Nothing) (reaction (with_waiting s not_waiting) answers.Nothing)
begun_of k s (Some pending) = begun_by k s pending

abbrev pub begun : Profile → State → Pending → Reaction
begun p s pending = begun_by (scale_of p s.weighing) s pending

-- one more unstable sample while a command waits: the W-th ends the wait with I
unfoldable pub waited : Profile → State → Pending → Reaction
waited p s pending =
    let n = s.waiting.unstable + 1 in
    chosen_reaction (leb p.timeout n)
    (reaction (with_waiting s not_waiting) (Plain (head_of (place_of_pending pending) I)))
    (reaction (with_waiting s (record { pending = Some pending; unstable = n })) answers.Nothing)

-- ---- a sample

-- a sample may be answered
abbrev pub is_awaited : State → Bool
is_awaited s = is_pending s.waiting.pending || not (is_off s.sending.mode)

-- the sample is the latest
abbrev pub sampled_state : State → Load → Bool → State
sampled_state s load stable = with_weighing s (with_sample s.weighing load stable)

-- what is sent of the latest sample without being asked for: nothing, the SI answer while a repetition runs, or as SR says
abbrev pub unasked_as : Mode → Profile → State → Reaction
unasked_as Off p s = reaction s answers.Nothing
unasked_as EachSample p s = reaction s (weighed p s.weighing)
unasked_as OnChange p s = change_reaction p s

-- by the command that waits, if one does
abbrev pub by_pending : Option Pending → (Pending → Reaction) → Reaction → Reaction
by_pending None f r = r
by_pending (Some q) f r = f q

-- a sample that finds a command waiting gives only that command's answer, if any
unfoldable pub sample_reaction : Profile → State → Load → Bool → Reaction
sample_reaction p s load stable =
    let t = sampled_state s load stable in
    by_pending s.waiting.pending
    (λ q. chosen_reaction stable (settled_reaction p (with_waiting t not_waiting) q) (waited p t q))
    (unasked_as s.sending.mode p t)
