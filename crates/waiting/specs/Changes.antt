-- Document 02, No. 1 (SR, which sends on change): how it starts, and what it makes of a sample, with its answer.
-- Assumes nothing.
use Rattle.std.specs.Prelude.{ℕ, Bool, true, false, cond, not}
use Rattle.answer.specs.declared.answer.Answer.TheVariants.{Nothing}
use Rattle.model.specs.declared.profile.Profile.{Profile}
use Rattle.model.specs.declared.profile.Scale.{Scale}
use Rattle.model.specs.Profiles.{scale_of}
use Rattle.model.specs.declared.react.Reaction.{Reaction}
use Rattle.model.specs.declared.sending.Mode.TheVariants.{Off, OnChange}
use Rattle.model.specs.declared.sending.Sending.{Sending}
use Rattle.model.specs.declared.state.State.{State}
use Rattle.model.specs.declared.weighing.Weighing.{Weighing}
use Rattle.model.specs.Groups.{with_sending, reaction, chosen_reaction}
use Rattle.weighing.specs.Weighings.{outside_by, net_of, weighed_by}
use Rattle.weight.specs.Changes.{has_moved}

abbrev pub chosen_sending : Bool → Sending → Sending → Sending
chosen_sending true a b = a
chosen_sending false a b = b

-- SR comes with this threshold, 0 for none: what was sent before is over
abbrev pub with_threshold : Sending → ℕ → Sending
with_threshold c t = record { last = c.last; threshold = record { 0 = t }; mode = Off; owed = c.owed; outside = c.outside }

-- its first answer: after S S it runs, with that net as the last one; after + or - it stays off
abbrev pub started_by : Scale → Weighing → Sending → Sending
started_by k w c =
    chosen_sending (outside_by k w) c
    (record { last = record { 0 = net_of w }; threshold = c.threshold; mode = OnChange; owed = false; outside = false })

abbrev pub started : Profile → Weighing → Sending → Sending
started p w c = started_by (scale_of p w) w c

-- ---- a sample while SR runs

-- out of range
abbrev pub gone_outside : Sending → Sending
gone_outside c = record { last = c.last; threshold = c.threshold; mode = c.mode; owed = c.owed; outside = true }

-- back in range, or still there
abbrev pub kept_inside : Sending → Sending
kept_inside c = record { last = c.last; threshold = c.threshold; mode = c.mode; owed = c.owed; outside = false }

-- the weight is sent: a stable one becomes the last net, and after one that is not S S is owed
abbrev pub sent : Weighing → Sending → Sending
sent w c =
    record { last = record { 0 = cond w.stable (net_of w) c.last.0 }; threshold = c.threshold; mode = c.mode; owed = not w.stable; outside = false }

-- owed, the next stable net is sent; else one that differs from the last by the threshold or more
abbrev pub is_due_by : Scale → Weighing → Sending → Bool
is_due_by k w c = cond c.owed w.stable (has_moved k.resolution c.threshold.0 c.last.0 (net_of w))

abbrev pub is_due : Profile → Weighing → Sending → Bool
is_due p w c = is_due_by (scale_of p w) w c

-- out of range + or - is sent once, until back in range; in range S S or S D where it is due
unfoldable pub change_reaction_by : Scale → State → Reaction
change_reaction_by k s =
    let w = s.weighing in
    let c = s.sending in
    chosen_reaction (outside_by k w)
    (reaction (with_sending s (gone_outside c)) (cond c.outside Nothing (weighed_by k w)))
    (chosen_reaction (is_due_by k w c)
    (reaction (with_sending s (sent w c)) (weighed_by k w))
    (reaction (with_sending s (kept_inside c)) Nothing))

abbrev pub change_reaction : Profile → State → Reaction
change_reaction p s = change_reaction_by (scale_of p s.weighing) s
