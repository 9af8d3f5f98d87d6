-- One law for each way that a new sample takes.
-- Assumes nothing.
use mathlib.Core.Path.{◌≡◌, refl, sym, ◌∙◌}
use Prim.Native.Nat.{◌+◌}
use mathlib.Core.Bool.{Bool, true, false, cond, not, ◌||◌, false≢true}
use lib.Dec.{leb}
use Rattle.std.specs.Prelude.{Option, Some, None}
use Rattle.answer.specs.declared.answer.Answer.TheVariants as answers
use Rattle.model.specs.declared.profile.Profile.{Profile}
use Rattle.model.specs.declared.react.Reaction.{Reaction}
use Rattle.model.specs.declared.sending.Mode.{Mode}
use Rattle.model.specs.declared.sending.Mode.TheVariants.{Off, EachSample, OnChange}
use Rattle.model.specs.declared.state.Pending.{Pending}
use Rattle.model.specs.declared.state.State.{State}
use Rattle.waiting.specs.Changes.{change_reaction, change_reaction_by, gone_outside, is_due, kept_inside, sent}
use Rattle.weighing.specs.Weighings.{is_outside, weighed}
use Rattle.weight.specs.declared.loads.Load.{Load}
use Rattle.model.specs.Groups.{chosen_reaction, not_waiting, reaction, with_sending, with_waiting}
use Rattle.waiting.specs.Parts.{attended_reaction, latest_reaction, with_groups_of}
use Rattle.waiting.specs.Waits.{by_pending, is_awaited, sample_reaction, sampled_state, settled_reaction, settled_reaction_by, unasked_as, waited}
use Rattle.model.specs.Sendings.{is_off}
use Rattle.model.specs.States.{is_pending}

none_left : (a b : Bool) → (a || b) ≡ false → a ≡ false
none_left false b e = refl
none_left true b e = e

none_right : (a b : Bool) → (a || b) ≡ false → b ≡ false
none_right false b e = e
none_right true b e = absurd (false≢true (sym e))

-- ---- it changes neither line nor display

record Keeps (s : State) (r : Reaction) : Type 0 where
  line : r.state.line ≡ s.line
  display : r.state.display ≡ s.display

either_keeps : (s : State) (b : Bool) (x y : Reaction) → Keeps s x → Keeps s y → Keeps s (chosen_reaction b x y)
either_keeps s true x y a b = a
either_keeps s false x y a b = b

settled_keeps : (p : Profile) (s : State) (pending : Pending) → Keeps s (settled_reaction p (with_waiting s not_waiting) pending)
unfolding settled_reaction_by
settled_keeps p s pending = record { line = refl; display = refl }

waited_keeps : (p : Profile) (s : State) (pending : Pending) → Keeps s (waited p s pending)
unfolding waited
waited_keeps p s pending =
    either_keeps s (leb p.timeout (s.waiting.unstable + 1)) _ _ (record { line = refl; display = refl }) (record { line = refl; display = refl })

changed_keeps : (p : Profile) (s : State) → Keeps s (change_reaction p s)
unfolding change_reaction_by
changed_keeps p s =
    let w = s.weighing in
    let c = s.sending in
    let due = reaction (with_sending s (sent w c)) (weighed p w) in
    let quiet = reaction (with_sending s (kept_inside c)) answers.Nothing in
    either_keeps s (is_outside p w)
    (reaction (with_sending s (gone_outside c)) (cond c.outside answers.Nothing (weighed p w)))
    (chosen_reaction (is_due p w c) due quiet)
    (record { line = refl; display = refl })
    (either_keeps s (is_due p w c) due quiet (record { line = refl; display = refl }) (record { line = refl; display = refl }))

unasked_keeps : (m : Mode) (p : Profile) (s : State) → Keeps s (unasked_as m p s)
unasked_keeps Off p s = record { line = refl; display = refl }
unasked_keeps EachSample p s = record { line = refl; display = refl }
unasked_keeps OnChange p s = changed_keeps p s

latest_keeps : (p : Profile) (s : State) → Keeps s (latest_reaction p s)
latest_keeps p s = by s.waiting.pending
  where
    by : (o : Option Pending) → Keeps s (by_pending o (attended_reaction p s) (unasked_as s.sending.mode p s))
    by None = unasked_keeps s.sending.mode p s
    by (Some q) =
        either_keeps s s.weighing.stable (settled_reaction p (with_waiting s not_waiting) q) (waited p s q) (settled_keeps p s q) (waited_keeps p s q)

rebuilt : (s : State) (r : Reaction) → r.state.line ≡ s.line → r.state.display ≡ s.display
    → reaction (with_groups_of s r.state) r.answer ≡ r
rebuilt s r line display = rw (← line, ← display)

latest_is : (p : Profile) (s : State) (load : Load) (stable : Bool) → latest_reaction p (sampled_state s load stable) ≡ sample_reaction p s load stable
unfolding sample_reaction
latest_is p s load stable = refl

pub sample_is_lem : (p : Profile) (s : State) (load : Load) (stable : Bool) {t u : State} {q r : Reaction}
    → t ≡ sampled_state s load stable → q ≡ latest_reaction p t → u ≡ with_groups_of s q.state → r ≡ reaction u q.answer
    → r ≡ sample_reaction p s load stable
sample_is_lem p s load stable t q u r =
    let after = sampled_state s load stable in
    let kept = latest_keeps p after in
    rw (r, u, q, t) (rebuilt s (latest_reaction p after) kept.line kept.display ∙ latest_is p s load stable)

off_is : (m : Mode) (p : Profile) (s : State) → not (is_off m) ≡ false → unasked_as m p s ≡ reaction s answers.Nothing
off_is Off p s e = refl
off_is EachSample p s e = absurd (false≢true (sym e))
off_is OnChange p s e = absurd (false≢true (sym e))

none_waits : (o : Option Pending) (f : Pending → Reaction) (r : Reaction) → is_pending o ≡ false → by_pending o f r ≡ r
none_waits None f r e = refl
none_waits (Some q) f r e = absurd (false≢true (sym e))

-- no command waits, and neither SIR nor SR runs
pub sample_unanswered : (p : Profile) (s : State) (load : Load) (stable : Bool) → is_awaited s ≡ false
    → sample_reaction p s load stable ≡ reaction (sampled_state s load stable) answers.Nothing
unfolding sample_reaction
sample_unanswered p s load stable e =
    let waits = is_pending s.waiting.pending in
    let runs = not (is_off s.sending.mode) in
    none_waits s.waiting.pending _ _ (none_left waits runs e) ∙ off_is s.sending.mode p (sampled_state s load stable) (none_right waits runs e)
