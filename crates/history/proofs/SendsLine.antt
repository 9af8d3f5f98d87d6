-- What a finished line does to what is sent unasked: the follower of SR goes with the state.
-- Assumes nothing.
use Rattle.std.specs.Prelude.{Option, Some, None}
use mathlib.Core.Path.{◌≡◌, refl, sym, ap, ◌∙◌}
use mathlib.Core.Bool.{Bool, true, false, cond, ◌&&◌, ◌||◌, and-false, or-false, false≢true}
use mathlib.Core.List.{List, ◌++◌, map}
use Prim.Native.Nat.{ℕ}
use borrow.Author.Tests.{eqb-true}
use lib.IntN.{pos}
use Rattle.answer.specs.declared.answer.Answer.TheVariants as answers
use Rattle.answer.specs.declared.answer.Status.TheVariants.{A}
use Rattle.answer.specs.Commands.{name_of, is_si, is_sir, place_s, place_si, place_sir, place_sr, place_t, place_tac, place_ti, place_z, place_zi, place_i4}
use Rattle.answer.specs.Lines.{head_of}
use Rattle.commands.specs.Reactions.{changing, identification_of, performed, reset_state, run, sending_as, showing_weight, situation_of, unit_told}
use Rattle.commands.proofs.Ways.{by_choice, run_cases}
use Rattle.device.specs.Calls.{answer_bytes}
use Rattle.line.specs.declared.judge.Verdict.{Verdict}
use Rattle.line.specs.declared.judge.Verdict.TheVariants.{Erroneous, Reset, Busy, Wrong, NoSample, Run, Preset, Show, Select}
use Rattle.line.specs.declared.judge.Verdict.TheVariants as verdicts
use Rattle.line.specs.declared.receive.Line.{Line}
use Rattle.line.specs.Unbounded.{Marked, byte_in, judgement_of}
use Rattle.line.proofs.Proper.{Ruled}
use Rattle.line.proofs.Verdicts.{ChangeLine, change_line, parameter_in, run_line}
use Rattle.model.specs.declared.profile.Profile.{Profile}
use Rattle.model.specs.declared.react.Reaction.{Reaction}
use Rattle.model.specs.declared.sending.Mode.{Mode}
use Rattle.model.specs.declared.sending.Mode.TheVariants.{Off, EachSample, OnChange}
use Rattle.model.specs.declared.sending.Sending.{Sending}
use Rattle.model.specs.declared.state.Pending.{Pending}
use Rattle.model.specs.declared.state.Pending.TheVariants.{Weigh, Zero, Tare, Change}
use Rattle.model.specs.declared.state.State.{State}
use Rattle.model.specs.declared.weighing.Weighing.{Weighing}
use Rattle.model.specs.Groups.{reaction, with_mode, with_weighing}
use Rattle.model.specs.Profiles.{resolution_in, scale_of}
use Rattle.model.specs.States.{is_change, is_pending}
use Rattle.text.specs.Ascii.{ascii, same_text}
use Rattle.text.specs.Searching.{before_space, has_space}
use Rattle.waiting.specs.Changes.{chosen_sending, started, with_threshold}
use Rattle.waiting.specs.Waits.{begun, measured_reaction, settled_reaction, begun_by, settled_reaction_by}
use Rattle.weighing.specs.Weighings.{is_outside, net_of, number_in, resolution_by, stability, tare_answer, tared, weighed, with_tare, zeroed}
use Rattle.weight.proofs.Allowed.{both_left, both_right}
use Rattle.weight.specs.declared.changes.Threshold.{Threshold}
use Rattle.weight.specs.declared.rounding.Resolution.{Resolution}
use Rattle.weight.specs.declared.units.WeightUnit.{WeightUnit}
use Rattle.history.specs.OnChange.{Sends, off, always, asked, running, net_in, name_in, is_carried_out, threshold_in, started_by, sends_after_line}
use Rattle.history.specs.Tally.{Tally, in_force, is_reset_line}
use Rattle.history.specs.Waits.{is_empty}
use Rattle.history.proofs.Following.{Follows, same_in_force}
use Rattle.history.proofs.SentAnswers.{silent_empty}
use Rattle.history.proofs.SentHeads.{net_in_lem, heads, error_uncarried, list_uncarried, versions_uncarried, unit_uncarried, selected_uncarried, shown_uncarried, weight_shown_uncarried, cleared_uncarried, told_uncarried, unready_uncarried, wrong_uncarried, text_uncarried, zeroed_uncarried, tared_uncarried}
use Rattle.history.proofs.Verdicts.{verdict_says}

-- ---- what is sent unasked, as the follower has it

abbrev pub sends_by : Mode → Sending → Sends
sends_by Off c = off
sends_by EachSample c = always
sends_by OnChange c = running (record { last = c.last.0; threshold = c.threshold.0; owed = c.owed; outside = c.outside })

abbrev pub sends_of : Option Pending → Sending → Sends
sends_of None c = sends_by c.mode c
sends_of (Some Weigh) c = sends_by c.mode c
sends_of (Some Zero) c = sends_by c.mode c
sends_of (Some Tare) c = sends_by c.mode c
sends_of (Some Change) c = asked c.threshold.0

-- the follower goes with the state; while SR waits nothing else is sent
pub record Follow (s : State) (x : Sends) : Type 0 where
  pub sends : x ≡ sends_of s.waiting.pending s.sending
  pub idle : is_change s.waiting.pending ≡ true → s.sending.mode ≡ Off

-- no command waits
pub free_sends : (q : Option Pending) (c : Sending) → is_pending q ≡ false → sends_of q c ≡ sends_by c.mode c
free_sends None c e = refl
free_sends (Some q) c e = absurd (false≢true (sym e))

pub free_idle : {A : Type 0} (q : Option Pending) → is_pending q ≡ false → is_change q ≡ true → A
free_idle None e c = absurd (false≢true c)
free_idle (Some q) e c = absurd (false≢true (sym e))

-- SR's first answer
module _ (p : Profile) (w : Weighing) (c : Sending) (t : Tally) (off-before : c.mode ≡ Off) (stable : w.stable ≡ true) (net : net_in t ≡ net_of w) where
  started_by_lem : (out : Bool) → is_outside p w ≡ out
      → started_by t c.threshold.0 (answer_bytes p (weighed p w))
      ≡ (let d = chosen_sending out c (record { last = record { 0 = net_of w }; threshold = c.threshold; mode = OnChange; owed = false; outside = false }) in sends_by d.mode d)
  started_by_lem true e = rw ((heads p w).stands, e, off-before)
  started_by_lem false e = rw ((heads p w).stands, e, stable, net)

  pub started_sends : started_by t c.threshold.0 (answer_bytes p (weighed p w)) ≡ sends_by (started p w c).mode (started p w c)
  started_sends = started_by_lem (is_outside p w) refl

-- ---- the line, by its name

module _ (p : Profile) (t : Tally) (f : List Marked) (l : List ℕ) (x : Sends) where
  line_reset : is_reset_line f ≡ true → sends_after_line p t f l x ≡ off
  unfolding sends_after_line
  line_reset e = rw e

  module _ (other : is_reset_line f ≡ false) where
    line_kept : is_carried_out l ≡ false → sends_after_line p t f l x ≡ x
    unfolding sends_after_line
    line_kept e = rw (other, e)

    -- none of S, SI, SIR and SR
    line_other : (n : List ℕ) → name_in f ≡ n → same_text n (ascii "S") ≡ false → same_text n (ascii "SI") ≡ false → same_text n (ascii "SIR") ≡ false
        → same_text n (ascii "SR") ≡ false → sends_after_line p t f l x ≡ x
    unfolding sends_after_line
    line_other n name a b c d = rw (other, name, a, b, c, d, and-false (is_carried_out l))

    module _ (carried : is_carried_out l ≡ true) where
      line_ends : name_in f ≡ ascii "S" → sends_after_line p t f l x ≡ off
      unfolding sends_after_line
      line_ends name = rw (other, name, carried)

      line_ends_now : name_in f ≡ ascii "SI" → sends_after_line p t f l x ≡ off
      unfolding sends_after_line
      line_ends_now name = rw (other, name, carried)

      line_repeats : name_in f ≡ ascii "SIR" → sends_after_line p t f l x ≡ always
      unfolding sends_after_line
      line_repeats name = rw (other, name, carried)

      line_changes : (threshold : ℕ) → name_in f ≡ ascii "SR" → threshold_in (in_force p t).unit (map byte_in f) ≡ threshold
          → sends_after_line p t f l x ≡ cond (is_empty l) (asked threshold) (started_by t threshold l)
      unfolding sends_after_line
      line_changes threshold name typed = rw (other, name, carried, typed)

-- ---- a reaction to a line

nothing_empty : (p : Profile) → is_empty (answer_bytes p answers.Nothing) ≡ true
nothing_empty p = silent_empty p answers.Nothing

nothing_carried : (p : Profile) → is_carried_out (answer_bytes p answers.Nothing) ≡ true
nothing_carried p = rw (nothing_empty p)

module _ (p : Profile) (s : State) (f : List Marked) (other : is_reset_line f ≡ false) (x : Sends) (old : Follow s x) where
  abbrev SentOf : Reaction → Type 0
  SentOf r = (t : Tally) → Follows r.state.weighing t → Follow r.state (sends_after_line p t f (answer_bytes p r.answer) x)

  -- what is not carried out at order 8, or has nothing to do with it, moves nothing
  kept_sent : (r : Reaction) → r.state.waiting ≡ s.waiting → r.state.sending ≡ s.sending → is_carried_out (answer_bytes p r.answer) ≡ false → SentOf r
  kept_sent r w c e t g =
      record { sends = line_kept p t f (answer_bytes p r.answer) x other e ∙ rw (w, c) old.sends; idle = rw (w, c) old.idle }

  module _ (free : is_pending s.waiting.pending ≡ false) where
    -- T and Z
    begun_kept : (q : Pending) (n : List ℕ) → sends_of (Some q) s.sending ≡ sends_by s.sending.mode s.sending → is_change (Some q) ≡ false
        → (settled_reaction p s q).state.sending ≡ s.sending
        → name_in f ≡ n → same_text n (ascii "S") ≡ false → same_text n (ascii "SI") ≡ false → same_text n (ascii "SIR") ≡ false → same_text n (ascii "SR") ≡ false
        → SentOf (begun p s q)
    unfolding begun_by settled_reaction_by
    begun_kept q n by unlike same name a b c d =
        let before : x ≡ sends_by s.sending.mode s.sending = old.sends ∙ free_sends s.waiting.pending s.sending free in
        by_choice SentOf (s.weighing.sampled && s.weighing.stable)
        (λ e t g.
        record {
          sends = line_other p t f _ x other n name a b c d ∙ rw same old.sends;
          idle = λ h. free_idle s.waiting.pending free h;
        })
        (λ e t g.
        record { sends = line_other p t f _ x other n name a b c d ∙ before ∙ sym by; idle = λ h. absurd (false≢true (sym unlike ∙ h)) })

    -- S
    begun_ended : name_in f ≡ ascii "S" → SentOf (begun p (sending_as s Off) Weigh)
    unfolding begun_by settled_reaction_by
    begun_ended name =
        by_choice SentOf (s.weighing.sampled && s.weighing.stable)
        (λ e t g.
        record {
          sends = line_ends p t f (answer_bytes p (weighed p s.weighing)) x other (heads p s.weighing).carried name
              ∙ sym (free_sends s.waiting.pending (with_mode s.sending Off) free);
          idle = λ h. refl;
        })
        (λ e t g. record { sends = line_ends p t f (answer_bytes p answers.Nothing) x other (nothing_carried p) name; idle = λ h. refl })

    -- SR with this threshold
    change_sent : (threshold : ℕ) → name_in f ≡ ascii "SR" → threshold_in (resolution_in p s.weighing).unit (map byte_in f) ≡ threshold
        → SentOf (changing p s threshold)
    unfolding changing begun_by settled_reaction_by
    change_sent threshold name typed =
        let c : Sending = with_threshold s.sending threshold in
        let read : (t : Tally) → Follows s.weighing t → threshold_in (in_force p t).unit (map byte_in f) ≡ threshold =
        λ t g. ap (λ (r : Resolution). threshold_in r.unit (map byte_in f)) (sym (same_in_force p s.weighing t g)) ∙ typed in
        by_choice SentOf (s.weighing.sampled && s.weighing.stable)
        (λ e t g.
        let l = answer_bytes p (weighed p s.weighing) in
        let sampled = both_left s.weighing.sampled s.weighing.stable e in
        let stable = both_right s.weighing.sampled s.weighing.stable e in
        record {
          sends = line_changes p t f l x other (heads p s.weighing).carried threshold name (read t g)
              ∙ rw (heads p s.weighing).full (started_sends p s.weighing c t refl stable (net_in_lem s.weighing t g sampled))
              ∙ sym (free_sends s.waiting.pending (started p s.weighing c) free);
          idle = λ h. free_idle s.waiting.pending free h;
        })
        (λ e t g.
        record {
          sends = line_changes p t f (answer_bytes p answers.Nothing) x other (nothing_carried p) threshold name (read t g) ∙ rw (nothing_empty p);
          idle = λ h. refl;
        })

-- a command that is run, whose line is its name alone
module _
    (p : Profile)
    (s : State)
    (f : List Marked)
    (other : is_reset_line f ≡ false)
    (x : Sends)
    (old : Follow s x)
    (free : is_pending s.waiting.pending ≡ false)
    (c : ℕ)
    (text : map byte_in f ≡ name_of c)
  where
    named : (k : ℕ) → c ≡ k → name_in f ≡ before_space (name_of k)
    named k is = ap before_space (text ∙ ap name_of is)

    -- SI and SIR
    now_by : (repeats : Bool) → is_sir c ≡ repeats → (is_si c || is_sir c) ≡ true
        → SentOf p s f other x old (reaction (sending_as s (cond repeats EachSample Off)) (weighed p s.weighing))
    now_by true e h t g =
        record {
          sends = line_repeats p t f (answer_bytes p (weighed p s.weighing)) x other (heads p s.weighing).carried (named place_sir (eqb-true c place_sir e))
              ∙ sym (free_sends s.waiting.pending (with_mode s.sending EachSample) free);
          idle = λ i. free_idle s.waiting.pending free i;
        }
    now_by false e h t g =
        let si : is_si c ≡ true = rw (e, or-false (is_si c)) at h in
        record {
          sends = line_ends_now p t f (answer_bytes p (weighed p s.weighing)) x other (heads p s.weighing).carried (named place_si (eqb-true c place_si si))
              ∙ sym (free_sends s.waiting.pending (with_mode s.sending Off) free);
          idle = λ i. free_idle s.waiting.pending free i;
        }

    alone : (u : WeightUnit) → c ≡ place_sr → threshold_in u (map byte_in f) ≡ 0
    alone u is = ap (threshold_in u) (text ∙ ap name_of is)

    run_sent : Ruled c → SentOf p s f other x old (run p s c)
    unfolding settled_reaction_by
    run_sent ruled =
        let keep = kept_sent p s f other x old in
        run_cases (SentOf p s f other x old) p s c ruled
        (keep (reaction s answers.CommandList) refl refl (list_uncarried p))
        (keep (reaction s answers.Versions) refl refl (versions_uncarried p))
        (λ has.
        keep (reaction s (answers.Text c)) refl refl
        (text_uncarried p c))
        (λ is. begun_ended p s f other x old free (named place_s is))
        (λ needs now. now_by (is_sir c) refl now)
        (λ is. begun_kept p s f other x old free Zero (ascii "Z") refl refl refl (named place_z is) refl refl refl refl)
        (λ needs.
        keep (measured_reaction s (zeroed p s.weighing place_zi (stability s.weighing))) refl refl (zeroed_uncarried p s.weighing))
        (keep (showing_weight s) refl refl (weight_shown_uncarried p))
        (λ is. change_sent p s f other x old free 0 (named place_sr is) (alone (resolution_in p s.weighing).unit is))
        (λ is. begun_kept p s f other x old free Tare (ascii "T") refl refl refl (named place_t is) refl refl refl refl)
        (λ needs. keep (measured_reaction s (tared p s.weighing place_ti)) refl refl (tared_uncarried p s.weighing))
        (keep (reaction (with_weighing s (with_tare s.weighing 0)) (answers.Plain (head_of place_tac A))) refl refl
        (cleared_uncarried p))
        (λ is.
        keep (reaction s (tare_answer (scale_of p s.weighing) s.weighing.tare.0)) refl refl
        (told_uncarried p (number_in (resolution_by (scale_of p s.weighing) (pos s.weighing.tare.0)) (pos s.weighing.tare.0))))
        (λ is. keep (unit_told s) refl refl (unit_uncarried p s.weighing.unit))

-- SR number unit
spaced_name : (q : List ℕ) → before_space (ascii "SR " ++ q) ≡ ascii "SR"
spaced_name q = refl

spaced : (q : List ℕ) → has_space (ascii "SR " ++ q) ≡ true
spaced q = refl

typed_threshold : (p : Profile) (s : State) (f : List Marked) (n : Threshold) → ChangeLine (situation_of p s) f n
    → threshold_in (resolution_in p s.weighing).unit (map byte_in f) ≡ n.0
typed_threshold p s f n line = rw (ap has_space line.line.bytes ∙ spaced (parameter_in f), line.number)

-- ---- a finished line, by its verdict

module _ (p : Profile) (s : State) (f : List Marked) (x : Sends) (old : Follow s x) where
  pub performed_sent : (l : Line) (v : Verdict) → judgement_of (situation_of p s) f ≡ v
      → (t : Tally) → Follows (performed p s l v).state.weighing t
      → Follow (performed p s l v).state (sends_after_line p t f (answer_bytes p (performed p s l v).answer) x)
  unfolding reset_state
  performed_sent l (Erroneous e) h =
      kept_sent p s f (verdict_says (situation_of p s) f (Erroneous e) h) x old (performed p s l (Erroneous e)) refl refl
      (error_uncarried p e)
  performed_sent l Reset h =
      λ t g. record { sends = line_reset p t f (answer_bytes p (answers.Text place_i4)) x (verdict_says (situation_of p s) f Reset h); idle = λ i. refl }
  performed_sent l (Busy c) h =
      kept_sent p s f (verdict_says (situation_of p s) f (Busy c) h) x old (performed p s l (Busy c)) refl refl
      (unready_uncarried p (identification_of c))
  performed_sent l (Wrong c) h =
      kept_sent p s f (verdict_says (situation_of p s) f (Wrong c) h) x old (performed p s l (Wrong c)) refl refl
      (wrong_uncarried p (identification_of c))
  performed_sent l (NoSample c) h =
      kept_sent p s f (verdict_says (situation_of p s) f (NoSample c) h) x old (performed p s l (NoSample c)) refl refl
      (unready_uncarried p (identification_of c))
  performed_sent l (Run c) h =
      let says = verdict_says (situation_of p s) f (Run c) h in
      run_sent p s f says.other x old (run_line (situation_of p s) f h).free c says.text says.may.ruled
  performed_sent l (Preset m) h =
      kept_sent p s f (verdict_says (situation_of p s) f (Preset m) h).other x old (performed p s l (Preset m)) refl refl
      (told_uncarried p (number_in (resolution_by (scale_of p s.weighing) (pos m.0)) (pos m.0)))
  performed_sent l (verdicts.Change n) h =
      let line = change_line (situation_of p s) f h in
      change_sent p s f (verdict_says (situation_of p s) f (verdicts.Change n) h) x old line.free n.0
      (ap before_space line.line.bytes ∙ spaced_name (parameter_in f))
      (typed_threshold p s f n line)
  performed_sent l (Show n) h =
      kept_sent p s f (verdict_says (situation_of p s) f (Show n) h) x old (performed p s l (Show n)) refl refl
      (shown_uncarried p)
  performed_sent l (Select u) h =
      kept_sent p s f (verdict_says (situation_of p s) f (Select u) h).other x old (performed p s l (Select u)) refl refl
      (selected_uncarried p)
