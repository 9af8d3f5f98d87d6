-- One call's reaction against the record of waits: what is asked of its answer holds, and the record follows the state again.
-- Assumes nothing.
use Rattle.std.specs.Prelude.{Option, Some, None}
use mathlib.Core.Path.{◌≡◌, refl, sym, ap, ◌∙◌}
use mathlib.Core.Bool.{Bool, true, false, cond, not, ◌&&◌, ◌||◌, false≢true, true≢false}
use mathlib.Core.List.{List, [], ◌∷◌, map}
use Prim.Native.Nat.{ℕ, suc, ◌+◌, ◌<◌, ◌≤◌}
use native.Mathlib.Omega.{arith}
use borrow.Author.Tests.{eq-eqb, ne_eqb}
use Rattle.answer.specs.declared.answer.Answer.TheVariants as answers
use Rattle.answer.specs.declared.answer.Status.TheVariants.{I}
use Rattle.answer.specs.Lines.{head_text, line_of, head_of}
use Rattle.model.specs.declared.profile.Profile.{Profile}
use Rattle.model.specs.declared.react.Reaction.{Reaction}
use Rattle.model.specs.declared.state.Pending.{Pending}
use Rattle.model.specs.declared.state.Pending.TheVariants.{Weigh, Zero, Tare, Change}
use Rattle.model.specs.declared.state.State.{State}
use Rattle.weight.specs.declared.loads.Load.{Load}
use Rattle.device.specs.Calls.{answer_bytes}
use Rattle.model.specs.Groups.{with_line, with_sending, with_waiting, reaction, not_waiting}
use Rattle.waiting.specs.Changes.{gone_outside, kept_inside, sent}
use Rattle.waiting.specs.Waits.{sampled_state, place_of_pending, settled_reaction, sample_reaction, settled_reaction_by}
use Rattle.commands.specs.Reactions.{situation_of}
use Rattle.commands.proofs.Ways.{change_cases, sample_cases}
use Rattle.model.specs.States.{is_pending, state_allowed}
use Rattle.weighing.specs.Weighings.{weighed}
use Rattle.line.specs.declared.judge.Verdict.{Verdict}
use Rattle.line.specs.declared.receive.Line.{Line}
use Rattle.line.specs.Unbounded.{Marked, byte_in, ends_unbounded, finished_line, judgement_of}
use Rattle.line.proofs.Kept.{Keeps}
use Rattle.line.proofs.Verdicts.{run_line, change_line}
use Rattle.model.proofs.StateFacts.{allowed_state}
use Rattle.history.specs.Tally.{Input, byte_is, sample_is, is_reset_line}
use Rattle.history.specs.Waits.{Waits, nothing, command, is_awaiting, is_empty, may_wait, identification_in, after_line, after_input, byte_holds, awaited_holds, input_holds}
use Rattle.history.proofs.SentAnswers.{is_silent, silent_empty}
use Rattle.history.proofs.Performing.{Performed, answered, dropped, begins, changes, awaited_by, awaited_of, awaiting_is, settled_sent, settled_own}
use Rattle.history.proofs.Verdicts.{resets, reset_test}

-- ---- the definitions, by whether a line ended

module _ (p : Profile) (w : Waits) (m : Marked) (l : List ℕ) where
  after_ended : ends_unbounded w.line m ≡ true → after_input w (byte_is m) l ≡ after_line w (finished_line w.line) l
  after_ended e = rw (e, after_input)

  after_joined : ends_unbounded w.line m ≡ false
      → after_input w (byte_is m) l ≡ record { line = m ∷ w.line; waiting = w.waiting; unstable = w.unstable }
  after_joined e = rw (e, after_input)

  holds_ended : ends_unbounded w.line m ≡ true
      → input_holds p w (byte_is m) l ≡ (not (is_empty l) || (not (is_awaiting w.waiting) && may_wait (finished_line w.line)))
  holds_ended e = rw (e, byte_holds)

  holds_joined : ends_unbounded w.line m ≡ false → input_holds p w (byte_is m) l ≡ is_empty l
  holds_joined e = rw (e, byte_holds)

-- where no command is pending, none is awaited
none_awaited : (q : Option Pending) → is_pending q ≡ false → awaited_of q ≡ nothing
none_awaited None e = refl
none_awaited (Some q) e = absurd (true≢false e)

nothing_stays : (b : Bool) → cond b nothing nothing ≡ nothing
nothing_stays true = refl
nothing_stays false = refl

-- the record of waits follows the state
pub record Follows (p : Profile) (s : State) (w : Waits) : Type 0 where
  pub allowed : state_allowed p s ≡ true
  pub line : Keeps s.line w.line
  pub waiting : w.waiting ≡ awaited_of s.waiting.pending
  pub counted : is_pending s.waiting.pending ≡ true → w.unstable ≡ s.waiting.unstable

-- a reaction x to the input i
pub record Reacts (p : Profile) (w : Waits) (i : Input) (x : Reaction) : Type 0 where
  pub holds : input_holds p w i (answer_bytes p x.answer) ≡ true
  pub next : Follows p x.state (after_input w i (answer_bytes p x.answer))

-- ---- a line ended

module _ (p : Profile) (s : State) (w : Waits) (m : Marked) (x : Reaction) (old : Follows p s w)
    (allowed : state_allowed p x.state ≡ true) (empty : Keeps x.state.line []) (ends : ends_unbounded w.line m ≡ true) where
  -- it was answered
  sent_reacts : is_silent x.answer ≡ false → cond (is_reset_line (finished_line w.line)) nothing w.waiting ≡ awaited_of x.state.waiting.pending
      → (is_pending x.state.waiting.pending ≡ true → w.unstable ≡ x.state.waiting.unstable) → Reacts p w (byte_is m) x
  sent_reacts sent waiting counted =
      let full : is_empty (answer_bytes p x.answer) ≡ false = silent_empty p x.answer ∙ sent in
      record {
        holds = rw (holds_ended p w m (answer_bytes p x.answer) ends, full);
        next =
            rw (after_ended p w m (answer_bytes p x.answer) ends)
            (record { allowed = allowed; line = empty; waiting = rw full waiting; counted = rw full counted });
      }

  -- it was S, T, Z or SR, and waits from now on
  begins_reacts : (pending : Pending)
      → is_reset_line (finished_line w.line) ≡ false
      → is_silent x.answer ≡ true
      → is_pending s.waiting.pending ≡ false
      → may_wait (finished_line w.line) ≡ true
      → awaited_by pending ≡ command (identification_in (map byte_in (finished_line w.line)))
      → x.state.waiting ≡ record { pending = Some pending; unstable = 0 }
      → Reacts p w (byte_is m) x
  begins_reacts pending noreset silent free may waits now =
      let none : is_empty (answer_bytes p x.answer) ≡ true = silent_empty p x.answer ∙ silent in
      let before : w.waiting ≡ nothing = old.waiting ∙ none_awaited s.waiting.pending free in
      record {
        holds = rw (holds_ended p w m (answer_bytes p x.answer) ends, none, before, may);
        next =
            rw (after_ended p w m (answer_bytes p x.answer) ends)
            (record {
              allowed = allowed;
              line = empty;
              waiting = rw (noreset, none, now) (sym waits);
              counted = rw (none, now) (λ e. refl);
            });
      }

  -- the verdict tells whether it was @
  is_reset_lem : (v : Verdict)
      → v ≡ judgement_of (situation_of p s) (finished_line w.line)
      → is_reset_line (finished_line w.line) ≡ resets v
  is_reset_lem v e =
      sym (reset_test (situation_of p s) (finished_line w.line)) ∙ ap resets (sym e)

  -- by the verdict
  pub ended_reacts : (v : Verdict)
      → v ≡ judgement_of (situation_of p s) (finished_line w.line)
      → (t : State)
      → t.waiting ≡ s.waiting
      → Performed t v x
      → Reacts p w (byte_is m) x
  ended_reacts v e t same (answered noreset sent kept line) =
      let other = is_reset_lem v e ∙ noreset in
      let wait : x.state.waiting ≡ s.waiting = kept ∙ same in
      sent_reacts sent (rw (other, wait) old.waiting) (rw wait old.counted)
  ended_reacts v e t same (dropped reset sent none line) =
      sent_reacts sent (rw (is_reset_lem v e ∙ reset, none)) (rw none (λ f. absurd (false≢true f)))
  ended_reacts v e t same (begins c pending runs named waits silent now line) =
      let was = run_line (situation_of p s) (finished_line w.line) (sym e ∙ runs) in
      begins_reacts pending
      (is_reset_lem v e ∙ ap resets runs)
      silent
      was.free
      (rw (was.line.good, was.line.bytes) named)
      (rw was.line.bytes waits)
      now
  ended_reacts v e t same (changes threshold runs silent now line) =
      let was = change_line (situation_of p s) (finished_line w.line) (sym e ∙ runs) in
      begins_reacts Change
      (is_reset_lem v e ∙ ap resets runs)
      silent
      was.free
      (rw (was.line.good, was.line.bytes))
      (rw was.line.bytes)
      now

-- ---- a byte that ends no line

pub joined_reacts : (p : Profile) (s : State) (w : Waits) (m : Marked) (l : Line) → Follows p s w → state_allowed p (with_line s l) ≡ true
    → ends_unbounded w.line m ≡ false → Keeps l (m ∷ w.line) → Reacts p w (byte_is m) (reaction (with_line s l) answers.Nothing)
unfolding answer_bytes line_of
joined_reacts p s w m l old allowed on keeps =
    record {
      holds = holds_joined p w m (answer_bytes p answers.Nothing) on;
      next =
          rw (after_joined p w m (answer_bytes p answers.Nothing) on)
          (record { allowed = allowed; line = keeps; waiting = old.waiting; counted = old.counted });
    }

-- ---- a sample

-- the W-th unstable sample: S I, T I or Z I, as the command is that waits; S I for SR
timeout_answer : (p : Profile) (n : ℕ) (pending : Pending) → suc n ≡ p.timeout
    → awaited_holds p n (awaited_by pending) false (answer_bytes p (answers.Plain (head_of (place_of_pending pending) I))) ≡ true
unfolding answer_bytes line_of head_text
timeout_answer p n Weigh e = rw (eq-eqb (suc n) p.timeout e)
timeout_answer p n Zero e = rw (eq-eqb (suc n) p.timeout e)
timeout_answer p n Tare e = rw (eq-eqb (suc n) p.timeout e)
timeout_answer p n Change e = rw (eq-eqb (suc n) p.timeout e)

-- one before it: no answer
counted_answer : (p : Profile) (n : ℕ) (pending : Pending) → (suc n ≡ p.timeout → ⊥)
    → awaited_holds p n (awaited_by pending) false (answer_bytes p answers.Nothing) ≡ true
unfolding answer_bytes line_of
counted_answer p n Weigh e = rw (ne_eqb (suc n) p.timeout e)
counted_answer p n Zero e = rw (ne_eqb (suc n) p.timeout e)
counted_answer p n Tare e = rw (ne_eqb (suc n) p.timeout e)
counted_answer p n Change e = rw (ne_eqb (suc n) p.timeout e)

timeout_full : (p : Profile) (c : ℕ) → is_empty (answer_bytes p (answers.Plain (head_of c I))) ≡ false
timeout_full p c = silent_empty p (answers.Plain (head_of c I))

module _ (p : Profile) (s : State) (w : Waits) (z : Load) (stable : Bool) (old : Follows p s w) where
  -- no command waited
  free_reacts : (x : Reaction) → is_pending s.waiting.pending ≡ false → x.state.waiting ≡ s.waiting → x.state.line ≡ s.line
      → state_allowed p x.state ≡ true → Reacts p w (sample_is z.0 stable) x
  free_reacts x free same line allowed =
      let none : w.waiting ≡ nothing = old.waiting ∙ none_awaited s.waiting.pending free in
      record {
        holds = rw none;
        next =
            record {
              allowed = allowed;
              line = rw line old.line;
              waiting = rw (none, same, none_awaited s.waiting.pending free, nothing_stays (is_empty (answer_bytes p x.answer)));
              counted = rw (none, same) old.counted;
            };
      }

  module _ (q : Pending) (waits : s.waiting.pending ≡ Some q) where
    pending : is_pending s.waiting.pending ≡ true
    pending = ap is_pending waits

    awaited : w.waiting ≡ awaited_by q
    awaited = old.waiting ∙ ap awaited_of waits

    before : is_awaiting w.waiting ≡ true
    before = ap is_awaiting old.waiting ∙ awaiting_is s.waiting.pending ∙ pending

    -- a stable sample is answered, and the wait is over
    stable_reacts : (x : Reaction) → stable ≡ true → is_silent x.answer ≡ false
        → awaited_holds p w.unstable (awaited_by q) true (answer_bytes p x.answer) ≡ true
        → x.state.waiting ≡ not_waiting → x.state.line ≡ s.line
        → state_allowed p x.state ≡ true → Reacts p w (sample_is z.0 stable) x
    stable_reacts x e sent own none line allowed =
        let full : is_empty (answer_bytes p x.answer) ≡ false = silent_empty p x.answer ∙ sent in
        record {
          holds = rw (awaited, e) own;
          next =
              record {
                allowed = allowed;
                line = rw line old.line;
                waiting = rw (full, none);
                counted = rw none (λ f. absurd (false≢true f));
              };
        }

    -- the W-th unstable one ends it with I
    last_reacts : (t : State) → stable ≡ false → t.line ≡ s.line → p.timeout ≤ s.waiting.unstable + 1
        → state_allowed p (with_waiting t not_waiting) ≡ true
        → Reacts p w (sample_is z.0 stable) (reaction (with_waiting t not_waiting) (answers.Plain (head_of (place_of_pending q) I)))
    last_reacts t e line most allowed =
        let count : suc w.unstable ≡ p.timeout = omega (arith, old.counted pending, (allowed_state p s old.allowed).waiting pending) in
        let full : is_empty (answer_bytes p (answers.Plain (head_of (place_of_pending q) I))) ≡ false =
        timeout_full p (place_of_pending q)
        in
        record {
          holds = rw (awaited, e) (timeout_answer p w.unstable q count);
          next =
              record {
                allowed = allowed;
                line = rw line old.line;
                waiting = rw full;
                counted = λ f. absurd (false≢true f);
              };
        }

    -- one before it is counted
    counted_reacts : (t : State) → stable ≡ false → t.line ≡ s.line → s.waiting.unstable + 1 < p.timeout
        → state_allowed p (with_waiting t (record { pending = Some q; unstable = s.waiting.unstable + 1 })) ≡ true
        → Reacts p w (sample_is z.0 stable)
        (reaction (with_waiting t (record { pending = Some q; unstable = s.waiting.unstable + 1 })) answers.Nothing)
    unfolding answer_bytes line_of
    counted_reacts t e line less allowed =
        let same : w.unstable ≡ s.waiting.unstable = old.counted pending in
        let not_last : suc w.unstable ≡ p.timeout → ⊥ = λ f. omega arith in
        record {
          holds = rw (awaited, e) (counted_answer p w.unstable q not_last);
          next =
              record {
                allowed = allowed;
                line = rw line old.line;
                waiting = awaited;
                counted = λ f. rw (before, e) (omega arith);
              };
        }

-- ---- the two reactions

-- a sample, if the state after it is allowed
pub sample_reacts : (p : Profile) (s : State) (w : Waits) (z : Load) (stable : Bool) → Follows p s w
    → state_allowed p (sample_reaction p s z stable).state ≡ true → Reacts p w (sample_is z.0 stable) (sample_reaction p s z stable)
unfolding settled_reaction_by
sample_reacts p s w z stable old =
    let t : State = sampled_state s z stable in
    sample_cases (λ x. state_allowed p x.state ≡ true → Reacts p w (sample_is z.0 stable) x) p s z stable
    (λ q waits e.
    stable_reacts p s w z stable old q waits (settled_reaction p (with_waiting t not_waiting) q) e
    (settled_sent p q t.weighing)
    (settled_own p w.unstable q t.weighing e)
    refl
    refl)
    (λ q waits e most. last_reacts p s w z stable old q waits t e refl most)
    (λ q waits e less. counted_reacts p s w z stable old q waits t e refl less)
    (λ free e. free_reacts p s w z stable old (reaction t answers.Nothing) free refl refl)
    (λ free e. free_reacts p s w z stable old (reaction t (weighed p t.weighing)) free refl refl)
    (λ free e.
    change_cases (λ x. state_allowed p x.state ≡ true → Reacts p w (sample_is z.0 stable) x) p t
    (λ out told. free_reacts p s w z stable old (reaction (with_sending t (gone_outside t.sending)) answers.Nothing) free refl refl)
    (λ out first. free_reacts p s w z stable old (reaction (with_sending t (gone_outside t.sending)) (weighed p t.weighing)) free refl refl)
    (λ inside due. free_reacts p s w z stable old (reaction (with_sending t (sent t.weighing t.sending)) (weighed p t.weighing)) free refl refl)
    (λ inside due. free_reacts p s w z stable old (reaction (with_sending t (kept_inside t.sending)) answers.Nothing) free refl refl))
