-- What a sample does to what is sent unasked, and what of it is sent: the follower of SR agrees, and goes with the state.
-- Assumes nothing.
use Rattle.std.specs.Prelude.{Some}
use mathlib.Core.Path.{◌≡◌, refl, sym, ap, ◌∙◌}
use mathlib.Core.Bool.{Bool, true, false, cond, not, ◌&&◌, ◌||◌, or-false, or-true, false≢true}
use mathlib.Core.List.{List}
use Prim.Native.Nat.{ℕ, ◌+◌}
use lib.IntN.{ℤ, pos, neg_ℤ}
use lib.Signed.{le_z, lt_z}
use Rattle.answer.specs.declared.answer.Answer.{Answer}
use Rattle.answer.specs.declared.answer.Answer.TheVariants as answers
use Rattle.answer.specs.declared.answer.Status.TheVariants.{I}
use Rattle.answer.specs.Lines.{head_text, line_of, head_of}
use Rattle.commands.proofs.Ways.{change_cases, sample_cases}
use Rattle.device.specs.Calls.{answer_bytes}
use Rattle.model.specs.declared.profile.Profile.{Profile}
use Rattle.model.specs.declared.react.Reaction.{Reaction}
use Rattle.model.specs.declared.sending.Mode.{Mode}
use Rattle.model.specs.declared.sending.Mode.TheVariants.{Off, EachSample, OnChange}
use Rattle.model.specs.declared.sending.Sending.{Sending}
use Rattle.model.specs.declared.state.Pending.{Pending}
use Rattle.model.specs.declared.state.Pending.TheVariants.{Weigh, Zero, Tare, Change}
use Rattle.model.specs.declared.state.State.{State}
use Rattle.model.specs.declared.weighing.Weighing.{Weighing}
use Rattle.model.specs.Groups.{not_waiting, reaction, with_sending, with_waiting}
use Rattle.model.specs.Profiles.{profile_allowed, resolution_in}
use Rattle.model.specs.States.{is_change, is_pending, state_allowed}
use Rattle.model.proofs.InForce.{allowed_in_force}
use Rattle.model.proofs.StateFacts.{allowed_state}
use Rattle.text.specs.Ascii.{ascii}
use Rattle.waiting.specs.Changes.{change_reaction, gone_outside, kept_inside, sent}
use Rattle.waiting.specs.Changes as device
use Rattle.waiting.specs.Waits.{place_of_pending, sampled_state, sending_of, settled, settled_reaction, sample_reaction, settled_reaction_by}
use Rattle.weighing.specs.Weighings.{gross_of, is_outside, net_of, weighed}
use Rattle.weighing.proofs.Reach.{net_within}
use Rattle.weight.specs.Rounding.{allowed_resolution, in_range}
use Rattle.weight.specs.declared.loads.Load.{Load}
use Rattle.weight.proofs.Allowed.{neither_left, neither_right, both_hold}
use Rattle.weight.proofs.Moves.{move_known}
use Rattle.history.specs.OnChange.{Running, Sends, off, always, running, net_in, is_over, is_under, after_awaited, after_sent, after_unasked, is_due, is_sent, unasked_holds, sends_after, sends_hold}
use Rattle.history.specs.Tally.{Tally, gross_in, in_force, sample_is, begins}
use Rattle.history.specs.Waits.{Waits, is_awaiting, is_empty}
use Rattle.history.proofs.DueWeights.{tare_range, within_range}
use Rattle.history.proofs.Following.{Follows, gross_is, same_in_force}
use Rattle.history.proofs.SendsLine.{sends_by, sends_of, Follow, free_sends, free_idle, started_sends}
use Rattle.history.proofs.SentAnswers.{silent_empty}
use Rattle.history.proofs.SentHeads.{net_in_lem, heads}

-- ---- a sample that finds a command waiting

-- it moves nothing of a repetition or of SR
awaited_same : (t : Tally) (l : List ℕ) (m : Mode) (c : Sending) → after_awaited t l (sends_by m c) ≡ sends_by m c
awaited_same t l Off c = refl
awaited_same t l EachSample c = refl
awaited_same t l OnChange c = refl

nothing_empty : (p : Profile) → is_empty (answer_bytes p answers.Nothing) ≡ true
nothing_empty p = silent_empty p answers.Nothing

module _ (p : Profile) (t : Tally) (c : Sending) where
  -- stable: the command is answered
  settled_after : (q : Pending) (w : Weighing) → (is_change (Some q) ≡ true → c.mode ≡ Off) → w.stable ≡ true
      → (is_change (Some q) ≡ true → net_in t ≡ net_of w)
      → after_awaited t (answer_bytes p (settled p q w).answer) (sends_of (Some q) c) ≡ sends_by (sending_of p q w c).mode (sending_of p q w c)
  settled_after Weigh w idle stable net = awaited_same t (answer_bytes p (settled p Weigh w).answer) c.mode c
  settled_after Zero w idle stable net = awaited_same t (answer_bytes p (settled p Zero w).answer) c.mode c
  settled_after Tare w idle stable net = awaited_same t (answer_bytes p (settled p Tare w).answer) c.mode c
  settled_after Change w idle stable net = rw (heads p w).full (started_sends p w c t (idle refl) stable (net refl))

  -- the W-th unstable one: SR is off
  timeout_after : (q : Pending) → (is_change (Some q) ≡ true → c.mode ≡ Off)
      → after_awaited t (answer_bytes p (answers.Plain (head_of (place_of_pending q) I))) (sends_of (Some q) c) ≡ sends_by c.mode c
  unfolding answer_bytes line_of head_text
  timeout_after Weigh idle = awaited_same t (answer_bytes p (answers.Plain (head_of (place_of_pending Weigh) I))) c.mode c
  timeout_after Zero idle = awaited_same t (answer_bytes p (answers.Plain (head_of (place_of_pending Zero) I))) c.mode c
  timeout_after Tare idle = awaited_same t (answer_bytes p (answers.Plain (head_of (place_of_pending Tare) I))) c.mode c
  timeout_after Change idle = rw (idle refl)

  -- one before it
  counted_after : (q : Pending) → after_awaited t (answer_bytes p answers.Nothing) (sends_of (Some q) c) ≡ sends_of (Some q) c
  counted_after Weigh = awaited_same t (answer_bytes p answers.Nothing) c.mode c
  counted_after Zero = awaited_same t (answer_bytes p answers.Nothing) c.mode c
  counted_after Tare = awaited_same t (answer_bytes p answers.Nothing) c.mode c
  counted_after Change = rw (nothing_empty p)

-- SR leaves the weighing alone
settled_same : (p : Profile) (q : Pending) (w : Weighing) → is_change (Some q) ≡ true → (settled p q w).weighing ≡ w
settled_same p Weigh w e = absurd (false≢true e)
settled_same p Zero w e = absurd (false≢true e)
settled_same p Tare w e = absurd (false≢true e)
settled_same p Change w e = refl

-- ---- a sample that finds none waiting, while SR runs

-- what SR keeps, as the follower has it
abbrev running_of : Sending → Running
running_of c = record { last = c.last.0; threshold = c.threshold.0; owed = c.owed; outside = c.outside }

-- t is the tally after the sample, w the weighing
module _ (p : Profile) (t : Tally) (w : Weighing) (gross : gross_in t ≡ gross_of w) (net : net_in t ≡ net_of w) (c : Sending) where
  out_is : (is_over p t || is_under p t) ≡ is_outside p w
  out_is = rw gross

  -- nothing is sent
  module _ (l : List ℕ) (empty : l ≡ answer_bytes p answers.Nothing) where
    silent : (begins (ascii "S S") l ≡ false) × (begins (ascii "S D") l ≡ false)
    unfolding answer_bytes line_of
    silent = rw empty (refl, refl)

    silent_after : (outside : Bool) → is_outside p w ≡ outside
        → after_sent p t l (running_of c) ≡ record { last = c.last.0; threshold = c.threshold.0; owed = c.owed; outside = outside }
    silent_after outside e = rw (silent.0, silent.1, or-false c.owed, out_is, e)

  -- out of range, told before
  told_holds : is_outside p w ≡ true → c.outside ≡ true → is_due p t w.stable (running_of c) ≡ false
  told_holds out told = rw (out_is, out, told)

  -- out of range, told now
  first_holds : is_outside p w ≡ true → c.outside ≡ false → is_due p t w.stable (running_of c) ≡ true
  first_holds out first = rw (out_is, out, first)

  first_after : is_outside p w ≡ true → after_sent p t (answer_bytes p (weighed p w)) (running_of c) ≡ running_of (gone_outside c)
  first_after out = rw ((heads p w).stands, (heads p w).swings, out_is, out, or-false c.owed)

  -- in range, due or not, as the device tests it
  module _ (inside : is_outside p w ≡ false) (known : (allowed_resolution (resolution_in p w) && in_range c.last.0 && in_range (net_of w)) ≡ true) where
    due_is : resolution_in p w ≡ in_force p t → is_due p t w.stable (running_of c) ≡ device.is_due p w c
    due_is same = rw (out_is, inside, net, ← same, ← (move_known (resolution_in p w) c.threshold.0 c.last.0 (net_of w) known))

    sent_by : (stable : Bool) → w.stable ≡ stable
        → after_sent p t (answer_bytes p (weighed p w)) (running_of c)
        ≡ record { last = cond stable (net_of w) c.last.0; threshold = c.threshold.0; owed = not stable; outside = false }
    sent_by true e = rw ((heads p w).stands, (heads p w).swings, out_is, inside, e, net)
    sent_by false e = rw ((heads p w).stands, (heads p w).swings, out_is, inside, e, or-true c.owed)

-- ---- the sample's reaction

-- what is asked of the answer holds, and the follower goes with the state; t is the tally after the call
pub record SampleSent (p : Profile) (w : Waits) (z : ℤ) (stable : Bool) (x : Sends) (r : Reaction) (t : Tally) : Type 0 where
  pub holds : sends_hold p w t (sample_is z stable) (answer_bytes p r.answer) x ≡ true
  pub follow : Follow r.state (sends_after p w t (sample_is z stable) (answer_bytes p r.answer) x)

module _
    (p : Profile)
    (s : State)
    (z : Load)
    (stable : Bool)
    (w : Waits)
    (awaits : is_awaiting w.waiting ≡ is_pending s.waiting.pending)
    (x : Sends)
    (old : Follow s x)
  where
    abbrev Sent : Reaction → Type 0
    Sent r = (t : Tally) → Follows r.state.weighing t → SampleSent p w z.0 stable x r t

    -- a command waits
    awaited_sent : (q : Pending) (r : Reaction) (t : Tally) → s.waiting.pending ≡ Some q
        → after_awaited t (answer_bytes p r.answer) (sends_of (Some q) s.sending) ≡ sends_of r.state.waiting.pending r.state.sending
        → (is_change r.state.waiting.pending ≡ true → r.state.sending.mode ≡ Off)
        → SampleSent p w z.0 stable x r t
    unfolding sends_hold sends_after
    awaited_sent q r t waits after idle =
        record { holds = rw (awaits, waits); follow = record { sends = rw (awaits, old.sends, waits) after; idle = idle } }

    idle_of : (q : Pending) → s.waiting.pending ≡ Some q → is_change (Some q) ≡ true → s.sending.mode ≡ Off
    idle_of q waits h = old.idle (ap is_change waits ∙ h)

    -- none waits
    module _ (free : is_pending s.waiting.pending ≡ false) where
      unasked_sent : (r : Reaction) (t : Tally) (y : Sends) → x ≡ y → r.state.waiting ≡ s.waiting
          → unasked_holds p t stable (answer_bytes p r.answer) y ≡ true
          → after_unasked p t (answer_bytes p r.answer) y ≡ sends_by r.state.sending.mode r.state.sending
          → SampleSent p w z.0 stable x r t
      unfolding sends_hold sends_after
      unasked_sent r t y is same holds after =
          record {
            holds = rw (awaits, free, is) holds;
            follow =
                record {
                  sends = rw (awaits, free, is, same) (after ∙ sym (free_sends s.waiting.pending r.state.sending free));
                  idle = rw same (λ h. free_idle s.waiting.pending free h);
                };
          }

      as_mode : (m : Mode) → s.sending.mode ≡ m → x ≡ sends_by m s.sending
      as_mode m e = old.sends ∙ free_sends s.waiting.pending s.sending free ∙ ap (λ (k : Mode). sends_by k s.sending) e

    module _ (profile : profile_allowed p ≡ true) (allowed : state_allowed p s ≡ true) (free : is_pending s.waiting.pending ≡ false) (runs : s.sending.mode ≡ OnChange) where
      abbrev after : State
      after = sampled_state s z stable

      -- the nets are such as the device compares
      known_nets : is_outside p after.weighing ≡ false
          → (allowed_resolution (resolution_in p after.weighing) && in_range s.sending.last.0 && in_range (net_of after.weighing)) ≡ true
      known_nets inside =
          let v = after.weighing in
          let over = lt_z (pos p.capacity) (gross_of v) in
          let under = lt_z (gross_of v) (neg_ℤ (pos p.underload)) in
          let net = net_within p (gross_of v) v.tare.0 (neither_left over under inside) (neither_right over under inside) (tare_range p s allowed) in
          rw (
            allowed_in_force p profile v,
            within_range p profile s.sending.last.0 ((allowed_state p s allowed).last (rw runs)),
            within_range p profile (net_of v) (both_hold (le_z (neg_ℤ (pos (p.underload + p.capacity))) (net_of v)) (le_z (net_of v) (pos p.capacity)) net.0 net.1),
          )

      -- what SR makes of it, where the follower agrees whether it is sent, and what is kept then
      as_running : (c : Sending) (a : Answer) (t : Tally) → c.mode ≡ s.sending.mode
          → cond (is_due p t stable (running_of s.sending)) (is_sent p t stable (answer_bytes p a)) (is_empty (answer_bytes p a)) ≡ true
          → after_sent p t (answer_bytes p a) (running_of s.sending) ≡ running_of c
          → SampleSent p w z.0 stable x (reaction (with_sending after c) a) t
      as_running c a t same holds kept =
          unasked_sent free (reaction (with_sending after c) a) t (running (running_of s.sending)) (as_mode free OnChange runs) refl holds
          (ap running kept ∙ ap (λ (m : Mode). sends_by m c) (sym (same ∙ runs)))

      change_sent : Sent (change_reaction p after)
      change_sent =
          let v : Weighing = after.weighing in
          let c : Sending = s.sending in
          let gross : (t : Tally) → Follows v t → gross_in t ≡ gross_of v = λ t g. gross_is v t g refl in
          let net : (t : Tally) → Follows v t → net_in t ≡ net_of v = λ t g. net_in_lem v t g refl in
          change_cases Sent p after
          (λ out told t g.
          as_running (gone_outside c) answers.Nothing t refl
          (rw (told_holds p t v (gross t g) (net t g) c out told) (nothing_empty p))
          (silent_after p t v (gross t g) (net t g) c (answer_bytes p answers.Nothing) refl true out))
          (λ out first t g.
          as_running (gone_outside c) (weighed p v) t refl
          (rw (first_holds p t v (gross t g) (net t g) c out first) ((heads p v).sent t (gross t g)))
          (first_after p t v (gross t g) (net t g) c out))
          (λ inside due t g.
          as_running (sent v c) (weighed p v) t refl
          (rw (due_is p t v (gross t g) (net t g) c inside (known_nets inside) (same_in_force p v t g) ∙ due) ((heads p v).sent t (gross t g)))
          (sent_by p t v (gross t g) (net t g) c inside (known_nets inside) stable refl))
          (λ inside due t g.
          as_running (kept_inside c) answers.Nothing t refl
          (rw (due_is p t v (gross t g) (net t g) c inside (known_nets inside) (same_in_force p v t g) ∙ due) (nothing_empty p))
          (silent_after p t v (gross t g) (net t g) c (answer_bytes p answers.Nothing) refl false inside))

    pub sample_sent : profile_allowed p ≡ true → state_allowed p s ≡ true → Sent (sample_reaction p s z stable)
    unfolding settled_reaction_by
    sample_sent profile allowed =
        let v : State = sampled_state s z stable in
        sample_cases Sent p s z stable
        (λ q waits e t g.
        awaited_sent q (settled_reaction p (with_waiting v not_waiting) q) t waits
        (settled_after p t s.sending q v.weighing (idle_of q waits) e (λ h. net_in_lem v.weighing t (rw (settled_same p q v.weighing h) at g) refl))
        (λ h. absurd (false≢true h)))
        (λ q waits e most t g.
        awaited_sent q (reaction (with_waiting v not_waiting) (answers.Plain (head_of (place_of_pending q) I))) t waits
        (timeout_after p t s.sending q (idle_of q waits))
        (λ h. absurd (false≢true h)))
        (λ q waits e less t g.
        awaited_sent q (reaction (with_waiting v (record { pending = Some q; unstable = s.waiting.unstable + 1 })) answers.Nothing) t waits
        (counted_after p t s.sending q)
        (idle_of q waits))
        (λ free e t g. unasked_sent free (reaction v answers.Nothing) t off (as_mode free Off e) refl (nothing_empty p) (rw e))
        (λ free e t g.
        unasked_sent free (reaction v (weighed p v.weighing)) t always (as_mode free EachSample e) refl
        ((heads p v.weighing).sent t (gross_is v.weighing t g refl))
        (rw e))
        (λ free e. change_sent profile allowed free e)
