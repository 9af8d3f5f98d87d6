-- An allowed state stays one: no reaction leads to refusal 2.
-- Assumes nothing.
use mathlib.Core.Path.{◌≡◌, refl}
use mathlib.Core.Bool.{Bool, true, false, cond, not, ◌&&◌, ◌||◌, or-true, false≢true}
use Prim.Native.Nat.{ℕ, ◌+◌, ◌≤◌, zero-le}
use native.Mathlib.Omega.{arith}
use borrow.Author.Tests.{le-leb, leb-true, lt-ltb}
use lib.Dec.{leb, ltb}
use Rattle.std.specs.Prelude.{Some}
use lib.IntN.{ℤ, pos, neg_ℤ, nat_abs}
use lib.ListN.{length, take, drop}
use lib.Seq.{take_at}
use lib.Signed.{le_z, lt_z}
use Rattle.answer.specs.Commands.{is_sir, place_t, place_ti, place_z, place_zi}
use Rattle.answer.specs.declared.answer.Status.{Status}
use Rattle.answer.specs.declared.answer.Status.TheVariants.{A}
use Rattle.model.specs.declared.profile.Profile.{Profile}
use Rattle.model.specs.declared.state.Display.{Display}
use Rattle.model.specs.declared.sending.Mode.{Mode}
use Rattle.model.specs.declared.sending.Mode.TheVariants.{Off, EachSample, OnChange}
use Rattle.model.specs.declared.sending.Sending.{Sending}
use Rattle.model.specs.declared.state.Pending.{Pending}
use Rattle.model.specs.declared.state.Pending.TheVariants.{Weigh, Zero, Tare, Change}
use Rattle.model.specs.declared.state.State.{State}
use Rattle.model.specs.declared.state.Waiting.{Waiting}
use Rattle.weight.specs.declared.loads.Load.{Load}
use Rattle.weight.specs.declared.units.WeightUnit.{WeightUnit}
use Rattle.model.specs.declared.weighing.Weighing.{Weighing}
use Rattle.model.specs.Profiles.{text_allowed, profile_allowed}
use Rattle.commands.specs.Reactions.{run, changing, mode_after, sending_as, weight_shown, reset_state, text_shown, performed, byte_reaction, situation_of}
use Rattle.model.specs.Groups.{with_line, with_weighing, with_waiting, with_sending, with_mode, with_display, not_waiting}
use Rattle.model.specs.Sendings.{is_off, is_on_change, last_allowed, threshold_allowed, change_allowed}
use Rattle.waiting.specs.Changes.{chosen_sending, with_threshold, started, gone_outside, kept_inside, sent}
use Rattle.waiting.specs.Waits.{sampled_state, settled, sending_of, settled_reaction, begun, sample_reaction, begun_by, settled_reaction_by}
use Rattle.model.specs.States.{is_pending, is_change, state_allowed}
use Rattle.weighing.proofs.Reach.{between, not_below, net_within}
use Rattle.weighing.specs.Weighings.{is_outside, net_of, stability, gross_of, with_tare, with_unit, with_zero, chosen_weighing, zeroed, tared, zeroed_by, tared_by}
use Rattle.model.proofs.ProfileFacts.{allowed_profile}
use Rattle.model.proofs.StateFacts.{StateTests, allowed_tests, tests_allow}
use Rattle.line.specs.declared.judge.Verdict.{Verdict}
use Rattle.line.specs.declared.judge.Verdict.TheVariants.{Erroneous, Reset, Busy, Wrong, NoSample, Run, Preset, Show, Select}
use Rattle.line.specs.declared.judge.Verdict.TheVariants as verdicts
use Rattle.line.specs.declared.receive.Line.{Line}
use Rattle.line.specs.Judging.{judgement}
use Rattle.line.specs.Receiving.{cleared_line, received_byte, line_limit}
use Rattle.line.proofs.InCells.{InCells, received_in}
use Rattle.line.proofs.Proper.{Ruled, RunMay, Proper, judged_proper}
use Rattle.line.proofs.Verdicts.{Shown}
use Rattle.weight.proofs.Allowed.{both_hold, both_left, both_right, neither_left, neither_right}
use Rattle.commands.proofs.Ways.{by_choice, run_cases, change_cases, sample_cases}

-- ---- zero and tare

-- zero and tare in their ranges
pub record InRanges (p : Profile) (w : Weighing) : Type 0 where
  pub zero : (le_z (neg_ℤ (pos p.zeroing)) w.zero.0 && le_z w.zero.0 (pos p.zeroing)) ≡ true
  pub tare : leb w.tare.0 p.capacity ≡ true

-- what a command made of a weighing: zero and tare in their ranges, and the sample kept
record Moved (p : Profile) (w v : Weighing) : Type 0 where
  ranges : InRanges p v
  sampled : v.sampled ≡ w.sampled

module _ (p : Profile) (w : Weighing) (old : InRanges p w) where
  unmoved : Moved p w w
  unmoved = record { ranges = old; sampled = refl }

  tare_moved : (n : ℕ) → n ≤ p.capacity → Moved p w (with_tare w n)
  tare_moved n h = record { ranges = record { zero = old.zero; tare = le-leb n p.capacity h }; sampled = refl }

  unit_moved : (u : WeightUnit) → Moved p w (with_unit w u)
  unit_moved u = record { ranges = record { zero = old.zero; tare = old.tare }; sampled = refl }

  zeroed_by_lem : (over under : Bool) → lt_z (pos p.zeroing) w.load.0 ≡ over → lt_z w.load.0 (neg_ℤ (pos p.zeroing)) ≡ under
      → Moved p w (chosen_weighing (over || under) w (with_zero w))
  zeroed_by_lem true under o u = unmoved
  zeroed_by_lem false true o u = unmoved
  zeroed_by_lem false false o u =
      record {
        ranges =
            record {
              zero =
                  both_hold (le_z (neg_ℤ (pos p.zeroing)) w.load.0) (le_z w.load.0 (pos p.zeroing))
                  (not_below w.load.0 (neg_ℤ (pos p.zeroing)) u)
                  (not_below (pos p.zeroing) w.load.0 o);
              tare = le-leb 0 p.capacity (omega arith);
            };
        sampled = refl;
      }

  zeroed_moved : (c : ℕ) (granted : Status) → Moved p w (zeroed p w c granted).weighing
  unfolding zeroed_by
  zeroed_moved c granted = zeroed_by_lem (lt_z (pos p.zeroing) w.load.0) (lt_z w.load.0 (neg_ℤ (pos p.zeroing))) refl refl

  tared_by_lem : (over under : Bool) → lt_z (pos p.capacity) (gross_of w) ≡ over → lt_z (gross_of w) (pos 0) ≡ under
      → Moved p w (chosen_weighing (over || under) w (with_tare w (nat_abs (gross_of w))))
  tared_by_lem true under o u = unmoved
  tared_by_lem false true o u = unmoved
  tared_by_lem false false o u =
      tare_moved (nat_abs (gross_of w)) (between (gross_of w) p.capacity o u).1

  tared_moved : (c : ℕ) → Moved p w (tared p w c).weighing
  unfolding tared_by
  tared_moved c = tared_by_lem (lt_z (pos p.capacity) (gross_of w)) (lt_z (gross_of w) (pos 0)) refl refl

  settled_moved : (pending : Pending) → Moved p w (settled p pending w).weighing
  settled_moved Weigh = unmoved
  settled_moved Zero = zeroed_moved place_z A
  settled_moved Tare = tared_moved place_t
  settled_moved Change = unmoved

-- ---- what SR keeps

-- the threshold counts while SR runs or waits
threshold_by : (runs a b t : Bool) → (not (runs || a) || t) ≡ true → (b ≡ true → t ≡ true) → (not (runs || b) || t) ≡ true
threshold_by true a b t h ok = h
threshold_by false a true t h ok = ok refl
threshold_by false a false t h ok = refl

module _ (p : Profile) (c : Sending) where
  abbrev Kept : Bool → Type 0
  Kept waits = change_allowed p.underload p.capacity c waits ≡ true

  abbrev Within : Type 0
  Within = leb c.threshold.0 p.capacity ≡ true

  last_kept : (waits : Bool) → Kept waits → last_allowed p.underload p.capacity c ≡ true
  unfolding change_allowed
  last_kept waits = both_left (last_allowed p.underload p.capacity c) (threshold_allowed p.capacity c waits)

  threshold_kept : (waits : Bool) → Kept waits → threshold_allowed p.capacity c waits ≡ true
  unfolding change_allowed
  threshold_kept waits = both_right (last_allowed p.underload p.capacity c) (threshold_allowed p.capacity c waits)

  -- another command waits, or none
  kept_waiting : (a b : Bool) → Kept a → (b ≡ true → Within) → Kept b
  unfolding change_allowed
  kept_waiting a b h ok =
      both_hold (last_allowed p.underload p.capacity c) (threshold_allowed p.capacity c b) (last_kept a h)
      (threshold_by (is_on_change c.mode) a b (leb c.threshold.0 p.capacity) (threshold_kept a h) ok)

  kept_free : (a : Bool) → Kept a → Kept false
  kept_free a h = kept_waiting a false h (λ e. absurd (false≢true e))

  -- while SR waits its threshold is within C
  kept_within : (a : Bool) → Kept a → a ≡ true → Within
  kept_within a h e = by (is_on_change c.mode) a (leb c.threshold.0 p.capacity) (threshold_kept a h) e
    where
      by : (runs a t : Bool) → (not (runs || a) || t) ≡ true → a ≡ true → t ≡ true
      by true a t h e = h
      by false true t h e = h
      by false false t h e = absurd (false≢true e)

waits_by : (w t : Bool) → (w ≡ true → t ≡ true) → (not w || t) ≡ true
waits_by true t f = f refl
waits_by false t f = refl

-- S, SI, SIR and @ leave what does not count
kept_off : (p : Profile) (c : Sending) (waits : Bool) (m : Mode) → is_on_change m ≡ false → change_allowed p.underload p.capacity c waits ≡ true
    → change_allowed p.underload p.capacity (with_mode c m) waits ≡ true
unfolding change_allowed
kept_off p c waits m off h =
    rw off (waits_by waits (leb c.threshold.0 p.capacity) (kept_within p c waits h))

-- a new threshold within C
kept_threshold : (p : Profile) (c : Sending) (waits : Bool) (t : ℕ) → t ≤ p.capacity
    → change_allowed p.underload p.capacity (with_threshold c t) waits ≡ true
unfolding change_allowed
kept_threshold p c waits t h = rw (le-leb t p.capacity h) (or-true (not waits))

-- SR runs with a net within its range
kept_running : (p : Profile) (t : ℕ) (net : ℤ) (waits : Bool)
    → (le_z (neg_ℤ (pos (p.underload + p.capacity))) net && le_z net (pos p.capacity)) ≡ true → leb t p.capacity ≡ true
    → change_allowed p.underload p.capacity (record { last = record { 0 = net }; threshold = record { 0 = t }; mode = OnChange; owed = false; outside = false }) waits
    ≡ true
unfolding change_allowed
kept_running p t net waits within ok = rw (within, ok)

module _ (p : Profile) (w : Weighing) (c : Sending) (waits : Bool) (range : w.tare.0 ≤ p.capacity) (h : change_allowed p.underload p.capacity c waits ≡ true) where
  -- a net that is not out of range
  inside_within : is_outside p w ≡ false
      → (le_z (neg_ℤ (pos (p.underload + p.capacity))) (net_of w) && le_z (net_of w) (pos p.capacity)) ≡ true
  inside_within e =
      let over = lt_z (pos p.capacity) (gross_of w) in
      let under = lt_z (gross_of w) (neg_ℤ (pos p.underload)) in
      let within = net_within p (gross_of w) w.tare.0 (neither_left over under e) (neither_right over under e) range in
      both_hold (le_z (neg_ℤ (pos (p.underload + p.capacity))) (net_of w)) (le_z (net_of w) (pos p.capacity)) within.0 within.1

  -- its first answer
  kept_started : leb c.threshold.0 p.capacity ≡ true → change_allowed p.underload p.capacity (started p w c) waits ≡ true
  kept_started ok = by (is_outside p w) refl
    where
      by : (out : Bool) → is_outside p w ≡ out
          → change_allowed p.underload p.capacity
          (chosen_sending out c (record { last = record { 0 = net_of w }; threshold = c.threshold; mode = OnChange; owed = false; outside = false })) waits ≡ true
      by true e = h
      by false e = kept_running p c.threshold.0 (net_of w) waits (inside_within e) ok

  -- the net is sent
  kept_sent : is_outside p w ≡ false → change_allowed p.underload p.capacity (sent w c) waits ≡ true
  unfolding change_allowed
  kept_sent e = by w.stable
    where
      last_by : (runs : Bool) → (not runs || (le_z (neg_ℤ (pos (p.underload + p.capacity))) (net_of w) && le_z (net_of w) (pos p.capacity))) ≡ true
      last_by runs = rw (inside_within e) (or-true (not runs))

      by : (stable : Bool)
          → ((not (is_on_change c.mode)
          || (le_z (neg_ℤ (pos (p.underload + p.capacity))) (cond stable (net_of w) c.last.0) && le_z (cond stable (net_of w) c.last.0) (pos p.capacity)))
          && threshold_allowed p.capacity c waits) ≡ true
      by true =
          both_hold _ (threshold_allowed p.capacity c waits) (last_by (is_on_change c.mode)) (threshold_kept p c waits h)
      by false = h

  -- what a settled command keeps
  kept_settled : (pending : Pending) → (is_change (Some pending) ≡ true → leb c.threshold.0 p.capacity ≡ true)
      → change_allowed p.underload p.capacity (sending_of p pending w c) waits ≡ true
  kept_settled Weigh ok = h
  kept_settled Zero ok = h
  kept_settled Tare ok = h
  kept_settled Change ok = kept_started (ok refl)

sampled_by : (off sampled : Bool) → sampled ≡ true → (off || sampled) ≡ true
sampled_by off sampled e = rw e (or-true off)

-- ---- the groups of an allowed state, each put back alone

module _ (p : Profile) (s : State) (h : StateTests p s) where
  ranges_of : InRanges p s.weighing
  ranges_of = record { zero = h.zero; tare = h.tare }

  with_weighing_lem : (v : Weighing) → Moved p s.weighing v → StateTests p (with_weighing s v)
  with_weighing_lem v m =
      record {
        zero = m.ranges.zero;
        tare = m.ranges.tare;
        line = h.line;
        display = h.display;
        waiting = h.waiting;
        sending = rw m.sampled h.sending;
        change = h.change;
      }

  with_waiting_lem : (w : Waiting) → (not (is_pending w.pending) || ltb w.unstable p.timeout) ≡ true
      → (is_change w.pending ≡ true → leb s.sending.threshold.0 p.capacity ≡ true) → StateTests p (with_waiting s w)
  with_waiting_lem w e ok =
      record {
        zero = h.zero;
        tare = h.tare;
        line = h.line;
        display = h.display;
        waiting = e;
        sending = h.sending;
        change = kept_waiting p s.sending (is_change s.waiting.pending) (is_change w.pending) h.change ok;
      }

  with_sending_lem : (c : Sending) → (is_off c.mode || s.weighing.sampled) ≡ true
      → change_allowed p.underload p.capacity c (is_change s.waiting.pending) ≡ true → StateTests p (with_sending s c)
  with_sending_lem c e k =
      record { zero = h.zero; tare = h.tare; line = h.line; display = h.display; waiting = h.waiting; sending = e; change = k }

  with_display_lem : (d : Display) → (not d.shown || text_allowed 20 d.text) ≡ true → StateTests p (with_display s d)
  with_display_lem d e =
      record { zero = h.zero; tare = h.tare; line = h.line; display = e; waiting = h.waiting; sending = h.sending; change = h.change }

  with_line_lem : (l : Line) → leb l.len line_limit ≡ true → StateTests p (with_line s l)
  with_line_lem l e =
      record { zero = h.zero; tare = h.tare; line = e; display = h.display; waiting = h.waiting; sending = h.sending; change = h.change }

  tare_of : s.weighing.tare.0 ≤ p.capacity
  tare_of = leb-true s.weighing.tare.0 p.capacity h.tare

-- ---- a finished line

module _ (p : Profile) (s : State) (h : StateTests p s) where
  -- what a command makes of the latest sample
  settled_allowed : (pending : Pending) → s.weighing.sampled ≡ true
      → (is_change (Some pending) ≡ true → leb s.sending.threshold.0 p.capacity ≡ true) → StateTests p (settled_reaction p s pending).state
  unfolding settled_reaction_by
  settled_allowed pending sampled ok =
      let c : Sending = sending_of p pending s.weighing s.sending in
      with_weighing_lem p (with_sending s c)
      (with_sending_lem p s h c (sampled_by (is_off c.mode) s.weighing.sampled sampled)
      (kept_settled p s.weighing s.sending (is_change s.waiting.pending) (tare_of p s h) h.change pending ok))
      (settled p pending s.weighing).weighing
      (settled_moved p s.weighing (ranges_of p s h) pending)

module _ (p : Profile) (least : 1 ≤ p.timeout) (s : State) (h : StateTests p s) where
  waits_anew : ltb 0 p.timeout ≡ true
  waits_anew = lt-ltb 0 p.timeout (omega arith)

  begun_allowed : (pending : Pending) → (is_change (Some pending) ≡ true → leb s.sending.threshold.0 p.capacity ≡ true) → StateTests p (begun p s pending).state
  unfolding begun_by
  begun_allowed pending ok =
      by_choice (λ x. StateTests p x.state) (s.weighing.sampled && s.weighing.stable)
      (λ e. settled_allowed p s h pending (both_left s.weighing.sampled s.weighing.stable e) ok)
      (λ e. with_waiting_lem p s h (record { pending = Some pending; unstable = 0 }) waits_anew ok)

module _ (p : Profile) (least : 1 ≤ p.timeout) (s : State) (h : StateTests p s) where
  -- what S, SI, SIR and @ leave; a repetition has a sample
  sending_as_allowed : (m : Mode) → is_on_change m ≡ false → (is_off m || s.weighing.sampled) ≡ true → StateTests p (sending_as s m)
  sending_as_allowed m off e =
      with_sending_lem p s h (with_mode s.sending m) e (kept_off p s.sending (is_change s.waiting.pending) m off h.change)

  at_once_allowed : (c : ℕ) → s.weighing.sampled ≡ true → StateTests p (sending_as s (mode_after c))
  at_once_allowed c sampled = by (is_sir c)
    where
      by : (b : Bool) → StateTests p (sending_as s (cond b EachSample Off))
      by true = sending_as_allowed EachSample refl sampled
      by false = sending_as_allowed Off refl refl

  change_allowed_lem : (t : ℕ) → t ≤ p.capacity → StateTests p (changing p s t).state
  unfolding changing
  change_allowed_lem t within =
      let c : Sending = with_threshold s.sending t in
      begun_allowed p least (with_sending s c)
      (with_sending_lem p s h c refl (kept_threshold p s.sending (is_change s.waiting.pending) t within))
      Change
      (λ e. le-leb t p.capacity within)

  run_allowed : (c : ℕ) → RunMay (situation_of p s) c → StateTests p (run p s c).state
  run_allowed c may =
      run_cases (λ x. StateTests p x.state) p s c may.ruled
      h
      h
      (λ text. h)
      (λ e. begun_allowed p least (sending_as s Off) (sending_as_allowed Off refl refl) Weigh (λ f. absurd (false≢true f)))
      (λ needs now. at_once_allowed c (may.sample needs))
      (λ e. begun_allowed p least s h Zero (λ f. absurd (false≢true f)))
      (λ needs.
      with_weighing_lem p s h (zeroed p s.weighing place_zi (stability s.weighing)).weighing
      (zeroed_moved p s.weighing (ranges_of p s h) place_zi (stability s.weighing)))
      (with_display_lem p s h (weight_shown s.display) refl)
      (λ e. change_allowed_lem 0 zero-le)
      (λ e. begun_allowed p least s h Tare (λ f. absurd (false≢true f)))
      (λ needs. with_weighing_lem p s h (tared p s.weighing place_ti).weighing (tared_moved p s.weighing (ranges_of p s h) place_ti))
      (with_weighing_lem p s h (with_tare s.weighing 0) (tare_moved p s.weighing (ranges_of p s h) 0 zero-le))
      (λ e. h)
      (λ e. h)

  reset_allowed : StateTests p (reset_state s)
  unfolding reset_state
  reset_allowed =
      record {
        zero = h.zero;
        tare = le-leb 0 p.capacity (omega arith);
        line = h.line;
        display = refl;
        waiting = refl;
        sending = refl;
        change = kept_off p s.sending false Off refl (kept_free p s.sending (is_change s.waiting.pending) h.change);
      }

  -- a text of a line that D takes
  shown_allowed : (l : Line) (n : ℕ) → Shown l n → text_allowed 20 (text_shown s.display l n).text ≡ true
  shown_allowed l n t =
      rw (le-leb n 20 t.short, take_at (take n (drop 3 l.bytes)) (drop n s.display.text.bytes) n t.long) t.printable

  pub performed_allowed : (l : Line) (v : Verdict) → Proper (situation_of p s) l v → StateTests p (performed p s l v).state
  performed_allowed l (Erroneous e) t = h
  performed_allowed l Reset t = reset_allowed
  performed_allowed l (Busy c) t = h
  performed_allowed l (Wrong c) t = h
  performed_allowed l (NoSample c) t = h
  performed_allowed l (Run c) t = run_allowed c t
  performed_allowed l (Preset m) t = with_weighing_lem p s h (with_tare s.weighing m.0) (tare_moved p s.weighing (ranges_of p s h) m.0 t)
  performed_allowed l (verdicts.Change n) t = change_allowed_lem n.0 t
  performed_allowed l (Show n) t = with_display_lem p s h (text_shown s.display l n) (shown_allowed l n t)
  performed_allowed l (Select u) t = with_weighing_lem p s h (with_unit s.weighing u) (unit_moved p s.weighing (ranges_of p s h) u)

-- a verdict leaves the cleared line alone
module _ (p : Profile) where
  begun_keeps : (s : State) (pending : Pending) → (begun p s pending).state.line ≡ s.line
  unfolding begun_by settled_reaction_by
  begun_keeps s pending = by_choice (λ x. x.state.line ≡ s.line) (s.weighing.sampled && s.weighing.stable) (λ e. refl) (λ e. refl)

  changing_keeps : (s : State) (t : ℕ) → (changing p s t).state.line ≡ s.line
  unfolding changing
  changing_keeps s t = begun_keeps (with_sending s (with_threshold s.sending t)) Change

  run_keeps : (s : State) (c : ℕ) → Ruled c → (run p s c).state.line ≡ s.line
  run_keeps s c ruled =
      run_cases (λ x. x.state.line ≡ s.line) p s c ruled
      refl
      refl
      (λ text. refl)
      (λ e. begun_keeps (sending_as s Off) Weigh)
      (λ needs now. refl)
      (λ e. begun_keeps s Zero)
      (λ needs. refl)
      refl
      (λ e. changing_keeps s 0)
      (λ e. begun_keeps s Tare)
      (λ needs. refl)
      refl
      (λ e. refl)
      (λ e. refl)

  performed_keeps : (s : State) (l : Line) (v : Verdict) → Proper (situation_of p s) l v → (performed p s l v).state.line ≡ s.line
  unfolding reset_state
  performed_keeps s l (Erroneous e) t = refl
  performed_keeps s l Reset t = refl
  performed_keeps s l (Busy c) t = refl
  performed_keeps s l (Wrong c) t = refl
  performed_keeps s l (NoSample c) t = refl
  performed_keeps s l (Run c) t = run_keeps s c t.ruled
  performed_keeps s l (Preset m) t = refl
  performed_keeps s l (verdicts.Change n) t = changing_keeps s n.0
  performed_keeps s l (Show n) t = refl
  performed_keeps s l (Select u) t = refl

-- ---- the two reactions

module _ (p : Profile) (profile : profile_allowed p ≡ true) (s : State) (allowed : state_allowed p s ≡ true) (b : ℕ) (bad : Bool) (cells : length s.line.bytes ≡ line_limit) where
  abbrev l : Line
  l = (received_byte s.line b bad).line

  held : InCells l
  held = received_in s.line (record { cells = cells; len = leb-true s.line.len line_limit (allowed_tests p s allowed).line }) b bad

  proper : Proper (situation_of p s) l (judgement (situation_of p s) l)
  proper = judged_proper (situation_of p s) l held.cells held.len

  pub byte_allowed : state_allowed p (byte_reaction p s b bad).state ≡ true
  unfolding byte_reaction
  byte_allowed =
      let h : StateTests p s = allowed_tests p s allowed in
      let t : State = with_line s (cleared_line l) in
      let v : Verdict = judgement (situation_of p s) l in
      by_choice (λ x. state_allowed p x.state ≡ true) (received_byte s.line b bad).ended
      (λ e.
      tests_allow p (performed p t l v).state
      (performed_allowed p (allowed_profile p profile).limits.timeout_least t (with_line_lem p s h (cleared_line l) refl) l v proper))
      (λ e. tests_allow p (with_line s l) (with_line_lem p s h l (le-leb l.len line_limit held.len)))

  -- and its line has as many cells
  pub byte_cells : length (byte_reaction p s b bad).state.line.bytes ≡ line_limit
  unfolding byte_reaction
  byte_cells =
      by_choice (λ x. length x.state.line.bytes ≡ line_limit) (received_byte s.line b bad).ended
      (λ e. rw (performed_keeps p (with_line s (cleared_line l)) l (judgement (situation_of p s) l) proper) held.cells)
      (λ e. held.cells)

module _ (p : Profile) (profile : profile_allowed p ≡ true) (s : State) (allowed : state_allowed p s ≡ true) where
  pub sample_allowed : (z : Load) (stable : Bool) → state_allowed p (sample_reaction p s z stable).state ≡ true
  unfolding change_allowed
  sample_allowed z stable =
      let h : StateTests p s = allowed_tests p s allowed in
      let t : State = sampled_state s z stable in
      let k : StateTests p t =
      record {
        zero = h.zero;
        tare = h.tare;
        line = h.line;
        display = h.display;
        waiting = h.waiting;
        sending = or-true (is_off s.sending.mode);
        change = h.change;
      }
      in
      let within = kept_within p s.sending (is_change s.waiting.pending) h.change in
      let free : StateTests p (with_waiting t not_waiting) = with_waiting_lem p t k not_waiting refl (λ e. absurd (false≢true e)) in
      sample_cases (λ x. state_allowed p x.state ≡ true) p s z stable
      (λ q waits e.
      tests_allow p (settled_reaction p (with_waiting t not_waiting) q).state
      (settled_allowed p (with_waiting t not_waiting) free q refl (rw waits at within)))
      (λ q waits e most. tests_allow p (with_waiting t not_waiting) free)
      (λ q waits e less.
      let w : Waiting = record { pending = Some q; unstable = s.waiting.unstable + 1 } in
      tests_allow p (with_waiting t w)
      (with_waiting_lem p t k w (lt-ltb (s.waiting.unstable + 1) p.timeout less) (rw waits at within)))
      (λ none e. tests_allow p t k)
      (λ none e. tests_allow p t k)
      (λ none e.
      let on = or-true (is_off s.sending.mode) in
      change_cases (λ x. state_allowed p x.state ≡ true) p t
      (λ out told. tests_allow p (with_sending t (gone_outside t.sending)) (with_sending_lem p t k (gone_outside t.sending) on k.change))
      (λ out first. tests_allow p (with_sending t (gone_outside t.sending)) (with_sending_lem p t k (gone_outside t.sending) on k.change))
      (λ inside due.
      tests_allow p (with_sending t (sent t.weighing t.sending))
      (with_sending_lem p t k (sent t.weighing t.sending) on
      (kept_sent p t.weighing t.sending (is_change s.waiting.pending) (tare_of p t k) k.change inside)))
      (λ inside due. tests_allow p (with_sending t (kept_inside t.sending)) (with_sending_lem p t k (kept_inside t.sending) on k.change)))
