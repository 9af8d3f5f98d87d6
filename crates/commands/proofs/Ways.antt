-- What a command and what a sample can do: one case law each, by which the laws on reactions go, one line a way.
-- Assumes nothing.
use mathlib.Core.Path.{◌≡◌, refl, sym, ap, ◌∙◌}
use mathlib.Core.Bool.{Bool, true, false, cond, ◌||◌, false≢true}
use Prim.Native.Nat.{ℕ, ◌+◌, ◌≤◌, ◌<◌}
use borrow.Author.Tests.{eqb-true, leb-true, leb-false}
use native.Mathlib.Omega.{arith}
use lib.Dec.{leb, eqb}
use Rattle.std.specs.Prelude.{Option, Some, None}
use Rattle.answer.specs.Commands.{kind_of, may_wait, needs_sample, is_si, is_sir, is_zi, is_d, is_dw, is_t, is_ta, is_tac, is_ti, place_s, place_z, place_zi, place_reset, place_d, place_m21, place_sr, place_t, place_ta, place_tac, place_ti, has_text, is_i0, is_i1}
use Rattle.answer.specs.declared.answer.Answer.TheVariants.{Plain}
use Rattle.answer.specs.declared.answer.Answer.TheVariants as answers
use Rattle.answer.specs.declared.answer.Status.TheVariants.{A, I}
use Rattle.answer.specs.declared.command.Kind.{Kind}
use Rattle.answer.specs.declared.command.Kind.TheVariants.{Informs, Weighs, Zeroes, Resets, Shows, Sends, Tares, Selects, Unknown}
use Rattle.answer.proofs.Rows.{informing_is, resetting, weighing_is, zeroing_is, showing_is, sending_is, taring_is, selecting_is, is_known, samples_are}
use Rattle.commands.specs.Reactions.{informed, weighing, zeroing, showing_weight, showing, changing, taring, unit_told, run_as, run, mode_after, sending_as}
use Rattle.line.proofs.Proper.{Ruled}
use Rattle.model.specs.declared.profile.Profile.{Profile}
use Rattle.model.specs.declared.sending.Mode.{Mode}
use Rattle.model.specs.declared.sending.Mode.TheVariants.{Off, EachSample, OnChange}
use Rattle.model.specs.declared.state.Pending.TheVariants.{Weigh, Zero, Tare}
use Rattle.model.specs.declared.state.Pending.{Pending}
use Rattle.model.specs.declared.state.State.{State}
use Rattle.model.specs.Profiles.{scale_of}
use Rattle.model.specs.States.{is_pending}
use Rattle.model.specs.declared.react.Reaction.{Reaction}
use Rattle.model.specs.Groups.{chosen_reaction, reaction, with_weighing, with_waiting, with_sending, not_waiting}
use Rattle.waiting.specs.Changes.{gone_outside, kept_inside, sent, is_due, change_reaction, change_reaction_by}
use Rattle.waiting.specs.Waits.{by_pending, measured_reaction, place_of_pending, sampled_state, settled_reaction, begun, waited, unasked_as, sample_reaction}
use Rattle.answer.specs.Lines.{head_of}
use Rattle.weighing.specs.Weighings.{is_outside, stability, weighed, with_tare, zeroed, tared, tare_answer}
use Rattle.weight.specs.declared.loads.Load.{Load}

-- a choice by its test
pub by_choice : (P : Reaction → Type 0) (b : Bool) {x y : Reaction} → (b ≡ true → P x) → (b ≡ false → P y) → P (chosen_reaction b x y)
by_choice P true f g = f refl
by_choice P false f g = g refl

-- ---- a command that is run

module _ (P : Reaction → Type 0) (p : Profile) (s : State) (c : ℕ) (r : Ruled c) where
  informing_ways : kind_of c ≡ Informs
      → P (reaction s answers.CommandList)
      → P (reaction s answers.Versions)
      → (has_text c ≡ true → P (reaction s (answers.Text c)))
      → P (informed s c)
  informing_ways e lists versions texts = by (is_i0 c) (is_i1 c) (has_text c) (informing_is c r.known e) refl
    where
      by : (a b d : Bool) → (a || b || d) ≡ true → has_text c ≡ d
          → P (reaction s (cond a answers.CommandList (cond b answers.Versions (cond d (answers.Text c) answers.Nothing))))
      by true b d f h = lists
      by false true d f h = versions
      by false false true f h = texts h
      by false false false f h = absurd (false≢true f)

  weighing_ways : kind_of c ≡ Weighs
      → (c ≡ place_s → P (begun p (sending_as s Off) Weigh))
      → (needs_sample c ≡ true → (is_si c || is_sir c) ≡ true → P (reaction (sending_as s (mode_after c)) (weighed p s.weighing)))
      → P (weighing p s c)
  unfolding weighing
  weighing_ways e begins weighs =
      by_choice P (may_wait c)
      (λ w. begins (eqb-true c place_s (rw w at (weighing_is c r.known e))))
      (λ w. let needs = rw w at (weighing_is c r.known e) in weighs needs (at_once e needs))
    where
      -- neither ZI nor TI is of this kind
      other : (k : ℕ) {j : Kind} → kind_of k ≡ j → (Weighs ≡ j → ⊥) → eqb c k ≡ true → kind_of c ≡ Weighs → ⊥
      other k is differs same e = differs (sym e ∙ ap kind_of (eqb-true c k same) ∙ is)

      by : (a b d : Bool) → (a || b || d) ≡ true → (b ≡ true → ⊥) → (d ≡ true → ⊥) → a ≡ true
      by true b d f g h = refl
      by false true d f g h = absurd (g refl)
      by false false true f g h = absurd (h refl)
      by false false false f g h = absurd (false≢true f)

      at_once : kind_of c ≡ Weighs → needs_sample c ≡ true → (is_si c || is_sir c) ≡ true
      at_once e needs =
          by (is_si c || is_sir c) (is_zi c) (is_ti c) (samples_are c ∙ needs)
          (λ z. other place_zi refl (λ d. let n : ◌≡◌ {A = ℕ} 0 1 = cc in absurd (omega arith)) z e)
          (λ t. other place_ti refl (λ d. let n : ◌≡◌ {A = ℕ} 0 1 = cc in absurd (omega arith)) t e)

  zeroing_ways : kind_of c ≡ Zeroes
      → (c ≡ place_z → P (begun p s Zero))
      → (needs_sample c ≡ true → P (measured_reaction s (zeroed p s.weighing place_zi (stability s.weighing))))
      → P (zeroing p s c)
  unfolding zeroing
  zeroing_ways e begins zeroes =
      by_choice P (may_wait c)
      (λ w. begins (eqb-true c place_z (rw w at (zeroing_is c r.known e))))
      (λ w. zeroes (rw w at (zeroing_is c r.known e)))

  showing_ways : kind_of c ≡ Shows → P (showing_weight s) → P (showing s c)
  unfolding showing
  showing_ways e shows =
      by_choice P (is_dw c)
      (λ d. shows)
      (λ d. absurd (r.no_show (eqb-true c place_d (first (is_d c) (is_dw c) (showing_is c r.known e) d))))
    where
      first : (a b : Bool) → (a || b) ≡ true → b ≡ false → a ≡ true
      first true b e f = refl
      first false b e f = absurd (false≢true (sym f ∙ e))

  taring_ways : kind_of c ≡ Tares
      → (c ≡ place_t → P (begun p s Tare))
      → (needs_sample c ≡ true → P (measured_reaction s (tared p s.weighing place_ti)))
      → P (reaction (with_weighing s (with_tare s.weighing 0)) (Plain (head_of place_tac A)))
      → (c ≡ place_ta → P (reaction s (tare_answer (scale_of p s.weighing) s.weighing.tare.0)))
      → P (taring p s c)
  unfolding taring
  taring_ways e begins tares clears tells =
      by_choice P (is_t c)
      (λ t. begins (eqb-true c place_t t))
      (λ t.
      by_choice P (is_ti c)
      (λ ti. tares (rw (eqb-true c place_ti ti)))
      (λ ti.
      by_choice P (is_tac c)
      (λ tac. clears)
      (λ tac.
      by_choice P (is_ta c)
      (λ ta. tells (eqb-true c place_ta ta))
      (λ ta. absurd (false≢true (rw (t, ta, tac, ti) at (taring_is c r.known e)))))))

  -- I0; I1; I2 to I5; S; SI and SIR; Z; ZI; DW; SR alone; T; TI; TAC; TA alone; M21 alone
  pub run_cases
      : P (reaction s answers.CommandList)
      → P (reaction s answers.Versions)
      → (has_text c ≡ true → P (reaction s (answers.Text c)))
      → (c ≡ place_s → P (begun p (sending_as s Off) Weigh))
      → (needs_sample c ≡ true → (is_si c || is_sir c) ≡ true → P (reaction (sending_as s (mode_after c)) (weighed p s.weighing)))
      → (c ≡ place_z → P (begun p s Zero))
      → (needs_sample c ≡ true → P (measured_reaction s (zeroed p s.weighing place_zi (stability s.weighing))))
      → P (showing_weight s)
      → (c ≡ place_sr → P (changing p s 0))
      → (c ≡ place_t → P (begun p s Tare))
      → (needs_sample c ≡ true → P (measured_reaction s (tared p s.weighing place_ti)))
      → P (reaction (with_weighing s (with_tare s.weighing 0)) (Plain (head_of place_tac A)))
      → (c ≡ place_ta → P (reaction s (tare_answer (scale_of p s.weighing) s.weighing.tare.0)))
      → (c ≡ place_m21 → P (unit_told s))
      → P (run p s c)
  unfolding run
  run_cases lists versions texts stable weighs zero zeroes shows changes tare tares clears tells units = by_kind (kind_of c) refl
    where
      by_kind : (k : Kind) → kind_of c ≡ k → P (run_as k p s c)
      by_kind Informs e = informing_ways e lists versions texts
      by_kind Weighs e = weighing_ways e stable weighs
      by_kind Zeroes e = zeroing_ways e zero zeroes
      by_kind Resets e = absurd (r.no_reset (eqb-true c place_reset (resetting c r.known e)))
      by_kind Shows e = showing_ways e shows
      by_kind Sends e = changes (eqb-true c place_sr (sending_is c r.known e))
      by_kind Tares e = taring_ways e tare tares clears tells
      by_kind Selects e = units (eqb-true c place_m21 (selecting_is c r.known e))
      by_kind Unknown e = absurd (is_known c r.known e)

-- ---- a sample

-- a sample while SR runs: out of range, told before or now; in range, sent or not
pub change_cases
    : (P : Reaction → Type 0) (p : Profile) (s : State)
    → (is_outside p s.weighing ≡ true → s.sending.outside ≡ true → P (reaction (with_sending s (gone_outside s.sending)) answers.Nothing))
    → (is_outside p s.weighing ≡ true → s.sending.outside ≡ false → P (reaction (with_sending s (gone_outside s.sending)) (weighed p s.weighing)))
    → (is_outside p s.weighing ≡ false → is_due p s.weighing s.sending ≡ true
    → P (reaction (with_sending s (sent s.weighing s.sending)) (weighed p s.weighing)))
    → (is_outside p s.weighing ≡ false → is_due p s.weighing s.sending ≡ false → P (reaction (with_sending s (kept_inside s.sending)) answers.Nothing))
    → P (change_reaction p s)
unfolding change_reaction_by
change_cases P p s told tells sends keeps =
    by_choice P (is_outside p s.weighing)
    (λ out. by s.sending.outside (told out) (tells out))
    (λ inside. by_choice P (is_due p s.weighing s.sending) (sends inside) (keeps inside))
  where
    by : (b : Bool)
        → (b ≡ true → P (reaction (with_sending s (gone_outside s.sending)) answers.Nothing))
        → (b ≡ false → P (reaction (with_sending s (gone_outside s.sending)) (weighed p s.weighing)))
        → P (reaction (with_sending s (gone_outside s.sending)) (cond b answers.Nothing (weighed p s.weighing)))
    by true f g = f refl
    by false f g = g refl

-- a sample: it ends a wait, stable or as the W-th, or is counted; or none waits, and it is not answered, weighed for a repetition,
-- or as SR says
pub sample_cases
    : (P : Reaction → Type 0) (p : Profile) (s : State) (z : Load) (stable : Bool)
    → let t = sampled_state s z stable in
    ((q : Pending) → s.waiting.pending ≡ Some q → stable ≡ true → P (settled_reaction p (with_waiting t not_waiting) q))
    → ((q : Pending) → s.waiting.pending ≡ Some q → stable ≡ false → p.timeout ≤ s.waiting.unstable + 1
    → P (reaction (with_waiting t not_waiting) (answers.Plain (head_of (place_of_pending q) I))))
    → ((q : Pending) → s.waiting.pending ≡ Some q → stable ≡ false → s.waiting.unstable + 1 < p.timeout
    → P (reaction (with_waiting t (record { pending = Some q; unstable = s.waiting.unstable + 1 })) answers.Nothing))
    → (is_pending s.waiting.pending ≡ false → s.sending.mode ≡ Off → P (reaction t answers.Nothing))
    → (is_pending s.waiting.pending ≡ false → s.sending.mode ≡ EachSample → P (reaction t (weighed p t.weighing)))
    → (is_pending s.waiting.pending ≡ false → s.sending.mode ≡ OnChange → P (change_reaction p t))
    → P (sample_reaction p s z stable)
unfolding sample_reaction waited
sample_cases P p s z stable settles ends counts passes weighs changes = by_wait s.waiting.pending refl
  where
    t : State
    t = sampled_state s z stable

    by_mode : (m : Mode) → s.sending.mode ≡ m → is_pending s.waiting.pending ≡ false → P (unasked_as m p t)
    by_mode Off e free = passes free e
    by_mode EachSample e free = weighs free e
    by_mode OnChange e free = changes free e

    by_wait : (o : Option Pending) → s.waiting.pending ≡ o
        → P (by_pending o (λ q. chosen_reaction stable (settled_reaction p (with_waiting t not_waiting) q) (waited p t q)) (unasked_as s.sending.mode p t))
    by_wait None free = by_mode s.sending.mode refl (rw free)
    by_wait (Some q) waits =
        by_choice P stable
        (λ e. settles q waits e)
        (λ e.
        by_choice P (leb p.timeout (s.waiting.unstable + 1))
        (λ most. ends q waits e (leb-true p.timeout (s.waiting.unstable + 1) most))
        (λ less. counts q waits e (leb-false p.timeout (s.waiting.unstable + 1) less)))
