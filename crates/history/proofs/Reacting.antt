-- The tally accepts what a finished line and a sample make of the state, and follows it.
-- Assumes nothing.
use Rattle.std.specs.Prelude.{Some}
use Prim.Native.Nat.{ℕ, ◌≤◌}
use mathlib.Core.Path.{◌≡◌, refl}
use mathlib.Core.Bool.{Bool, true, false, cond, ◌&&◌}
use mathlib.Core.List.{List, map}
use lib.Dec.{leb}
use lib.IntN.{ℤ, pos}
use Rattle.answer.specs.declared.answer.Answer.TheVariants as answers
use Rattle.answer.specs.declared.answer.Number.{Number}
use Rattle.answer.specs.declared.answer.Status.TheVariants.{A, S, D}
use Rattle.answer.specs.Lines.{head_of}
use Rattle.answer.specs.Commands.{name_of, needs_sample, place_t, place_ti, place_z, place_zi, place_i4, place_i5, place_i2}
use Rattle.model.specs.declared.profile.Profile.{Profile}
use Rattle.model.specs.declared.react.Reaction.{Reaction}
use Rattle.model.specs.declared.state.Pending.{Pending}
use Rattle.model.specs.declared.state.Pending.TheVariants.{Weigh, Zero, Tare, Change}
use Rattle.model.specs.declared.state.State.{State}
use Rattle.weight.specs.declared.loads.Load.{Load}
use Rattle.model.specs.declared.weighing.Weighing.{Weighing}
use Rattle.device.specs.Calls.{answer_bytes}
use Rattle.model.specs.Profiles.{profile_allowed, resolution_in, scale_of}
use Rattle.commands.specs.Reactions.{run, changing, identification_of, reset_state, performed, sending_as, situation_of}
use Rattle.commands.proofs.Ways.{run_cases, change_cases, sample_cases}
use Rattle.model.specs.declared.sending.Mode.TheVariants.{Off}
use Rattle.model.specs.Groups.{with_waiting, with_sending, reaction, chosen_reaction}
use Rattle.waiting.specs.Changes.{with_threshold}
use Rattle.waiting.specs.Waits.{settled, settled_reaction, begun, place_of_pending, sampled_state, sample_reaction, begun_by, settled_reaction_by}
use Rattle.weighing.specs.Weighings.{stability, gross_of, number_in, resolution_by, weighed, with_sample}
use Rattle.line.specs.declared.judge.Verdict.{Verdict}
use Rattle.line.specs.declared.judge.Verdict.TheVariants.{Erroneous, Reset, Busy, Wrong, NoSample, Run, Preset, Show, Select}
use Rattle.line.specs.declared.judge.Verdict.TheVariants as verdicts
use Rattle.line.specs.declared.receive.Line.{Line}
use Rattle.line.specs.Unbounded.{Marked, byte_in, ends_unbounded, finished_line}
use Rattle.line.proofs.Proper.{Ruled}
use Rattle.weight.specs.declared.rounding.Resolution.{Resolution}
use Rattle.weight.specs.Printing.{printable}
use Rattle.weight.proofs.Allowed.{both_right}
use Rattle.weight.proofs.Nearness.{near_refl}
use Rattle.history.specs.Tally.{Tally, Input, byte_is, sample_is, taken, ends, ended_text, is_reset_line, after_reset, with_tare_of}
use Rattle.history.proofs.AnswerKinds.{Silent, Tares, nothing_silent, error_silent, list_silent, versions_silent, shown_silent, weight_shown_silent, unit_silent, unready_silent, wrong_silent, text_silent, zeroed_zeroes, zeroed_now_zeroes, tared_tares, tared_now_tares}
use Rattle.history.proofs.Answering.{Answered, answered_silent, answered_quietly, answered_zeroed, answered_cleared, answered_selected, answered_weighed, answered_tared, answered_told, answered_typed, zero_exact, zero_rounded}
use Rattle.history.proofs.Following.{Follows}
use Rattle.history.proofs.TypedLines.{typed_told}
use Rattle.history.proofs.Verdicts.{Says}
use Rattle.history.proofs.WeightLines.{Shows, tared_shows, tared_now_shows}

-- the tally accepts a reaction, and follows its weighing
abbrev pub Reacted : Profile → Tally → Input → Reaction → Type 0
Reacted p t i r = Answered p t i r.state.weighing (answer_bytes p r.answer)

-- ---- S, Z, T and SR at a stable sample, and the commands that wait for one

-- T of a stable sample
stable_tares : (p : Profile) (stable : Bool) → stable ≡ true → (n : Number) → Tares (answer_bytes p (answers.Weight (head_of place_t (cond stable S D)) n))
stable_tares p stable e n = rw e (tared_tares p n)

stable_shows : (p : Profile) (stable : Bool) → stable ≡ true → (r : Resolution) (w : ℤ) → printable r w ≡ true
    → Shows r w (answer_bytes p (answers.Weight (head_of place_t (cond stable S D)) (number_in r w)))
stable_shows p stable e r w fits = rw e (tared_shows p r w fits)

module _
    (p : Profile)
    (allowed : profile_allowed p ≡ true)
    (t : Tally)
    (i : Input)
    (not-reset : after_reset t i (taken t i) ≡ taken t i)
  where
    -- what a waiting command makes of a stable sample
    settled_answered
        : (w : Weighing) (pending : Pending)
        → Follows w (taken t i)
        → w.tare.0 ≤ p.capacity
        → w.sampled ≡ true
        → w.stable ≡ true
        → Answered p t i (settled p pending w).weighing (answer_bytes p (settled p pending w).answer)
    settled_answered w Weigh f range sampled stable = answered_weighed p t i w not-reset f allowed range sampled
    settled_answered w Zero f range sampled stable = answered_zeroed p t i w not-reset f place_z A (zeroed_zeroes p) sampled
    settled_answered w Tare f range sampled stable =
        answered_tared p t i w not-reset f allowed place_t
        (stable_tares p w.stable stable (number_in (resolution_by (scale_of p w) (gross_of w)) (gross_of w)))
        (stable_shows p w.stable stable (resolution_by (scale_of p w) (gross_of w)) (gross_of w))
        sampled
    settled_answered w Change f range sampled stable = answered_weighed p t i w not-reset f allowed range sampled

    module _
        (s : State)
        (f : Follows s.weighing (taken t i))
        (range : s.weighing.tare.0 ≤ p.capacity)
      where
        begun_by_lem
            : (sampled stable : Bool) (pending : Pending)
            → s.weighing.sampled ≡ sampled
            → s.weighing.stable ≡ stable
            → Reacted p t i
            (chosen_reaction (sampled && stable)
            (settled_reaction p s pending)
            (reaction (with_waiting s (record { pending = Some pending; unstable = 0 })) answers.Nothing))
        unfolding settled_reaction_by
        begun_by_lem true true pending h k = settled_answered s.weighing pending f range h k
        begun_by_lem true false pending h k = answered_quietly p t i s.weighing not-reset f _ (nothing_silent p)
        begun_by_lem false stable pending h k = answered_quietly p t i s.weighing not-reset f _ (nothing_silent p)

        -- judged at once, or waiting
        begun_reacted : (pending : Pending) → Reacted p t i (begun p s pending)
        unfolding begun_by
        begun_reacted pending = begun_by_lem s.weighing.sampled s.weighing.stable pending refl refl

    -- SR
    change_reacted : (s : State) → Follows s.weighing (taken t i) → s.weighing.tare.0 ≤ p.capacity → (threshold : ℕ)
        → Reacted p t i (changing p s threshold)
    unfolding changing
    change_reacted s f range threshold = begun_reacted (with_sending s (with_threshold s.sending threshold)) f range Change

    -- ---- a command's own rule

    module _
        (s : State)
        (f : Follows s.weighing (taken t i))
        (range : s.weighing.tare.0 ≤ p.capacity)
        (c : ℕ)
        (sample : needs_sample c ≡ true → s.weighing.sampled ≡ true)
      where
        -- a command that is run, whose line is its name alone
        run_reacted : Ruled c → ends t i ≡ true → ended_text t i ≡ name_of c → Reacted p t i (run p s c)
        run_reacted ruled end text =
            run_cases (Reacted p t i) p s c ruled
            (answered_quietly p t i s.weighing not-reset f _ (list_silent p))
            (answered_quietly p t i s.weighing not-reset f _ (versions_silent p))
            (λ text. answered_quietly p t i s.weighing not-reset f _ (text_silent p c (both_right (leb place_i2 c) (leb c place_i5) text)))
            (λ is. begun_reacted (sending_as s Off) f range Weigh)
            (λ needs now. answered_weighed p t i s.weighing not-reset f allowed range (sample needs))
            (λ is. begun_reacted s f range Zero)
            (λ needs.
            answered_zeroed p t i s.weighing not-reset f place_zi (stability s.weighing) (zeroed_now_zeroes p s.weighing.stable) (sample needs))
            (answered_quietly p t i s.weighing not-reset f _ (weight_shown_silent p))
            (λ is. change_reacted s f range 0)
            (λ is. begun_reacted s f range Tare)
            (λ needs.
            answered_tared p t i s.weighing not-reset f allowed place_ti
            (tared_now_tares p s.weighing.stable (number_in (resolution_by (scale_of p s.weighing) (gross_of s.weighing)) (gross_of s.weighing)))
            (λ fits. tared_now_shows p (resolution_by (scale_of p s.weighing) (gross_of s.weighing)) (gross_of s.weighing) fits s.weighing.stable)
            (sample needs))
            (answered_cleared p t i s.weighing not-reset f)
            (λ is. answered_told p t i s.weighing not-reset f allowed end (rw (text, is)) range)
            (λ is. answered_quietly p t i s.weighing not-reset f _ (unit_silent p s.weighing.unit))

-- ---- a finished line

module _
    (p : Profile)
    (allowed : profile_allowed p ≡ true)
    (t : Tally)
    (m : Marked)
    (s : State)
    (f : Follows s.weighing t)
    (range : s.weighing.tare.0 ≤ p.capacity)
    (end : ends_unbounded t.line m ≡ true)
  where
    -- the byte leaves the weighing alone
    byte_followed : Follows s.weighing (taken t (byte_is m))
    byte_followed = record { latest = f.latest; zero = f.zero; tare = f.tare; rounded = f.rounded; unit = f.unit }

    -- a line other than @ resets nothing
    no_reset : is_reset_line (finished_line t.line) ≡ false → after_reset t (byte_is m) (taken t (byte_is m)) ≡ taken t (byte_is m)
    unfolding after_reset
    no_reset other = rw (end, other)

    -- @ does
    a_reset : is_reset_line (finished_line t.line) ≡ true → after_reset t (byte_is m) (taken t (byte_is m)) ≡ with_tare_of (taken t (byte_is m)) (pos 0) false
    unfolding after_reset
    a_reset reset = rw (end, reset)

    -- the tare is 0 on both sides
    reset_followed : is_reset_line (finished_line t.line) ≡ true → Follows (reset_state s).weighing (after_reset t (byte_is m) (taken t (byte_is m)))
    unfolding reset_state
    reset_followed reset = rw (a_reset reset) (record { latest = f.latest; zero = f.zero; tare = rw zero_exact (near_refl 0 (pos 0)); rounded = zero_rounded; unit = f.unit })

    -- what each verdict makes of the state
    pub performed_reacted
        : (l : Line) (v : Verdict)
        → Says (situation_of p s) (finished_line t.line) v
        → Reacted p t (byte_is m) (performed p s l v)
    performed_reacted l (Erroneous e) says = answered_quietly p t (byte_is m) s.weighing (no_reset says) byte_followed _ (error_silent p e)
    performed_reacted l Reset says = answered_silent p t (byte_is m) _ _ (reset_followed says) (text_silent p place_i4 refl)
    performed_reacted l (Busy c) says = answered_quietly p t (byte_is m) s.weighing (no_reset says) byte_followed _ (unready_silent p (identification_of c))
    performed_reacted l (Wrong c) says = answered_quietly p t (byte_is m) s.weighing (no_reset says) byte_followed _ (wrong_silent p (identification_of c))
    performed_reacted l (NoSample c) says = answered_quietly p t (byte_is m) s.weighing (no_reset says) byte_followed _ (unready_silent p (identification_of c))
    performed_reacted l (Run c) says =
        run_reacted p allowed t (byte_is m) (no_reset says.other) s byte_followed range c says.may.sample says.may.ruled end says.text
    performed_reacted l (Preset n) says =
        let typed = says.typed in
        answered_typed p t (byte_is m) s.weighing (no_reset says.other) byte_followed allowed n.0 end says.more typed.decimal typed.near
        typed.rounded (typed_told p (resolution_in p s.weighing) (map byte_in (finished_line t.line)) n.0 typed) typed.range
    performed_reacted l (verdicts.Change n) says = change_reacted p allowed t (byte_is m) (no_reset says) s byte_followed range n.0
    performed_reacted l (Show n) says = answered_quietly p t (byte_is m) s.weighing (no_reset says) byte_followed _ (shown_silent p)
    performed_reacted l (Select u) says =
        answered_selected p t (byte_is m) s.weighing (no_reset says.other) byte_followed u end says.line says.unit

-- ---- a byte that ends no line

module _ (p : Profile) (t : Tally) (m : Marked) (w : Weighing) (f : Follows w t) (going : ends_unbounded t.line m ≡ false) where
  still : after_reset t (byte_is m) (taken t (byte_is m)) ≡ taken t (byte_is m)
  unfolding after_reset
  still = rw going

  pub byte_answered : Answered p t (byte_is m) w (answer_bytes p answers.Nothing)
  byte_answered =
      answered_quietly p t (byte_is m) w still (record { latest = f.latest; zero = f.zero; tare = f.tare; rounded = f.rounded; unit = f.unit }) _ (nothing_silent p)

-- ---- a sample

module _
    (p : Profile)
    (allowed : profile_allowed p ≡ true)
    (t : Tally)
    (s : State)
    (f : Follows s.weighing t)
    (range : s.weighing.tare.0 ≤ p.capacity)
    (z : Load)
  where
    -- no line ends
    sample_not_reset : (stable : Bool) → after_reset t (sample_is z.0 stable) (taken t (sample_is z.0 stable)) ≡ taken t (sample_is z.0 stable)
    unfolding after_reset
    sample_not_reset stable = refl

    -- the load is the latest on both sides
    sample_followed : (stable : Bool) → Follows (with_sample s.weighing z stable) (taken t (sample_is z.0 stable))
    sample_followed stable = record { latest = refl; zero = f.zero; tare = f.tare; rounded = f.rounded; unit = f.unit }

    -- an answer that grants and weighs nothing
    passed_over : (stable : Bool) (l : List ℕ) → Silent l → Answered p t (sample_is z.0 stable) (with_sample s.weighing z stable) l
    passed_over stable l = answered_quietly p t (sample_is z.0 stable) (with_sample s.weighing z stable) (sample_not_reset stable) (sample_followed stable) l

    -- the weight of the sample
    weight_sent : (stable : Bool) → Answered p t (sample_is z.0 stable) (with_sample s.weighing z stable) (answer_bytes p (weighed p (with_sample s.weighing z stable)))
    weight_sent stable =
        answered_weighed p t (sample_is z.0 stable) (with_sample s.weighing z stable) (sample_not_reset stable) (sample_followed stable) allowed range refl

    pub sample_reacted : (stable : Bool) → Reacted p t (sample_is z.0 stable) (sample_reaction p s z stable)
    unfolding settled_reaction_by
    sample_reacted stable =
        sample_cases (Reacted p t (sample_is z.0 stable)) p s z stable
        (λ q waits e.
        settled_answered p allowed t (sample_is z.0 stable) (sample_not_reset stable) (with_sample s.weighing z stable) q
        (sample_followed stable) range refl e)
        (λ q waits e most. passed_over stable _ (unready_silent p (place_of_pending q)))
        (λ q waits e less. passed_over stable _ (nothing_silent p))
        (λ none e. passed_over stable _ (nothing_silent p))
        (λ none e. weight_sent stable)
        (λ none e.
        change_cases (Reacted p t (sample_is z.0 stable)) p (sampled_state s z stable)
        (λ out told. passed_over stable _ (nothing_silent p))
        (λ out first. weight_sent stable)
        (λ inside due. weight_sent stable)
        (λ inside due. passed_over stable _ (nothing_silent p)))
