-- With F = C no answer is coarse, and each weight, each typed tare and each profile is judged as before No. 7.
-- Assumes nothing.
use Prim.Native.Nat.{ℕ, ◌≤◌}
use native.Mathlib.Omega.{arith}
use mathlib.Core.Path.{◌≡◌, refl, ap, ◌∙◌}
use mathlib.Core.Bool.{Bool, true, false, ◌&&◌, ◌||◌, and-true}
use mathlib.Core.List.{List, [], ◌∷◌}
use borrow.Author.Tests.{le-leb, le-ltb, leb-true}
use lib.IntN.{ℤ, pos, neg_ℤ, nat_abs}
use lib.ListN.{length}
use lib.Signed.{lt_z}
use Rattle.answer.specs.Commands.{is_s, place_s, place_t, place_ti}
use Rattle.answer.specs.declared.answer.Answer.TheVariants.{Plain, Weight}
use Rattle.answer.specs.declared.answer.Status.{Status}
use Rattle.answer.specs.Lines.{head_of}
use Rattle.commands.specs.Reactions.{byte_reaction, changing, performed, run, sending_as, situation_of}
use Rattle.commands.proofs.Ways.{by_choice, run_cases, change_cases, sample_cases}
use Rattle.line.specs.declared.judge.Verdict.{Verdict}
use Rattle.line.specs.declared.judge.Verdict.TheVariants.{Erroneous, Reset, Busy, Wrong, NoSample, Run, Preset, Show, Select}
use Rattle.line.specs.declared.judge.Verdict.TheVariants as verdicts
use Rattle.line.specs.declared.receive.Line.{Line}
use Rattle.line.specs.Judging.{judgement, preset_in}
use Rattle.line.specs.Judging as judging
use Rattle.line.specs.Receiving.{cleared_line, line_limit, received_byte}
use Rattle.line.proofs.InCells.{InCells, received_in}
use Rattle.line.proofs.Proper.{Proper, Ruled, judged_proper}
use Rattle.model.specs.declared.profile.Profile.{Profile}
use Rattle.model.specs.declared.sending.Mode.TheVariants.{Off}
use Rattle.model.specs.declared.state.Pending.{Pending}
use Rattle.model.specs.declared.state.Pending.TheVariants.{Weigh, Zero, Tare, Change}
use Rattle.model.specs.declared.state.State.{State}
use Rattle.model.specs.declared.weighing.Weighing.{Weighing}
use Rattle.model.specs.Groups.{with_line, with_sending}
use Rattle.model.specs.Profiles.{every_unit, profile_allowed, resolution_in, resolution_of, nets_allowed, scale_of, unit_allowed}
use Rattle.model.specs.States.{state_allowed}
use Rattle.model.proofs.InForce.{fine_itself}
use Rattle.model.proofs.StateFacts.{allowed_state, allowed_tests}
use Rattle.text.specs.Typed.{read_preset}
use Rattle.waiting.specs.Changes.{with_threshold}
use Rattle.waiting.specs.Waits.{begun, begun_by, sampled_state, sample_reaction, settled, settled_reaction_by}
use Rattle.weighing.specs.Weighings.{chosen_weighing, gross_of, in_limits, net_of, number_in, resolution_by, stability, tared, tared_by, tare_answer, weighed, weighed_by, with_sample, with_tare, zeroed, zeroed_by}
use Rattle.weighing.proofs.InForce.{resolution_tared}
use Rattle.weighing.proofs.Reach.{between}
use Rattle.weight.specs.declared.loads.Load.{Load}
use Rattle.weight.specs.declared.rounding.Resolution.{Resolution}
use Rattle.weight.specs.declared.units.WeightUnit.{WeightUnit}
use Rattle.weight.specs.Ranges.{ranged}
use Rattle.weight.specs.Rounding.{allowed_resolution}
use Rattle.weight.specs.Units.{all_units}
use Rattle.history.specs.FineOnly.{FineReaction, IsFine, UnrangedAsBefore, profile_before, unit_before}
use Rattle.history.proofs.SentAnswers.{in_limits_lem}
use Rattle.history.proofs.TypedLines.{unranged_preset}

-- ---- the profile

-- what is asked of the coarse range is asked where there is one
unit_before_lem : (p : Profile) → p.fine ≡ p.capacity → (u : WeightUnit) → unit_allowed p u ≡ unit_before p u
unfolding unit_allowed
unit_before_lem p e u = rw (e, le-ltb p.capacity p.capacity (omega arith)) (and-true (allowed_resolution (resolution_of p u) && nets_allowed p (resolution_of p u)))

units_before : (p : Profile) → p.fine ≡ p.capacity → (us : List WeightUnit) → every_unit (unit_allowed p) us ≡ every_unit (unit_before p) us
units_before p e [] = refl
units_before p e (u ∷ us) = rw (unit_before_lem p e u, units_before p e us)

profile_before_lem : (p : Profile) → p.fine ≡ p.capacity → profile_allowed p ≡ profile_before p
unfolding profile_allowed
profile_before_lem p e = rw (units_before p e all_units, e, le-leb p.capacity p.capacity (omega arith)) (and-true (profile_before p))

module _ (p : Profile) (unranged : p.fine ≡ p.capacity) where
  -- ---- the weights

  -- a weight that is not above C is not above F
  fine_by : (w : Weighing) (x : ℤ) → lt_z (pos p.capacity) x ≡ false → resolution_by (scale_of p w) x ≡ resolution_in p w
  fine_by w x within = ap (λ (c : Bool). ranged c (resolution_in p w)) (rw unranged within) ∙ fine_itself p w

  -- S, SI, SIR
  weighed_fine : (w : Weighing) → IsFine p w (weighed p w)
  unfolding weighed_by
  weighed_fine w =
      in_limits_lem (IsFine p w) place_s (lt_z (pos p.capacity) (gross_of w)) (lt_z (gross_of w) (neg_ℤ (pos p.underload)))
      (Weight (head_of place_s (stability w)) (number_in (resolution_by (scale_of p w) (gross_of w)) (net_of w)))
      tt
      tt
      (λ o u. ap (λ (r : Resolution). number_in r (net_of w)) (fine_by w (gross_of w) o))

  -- Z, ZI
  zeroed_fine : (w : Weighing) (c : ℕ) (granted : Status) → IsFine p (zeroed p w c granted).weighing (zeroed p w c granted).answer
  unfolding zeroed_by
  zeroed_fine w c granted =
      let v = (zeroed p w c granted).weighing in
      in_limits_lem (IsFine p v) c (lt_z (pos p.zeroing) w.load.0) (lt_z w.load.0 (neg_ℤ (pos p.zeroing))) (Plain (head_of c granted)) tt tt (λ o u. tt)

  -- T, TI, by their two tests
  tared_by_lem
      : (w : Weighing) (over under : Bool) (c : ℕ)
      → lt_z (pos p.capacity) (gross_of w) ≡ over
      → lt_z (gross_of w) (pos 0) ≡ under
      → is_s c ≡ false
      → IsFine p (chosen_weighing (over || under) w (with_tare w (nat_abs (gross_of w))))
      (in_limits c over under (Weight (head_of c (stability w)) (number_in (resolution_by (scale_of p w) (gross_of w)) (gross_of w))))
  tared_by_lem w true under c o u other = tt
  tared_by_lem w false true c o u other = tt
  tared_by_lem w false false c o u other =
      rw (other, resolution_tared p w (nat_abs (gross_of w)), (between (gross_of w) p.capacity o u).0)
      (ap (λ (r : Resolution). number_in r (gross_of w)) (fine_by w (gross_of w) o))

  tared_fine : (w : Weighing) (c : ℕ) → is_s c ≡ false → IsFine p (tared p w c).weighing (tared p w c).answer
  unfolding tared_by
  tared_fine w c other = tared_by_lem w (lt_z (pos p.capacity) (gross_of w)) (lt_z (gross_of w) (pos 0)) c refl refl other

  -- TA
  told_fine : (w : Weighing) (m : ℕ) → m ≤ p.capacity → IsFine p (with_tare w m) (tare_answer (scale_of p w) m)
  told_fine w m range =
      rw (resolution_tared p w m) (ap (λ (r : Resolution). number_in r (pos m)) (fine_by w (pos m) (le-ltb p.capacity m range)))

  settled_fine : (pending : Pending) (w : Weighing) → IsFine p (settled p pending w).weighing (settled p pending w).answer
  settled_fine Weigh w = weighed_fine w
  settled_fine Zero w = zeroed_fine w _ _
  settled_fine Tare w = tared_fine w place_t refl
  settled_fine Change w = weighed_fine w

  -- ---- a command's own rule

  begun_fine : (s : State) (pending : Pending) → FineReaction p (begun p s pending)
  unfolding begun_by settled_reaction_by
  begun_fine s pending =
      by_choice (FineReaction p) (s.weighing.sampled && s.weighing.stable) (λ e. settled_fine pending s.weighing) (λ e. tt)

  change_fine : (s : State) (threshold : ℕ) → FineReaction p (changing p s threshold)
  unfolding changing
  change_fine s threshold = begun_fine (with_sending s (with_threshold s.sending threshold)) Change

  module _ (s : State) (range : s.weighing.tare.0 ≤ p.capacity) where
    run_fine : (c : ℕ) → Ruled c → FineReaction p (run p s c)
    run_fine c ruled =
        run_cases (FineReaction p) p s c ruled
        tt
        tt
        (λ text. tt)
        (λ is. begun_fine (sending_as s Off) Weigh)
        (λ needs now. weighed_fine s.weighing)
        (λ is. begun_fine s Zero)
        (λ needs. zeroed_fine s.weighing _ _)
        tt
        (λ is. change_fine s 0)
        (λ is. begun_fine s Tare)
        (λ needs. tared_fine s.weighing place_ti refl)
        tt
        (λ is. told_fine s.weighing s.weighing.tare.0 range)
        (λ is. tt)

    -- ---- a finished line

    performed_fine : (j : State) (l : Line) (v : Verdict) → Proper (situation_of p j) l v → FineReaction p (performed p s l v)
    performed_fine j l (Erroneous e) proper = tt
    performed_fine j l Reset proper = tt
    performed_fine j l (Busy c) proper = tt
    performed_fine j l (Wrong c) proper = tt
    performed_fine j l (NoSample c) proper = tt
    performed_fine j l (Run c) proper = run_fine c proper.ruled
    performed_fine j l (Preset m) proper = told_fine s.weighing m.0 proper
    performed_fine j l (verdicts.Change t) proper = change_fine s t.0
    performed_fine j l (Show n) proper = tt
    performed_fine j l (Select u) proper = tt

  -- ---- a byte, and a sample

  byte_fine : (s : State) → length s.line.bytes ≡ line_limit → state_allowed p s ≡ true → (b : ℕ) (bad : Bool) → FineReaction p (byte_reaction p s b bad)
  unfolding byte_reaction
  byte_fine s cells allowed b bad =
      let l : Line = (received_byte s.line b bad).line in
      let held : InCells l = received_in s.line (record { cells = cells; len = leb-true s.line.len line_limit (allowed_tests p s allowed).line }) b bad in
      by_choice (FineReaction p) (received_byte s.line b bad).ended
      (λ e.
      performed_fine (with_line s (cleared_line l)) (allowed_state p s allowed).tare s l (judgement (situation_of p s) l)
      (judged_proper (situation_of p s) l held.cells held.len))
      (λ e. tt)

  sample_fine : (s : State) → (z : Load) (stable : Bool) → FineReaction p (sample_reaction p s z stable)
  unfolding settled_reaction_by
  sample_fine s z stable =
      sample_cases (FineReaction p) p s z stable
      (λ q waits e. settled_fine q (with_sample s.weighing z stable))
      (λ q waits e most. tt)
      (λ q waits e less. tt)
      (λ none e. tt)
      (λ none e. weighed_fine (with_sample s.weighing z stable))
      (λ none e.
      change_cases (FineReaction p) p (sampled_state s z stable)
      (λ out told. tt)
      (λ out first. weighed_fine (with_sample s.weighing z stable))
      (λ inside due. weighed_fine (with_sample s.weighing z stable))
      (λ inside due. tt))

-- ---- all of it

typed_before : (p : Profile) → p.fine ≡ p.capacity → (s : State) (t : List ℕ)
    → preset_in (situation_of p s) t ≡ read_preset (resolution_in p s.weighing) (judging.number_in (resolution_in p s.weighing).unit t)
unfolding preset_in
typed_before p unranged s t =
    let n = judging.number_in (resolution_in p s.weighing).unit t in
    ap (λ (r : Resolution). read_preset r n) (unranged_preset p.capacity p.fine (resolution_in p s.weighing) n unranged ∙ fine_itself p s.weighing)

pub unranged_as_before : UnrangedAsBefore
unranged_as_before p unranged =
    record {
      profile = profile_before_lem p unranged;
      typed = typed_before p unranged;
      byte = byte_fine p unranged;
      sample = λ s allowed. sample_fine p unranged s;
    }
