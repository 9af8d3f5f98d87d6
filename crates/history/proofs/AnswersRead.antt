-- The host reads every answer that a finished line or a sample gives.
-- Assumes nothing.
use Prim.Native.Nat.{ℕ, zero, suc, ◌<◌, ◌≤◌}
use native.Mathlib.Omega.{arith}
use mathlib.Core.Path.{◌≡◌, refl, sym, subst, ◌∙◌}
use mathlib.Core.Bool.{Bool, true, false, cond, ◌&&◌, ◌||◌, or-true, false≢true}
use mathlib.Core.List.{List}
use borrow.Author.Tests.{le-leb, leb-true, lt-ltb, ne_eqb, eqb-true}
use lib.Dec.{leb}
use lib.IntN.{ℤ, pos, negsuc, neg_ℤ}
use lib.ListN.{length}
use lib.Signed.{lt_z, non_neg}
use Rattle.answer.proofs.Rows.{parameters_are}
use Rattle.answer.specs.Commands.{command_count, is_d, is_si, is_sir, is_m21, is_sr, is_ta, place_d, place_dw, place_m21, place_reset, place_s, place_sr, place_t, place_ta, place_tac, place_ti, place_z, place_zi, place_i3, place_i4, place_i5, has_text, place_i2}
use Rattle.answer.specs.declared.answer.Answer.{Answer}
use Rattle.answer.specs.declared.answer.Answer.TheVariants.{Plain, Weight}
use Rattle.answer.specs.declared.answer.Answer.TheVariants as answers
use Rattle.answer.specs.declared.answer.Status.{Status}
use Rattle.answer.specs.declared.answer.Status.TheVariants.{A, S, D, I, L, Over, Under}
use Rattle.forms.specs.Forms.{plain_form, text_form}
use Rattle.model.specs.declared.profile.Profile.{Profile}
use Rattle.model.specs.declared.profile.Text.{Text}
use Rattle.model.specs.declared.react.Reaction.{Reaction}
use Rattle.model.specs.declared.state.Pending.{Pending}
use Rattle.model.specs.declared.state.Pending.TheVariants.{Weigh, Zero, Tare, Change}
use Rattle.model.specs.declared.state.State.{State}
use Rattle.weight.specs.declared.loads.Load.{Load}
use Rattle.model.specs.declared.weighing.Weighing.{Weighing}
use Rattle.model.specs.Profiles.{profile_allowed, resolution_in, scale_of, text_of, text_allowed}
use Rattle.commands.specs.Reactions.{run, changing, identification_of, performed, byte_reaction, sending_as, situation_of}
use Rattle.commands.proofs.Ways.{by_choice, run_cases, change_cases, sample_cases}
use Rattle.model.specs.declared.sending.Mode.TheVariants.{Off}
use Rattle.model.specs.Groups.{with_line, with_sending}
use Rattle.waiting.specs.Changes.{with_threshold}
use Rattle.waiting.specs.Waits.{place_of_pending, sampled_state, settled, begun, sample_reaction, begun_by, settled_reaction_by}
use Rattle.waiting.proofs.InForce.{unit_settled}
use Rattle.weighing.proofs.InForce.{unit_after_tare}
use Rattle.weighing.proofs.Reach.{not_negative}
use Rattle.answer.specs.Lines.{head_of}
use Rattle.weighing.specs.Weighings.{stability, gross_of, net_of, number_in, resolution_by, weighed, with_sample, zeroed, tared, tare_answer, tared_by, zeroed_by, weighed_by}
use Rattle.model.proofs.ProfileFacts.{AllowedProfile, allowed_profile, text_short}
use Rattle.history.proofs.AnswerKinds.{Tests, weighed_weighs, tared_tares, tared_now_tares, told_tells}
use Rattle.history.proofs.DueWeights.{net_printable, gross_printable, tare_printable}
use Rattle.history.proofs.HostReads.{ReadByHost, nothing_read, list_read, plain_read, error_read, versions_read, text_read, unit_read, weight_read}
use Rattle.history.proofs.SentAnswers.{in_limits_lem}
use Rattle.history.proofs.WeightLines.{weighed_shows, tared_shows, tared_now_shows, told_shows}
use Rattle.history.specs.Tally.{is_weight_answer, tells_net, grants_tare}
use Rattle.line.specs.declared.judge.Verdict.{Verdict}
use Rattle.line.specs.declared.judge.Verdict.TheVariants.{Erroneous, Reset, Busy, Wrong, NoSample, Run, Preset, Show, Select}
use Rattle.line.specs.declared.judge.Verdict.TheVariants as verdicts
use Rattle.line.specs.declared.receive.Line.{Line}
use Rattle.text.specs.Printable.{is_printable}
use Rattle.line.specs.Judging.{judgement}
use Rattle.line.specs.Receiving.{cleared_line, received_byte}
use Rattle.line.specs.Unbounded.{Marked, finished_line, judgement_of}
use Rattle.line.proofs.Kept.{Holds, Keeps, ends_alike, holds_finished, holds_judged}
use Rattle.line.proofs.Proper.{Ruled, verdict_proper, verdict_ruled}
use Rattle.line.proofs.Verdicts.{busy_line, wrong_line, no_sample_line}
use Rattle.weight.specs.Printing.{printable}
use Rattle.weight.specs.Rounding.{round_away, steps_of, places_of}
use Rattle.weight.specs.declared.rounding.Resolution.{Resolution}
use Rattle.weight.specs.declared.units.WeightUnit.{WeightUnit}
use Rattle.weight.proofs.Allowed.{both_right}

-- ---- the texts of I2 to I5

-- a text that its line may carry
form20 : (c : ℕ) (t : Text 20) → has_text c ≡ true → text_allowed 20 t ≡ true → text_form c (text_of t) ≡ true
form20 c t place e =
    rw (place, le-leb (length (text_of t)) 20 (text_short 20 t.len t.bytes e), both_right (leb t.len 20) (is_printable (text_of t)) e)

form40 : (c : ℕ) (t : Text 40) → has_text c ≡ true → leb c place_i3 ≡ true → text_allowed 40 t ≡ true → text_form c (text_of t) ≡ true
form40 c t place first e =
    rw (
      place,
      first,
      le-leb (length (text_of t)) 40 (text_short 40 t.len t.bytes e),
      or-true (leb (length (text_of t)) 20),
      both_right (leb t.len 40) (is_printable (text_of t)) e,
    )

module _ (p : Profile) (allowed : profile_allowed p ≡ true) (v : WeightUnit) where
  abbrev facts : AllowedProfile p
  facts = allowed_profile p allowed

  -- I2 to I5, whose texts the profile allows
  information_read : (c : ℕ) → has_text c ≡ true → ReadByHost p v (answers.Text c)
  information_read zero h = absurd (false≢true h)
  information_read (suc zero) h = absurd (false≢true h)
  information_read (suc (suc zero)) h = text_read p v 2 (form40 2 p.model refl refl facts.model)
  information_read (suc (suc (suc zero))) h = text_read p v 3 (form40 3 p.software refl refl facts.software)
  information_read (suc (suc (suc (suc zero)))) h = text_read p v 4 (form20 4 p.serial refl facts.serial)
  information_read (suc (suc (suc (suc (suc zero))))) h = text_read p v 5 (form20 5 p.release refl facts.release)
  information_read (suc (suc (suc (suc (suc (suc c)))))) h = absurd (omega (arith, leb-true (suc (suc (suc (suc (suc (suc c)))))) place_i5 (both_right (leb place_i2 (suc (suc (suc (suc (suc (suc c))))))) (leb (suc (suc (suc (suc (suc (suc c)))))) place_i5) h)))

  -- I4, which power-on and @ send
  pub serial_read : ReadByHost p v (answers.Text place_i4)
  serial_read = information_read place_i4 refl

-- ---- weights

-- a weight that is not below zero is printed as such
natural_printed : (r : Resolution) (w : ℤ) → non_neg w ≡ true → non_neg (places_of r w) ≡ true
unfolding places_of steps_of round_away
natural_printed r (pos m) e = refl
natural_printed r (negsuc m) e = absurd (false≢true e)

-- the tally takes for weights: S S, S D
net_weight : {zero tare clear told limit unit : Bool} (l : List ℕ) → Tests zero tare clear told true limit unit l → is_weight_answer l ≡ true
net_weight l k = rw k.net_is

-- T S, TI S, TI D
tare_weight : {zero clear told net limit unit : Bool} (l : List ℕ) → Tests zero true clear told net limit unit l → is_weight_answer l ≡ true
tare_weight l k = rw (k.tare_is, or-true (tells_net l))

-- TA A
told_weight : {zero tare clear net limit unit : Bool} (l : List ℕ) → Tests zero tare clear true net limit unit l → is_weight_answer l ≡ true
told_weight l k = rw (k.told_is, or-true (tells_net l || grants_tare l))

-- a weight in the resolution in force is one in the unit in force
unit_in_lem : (p : Profile) (w : Weighing) → (resolution_in p w).unit ≡ w.unit
unfolding resolution_in
unit_in_lem p w = refl

in_unit_lem : (p : Profile) (w : Weighing) (a : Answer) → ReadByHost p (resolution_in p w).unit a → ReadByHost p w.unit a
in_unit_lem p w a = subst (λ (u : WeightUnit). ReadByHost p u a) (unit_in_lem p w)

module _ (p : Profile) (r : Resolution) where
  -- S S, S D
  net_form : (stable : Bool) (w : ℤ) → printable r w ≡ true → ReadByHost p r.unit (Weight (head_of place_s (cond stable S D)) (number_in r w))
  net_form true w fits =
      weight_read p r w fits place_s S refl refl (net_weight _ (weighed_weighs p true (number_in r w))) (weighed_shows p r w fits true)
  net_form false w fits =
      weight_read p r w fits place_s D refl refl (net_weight _ (weighed_weighs p false (number_in r w))) (weighed_shows p r w fits false)

  -- TI S, TI D
  tare_form : (stable : Bool) (w : ℤ) → printable r w ≡ true → non_neg w ≡ true → ReadByHost p r.unit (Weight (head_of place_ti (cond stable S D)) (number_in r w))
  tare_form true w fits sign =
      weight_read p r w fits place_ti S refl (natural_printed r w sign) (tare_weight _ (tared_now_tares p true (number_in r w))) (tared_now_shows p r w fits true)
  tare_form false w fits sign =
      weight_read p r w fits place_ti D refl (natural_printed r w sign) (tare_weight _ (tared_now_tares p false (number_in r w))) (tared_now_shows p r w fits false)

  -- T S
  settled_form : (stable : Bool) → stable ≡ true → (w : ℤ) → printable r w ≡ true → non_neg w ≡ true
      → ReadByHost p r.unit (Weight (head_of place_t (cond stable S D)) (number_in r w))
  settled_form stable e w fits sign =
      rw e
      (weight_read p r w fits place_t S refl (natural_printed r w sign) (tare_weight _ (tared_tares p (number_in r w))) (tared_shows p r w fits))

-- TA
told_read : (p : Profile) → profile_allowed p ≡ true → (w : Weighing) (n : ℕ) → n ≤ p.capacity → ReadByHost p w.unit (tare_answer (scale_of p w) n)
told_read p allowed w n range =
    let r = resolution_by (scale_of p w) (pos n) in
    let fits = tare_printable p allowed w n range in
    in_unit_lem p w (tare_answer (scale_of p w) n)
    (weight_read p r (pos n) fits place_ta A refl (natural_printed r (pos n) refl) (told_weight _ (told_tells p (number_in r (pos n)))) (told_shows p r (pos n) fits))

-- ---- S, Z, T and SR

module _ (p : Profile) (allowed : profile_allowed p ≡ true) (w : Weighing) (range : w.tare.0 ≤ p.capacity) where
  -- in the resolution in force, by gross
  abbrev at_gross : Resolution
  at_gross = resolution_by (scale_of p w) (gross_of w)

  -- S, SI, SIR
  weighed_read : ReadByHost p w.unit (weighed p w)
  unfolding weighed_by
  weighed_read =
      in_limits_lem (ReadByHost p w.unit) place_s (lt_z (pos p.capacity) (gross_of w)) (lt_z (gross_of w) (neg_ℤ (pos p.underload)))
      (Weight (head_of place_s (stability w)) (number_in at_gross (net_of w)))
      (plain_read p _ place_s Over refl)
      (plain_read p _ place_s Under refl)
      (λ o u. in_unit_lem p w _ (net_form p at_gross w.stable (net_of w) (net_printable p allowed w (gross_of w) w.tare.0 o u range)))

  -- Z, ZI
  zeroed_read : (v : WeightUnit) (c : ℕ) (granted : Status) → plain_form c Over ≡ true → plain_form c Under ≡ true → plain_form c granted ≡ true
      → ReadByHost p v (zeroed p w c granted).answer
  unfolding zeroed_by
  zeroed_read v c granted o u g =
      in_limits_lem (ReadByHost p v) c (lt_z (pos p.zeroing) w.load.0) (lt_z w.load.0 (neg_ℤ (pos p.zeroing))) (Plain (head_of c granted))
      (plain_read p _ c Over o)
      (plain_read p _ c Under u)
      (λ over under. plain_read p _ c granted g)

  -- T, TI
  tared_read : (c : ℕ) → plain_form c Over ≡ true → plain_form c Under ≡ true
      → (printable (resolution_by (scale_of p w) (gross_of w)) (gross_of w) ≡ true → non_neg (gross_of w) ≡ true
      → ReadByHost p (resolution_in p w).unit (Weight (head_of c (stability w)) (number_in (resolution_by (scale_of p w) (gross_of w)) (gross_of w))))
      → ReadByHost p w.unit (tared p w c).answer
  unfolding tared_by
  tared_read c o u h =
      in_limits_lem (ReadByHost p w.unit) c (lt_z (pos p.capacity) (gross_of w)) (lt_z (gross_of w) (pos 0))
      (Weight (head_of c (stability w)) (number_in at_gross (gross_of w)))
      (plain_read p _ c Over o)
      (plain_read p _ c Under u)
      (λ over under. in_unit_lem p w _ (h (gross_printable p allowed w (gross_of w) over under) (not_negative (gross_of w) refl under)))

  -- what a waiting command answers at a stable sample
  settled_read : (pending : Pending) → w.stable ≡ true → ReadByHost p w.unit (settled p pending w).answer
  settled_read Weigh stable = weighed_read
  settled_read Zero stable = zeroed_read w.unit place_z A refl refl refl
  settled_read Tare stable = tared_read place_t refl refl (λ fits sign. settled_form p at_gross w.stable stable (gross_of w) fits sign)
  settled_read Change stable = weighed_read

-- ZI with S or D
stability_form : (stable : Bool) → plain_form place_zi (cond stable S D) ≡ true
stability_form true = refl
stability_form false = refl

-- ---- a command's own rule

-- the host reads the answer of a reaction, in the unit in force after it
abbrev ReadIn : Profile → Reaction → Type 0
ReadIn p x = ReadByHost p x.state.weighing.unit x.answer

module _ (p : Profile) (allowed : profile_allowed p ≡ true) (s : State) (range : s.weighing.tare.0 ≤ p.capacity) where
  -- judged at once, or waiting without an answer
  begun_read : (pending : Pending) → ReadIn p (begun p s pending)
  unfolding begun_by settled_reaction_by
  begun_read pending =
      by_choice (ReadIn p) (s.weighing.sampled && s.weighing.stable)
      (λ e.
      rw (unit_settled p pending s.weighing)
      (settled_read p allowed s.weighing range pending (both_right s.weighing.sampled s.weighing.stable e)))
      (λ e. nothing_read p _)

module _ (p : Profile) (allowed : profile_allowed p ≡ true) (s : State) (range : s.weighing.tare.0 ≤ p.capacity) where
  -- SR
  change_read : (threshold : ℕ) → ReadIn p (changing p s threshold)
  unfolding changing
  change_read threshold = begun_read p allowed (with_sending s (with_threshold s.sending threshold)) range Change

module _ (p : Profile) (allowed : profile_allowed p ≡ true) (s : State) (range : s.weighing.tare.0 ≤ p.capacity) (c : ℕ) where
  -- a command that is run
  run_read : Ruled c → ReadIn p (run p s c)
  run_read ruled =
      run_cases (ReadIn p) p s c ruled
      (list_read p _)
      (versions_read p _)
      (λ text. information_read p allowed _ c text)
      (λ is. begun_read p allowed (sending_as s Off) range Weigh)
      (λ needs now. weighed_read p allowed s.weighing range)
      (λ is. begun_read p allowed s range Zero)
      (λ needs. zeroed_read p allowed s.weighing range _ place_zi (stability s.weighing) refl refl (stability_form s.weighing.stable))
      (plain_read p _ place_dw A refl)
      (λ is. change_read p allowed s range 0)
      (λ is. begun_read p allowed s range Tare)
      (λ needs.
      rw (unit_after_tare p s.weighing place_ti)
      (tared_read p allowed s.weighing range place_ti refl refl
      (tare_form p (resolution_by (scale_of p s.weighing) (gross_of s.weighing)) s.weighing.stable (gross_of s.weighing))))
      (plain_read p _ place_tac A refl)
      (λ is. told_read p allowed s.weighing s.weighing.tare.0 range)
      (λ is. unit_read p s.weighing.unit)

-- ---- a finished line

-- what is known of the command that a verdict names, and of a typed tare
abbrev Named : Profile → Verdict → Type 0
Named p (Erroneous e) = Unit
Named p Reset = Unit
Named p (Busy c) = plain_form (identification_of c) I ≡ true
Named p (Wrong c) = plain_form (identification_of c) L ≡ true
Named p (NoSample c) = plain_form (identification_of c) I ≡ true
Named p (Run c) = Ruled c
Named p (Preset m) = m.0 ≤ p.capacity
Named p (verdicts.Change t) = Unit
Named p (Show n) = Unit
Named p (Select u) = Unit

-- every name but @ has an answer with I, by its identification
identified_by : (now : Bool) (c : ℕ) → (is_si c || is_sir c || is_sr c) ≡ now → c < command_count → (c ≡ place_reset → ⊥) → plain_form (cond now place_s c) I ≡ true
identified_by true c e known other = refl
identified_by false c e known other = rw (lt-ltb c command_count known, e, ne_eqb c place_reset other)

-- the same by the tests of the name
identified : (c : ℕ) → c < command_count → (c ≡ place_reset → ⊥) → plain_form (identification_of c) I ≡ true
identified c known other = identified_by (is_si c || is_sir c || is_sr c) c refl known other

-- a name that takes parameters has an answer with L
wrong_by : (d sr ta m : Bool) (c : ℕ) → is_d c ≡ d → is_sr c ≡ sr → is_ta c ≡ ta → is_m21 c ≡ m → (d || sr || ta || m) ≡ true
    → plain_form (identification_of c) L ≡ true
wrong_by true sr ta m c d s t u e = rw (eqb-true c place_d d)
wrong_by false true ta m c d s t u e = rw (eqb-true c place_sr s)
wrong_by false false true m c d s t u e = rw (eqb-true c place_ta t)
wrong_by false false false true c d s t u e = rw (eqb-true c place_m21 u)
wrong_by false false false false c d s t u e = absurd (false≢true e)

wrong_form : (c : ℕ) → (is_d c || is_sr c || is_ta c || is_m21 c) ≡ true → plain_form (identification_of c) L ≡ true
wrong_form c = wrong_by (is_d c) (is_sr c) (is_ta c) (is_m21 c) c refl refl refl refl

-- the verdict on a line names a command that the reader knows
verdict_named
    : (p : Profile) (s : State) (f : List Marked) (l : Line) → Holds l f → (v : Verdict)
    → judgement_of (situation_of p s) f ≡ v
    → Named p v
verdict_named p s f l held (Erroneous e) h = tt
verdict_named p s f l held Reset h = tt
verdict_named p s f l held (Busy c) h =
    let k = (busy_line (situation_of p s) f h).0 in
    identified c k.a_name k.no_reset
verdict_named p s f l held (Wrong c) h = wrong_form c (parameters_are c ∙ (wrong_line (situation_of p s) f h).1)
verdict_named p s f l held (NoSample c) h =
    let k = (no_sample_line (situation_of p s) f h).0 in
    identified c k.a_name k.no_reset
verdict_named p s f l held (Run c) h = verdict_ruled (situation_of p s) f (Run c) h
verdict_named p s f l held (Preset m) h =
    verdict_proper (situation_of p s) f l held (Preset m) h
verdict_named p s f l held (verdicts.Change t) h = tt
verdict_named p s f l held (Show n) h = tt
verdict_named p s f l held (Select u) h = tt

module _ (p : Profile) (allowed : profile_allowed p ≡ true) (s : State) (range : s.weighing.tare.0 ≤ p.capacity) where
  -- what each verdict answers
  performed_read : (l : Line) (v : Verdict) → Named p v → ReadIn p (performed p s l v)
  performed_read l (Erroneous e) named = error_read p _ e
  performed_read l Reset named = serial_read p allowed _
  performed_read l (Busy c) named = plain_read p _ (identification_of c) I named
  performed_read l (Wrong c) named = plain_read p _ (identification_of c) L named
  performed_read l (NoSample c) named = plain_read p _ (identification_of c) I named
  performed_read l (Run c) named = run_read p allowed s range c named
  performed_read l (Preset m) named = told_read p allowed s.weighing m.0 named
  performed_read l (verdicts.Change t) named = change_read p allowed s range t.0
  performed_read l (Show n) named = plain_read p _ place_d A refl
  performed_read l (Select u) named = plain_read p _ place_m21 A refl

-- ---- a byte

module _ (p : Profile) (allowed : profile_allowed p ≡ true) (s : State) (range : s.weighing.tare.0 ≤ p.capacity) (u : List Marked) (keeps : Keeps s.line u) where
  -- the answer to a byte
  pub byte_read : (b : ℕ) (bad : Bool) → ReadIn p (byte_reaction p s b bad)
  unfolding byte_reaction
  byte_read b bad =
      let l : Line = (received_byte s.line b bad).line in
      let v : Verdict = judgement (situation_of p s) l in
      by_choice (ReadIn p) (received_byte s.line b bad).ended
      (λ e.
      let held : Holds l (finished_line u) = holds_finished s.line u keeps b bad (sym (ends_alike s.line u keeps b bad) ∙ e) in
      performed_read p allowed (with_line s (cleared_line l)) range l v
      (verdict_named p s (finished_line u) l held v
      (sym (holds_judged (situation_of p s) l (finished_line u) held))))
      (λ e. nothing_read p _)

-- ---- a sample

-- what may wait is answered by I
pending_form : (pending : Pending) → plain_form (place_of_pending pending) I ≡ true
pending_form Weigh = refl
pending_form Zero = refl
pending_form Tare = refl
pending_form Change = refl

module _ (p : Profile) (allowed : profile_allowed p ≡ true) (s : State) (range : s.weighing.tare.0 ≤ p.capacity) (z : Load) where
  -- the answer to a sample
  pub sample_read : (stable : Bool) → ReadIn p (sample_reaction p s z stable)
  unfolding settled_reaction_by
  sample_read stable =
      sample_cases (ReadIn p) p s z stable
      (λ q waits e.
      rw (unit_settled p q (with_sample s.weighing z stable))
      (settled_read p allowed (with_sample s.weighing z stable) range q e))
      (λ q waits e most. plain_read p _ (place_of_pending q) I (pending_form q))
      (λ q waits e less. nothing_read p _)
      (λ none e. nothing_read p _)
      (λ none e. weighed_read p allowed (with_sample s.weighing z stable) range)
      (λ none e.
      change_cases (ReadIn p) p (sampled_state s z stable)
      (λ out told. nothing_read p _)
      (λ out first. weighed_read p allowed (with_sample s.weighing z stable) range)
      (λ inside due. weighed_read p allowed (with_sample s.weighing z stable) range)
      (λ inside due. nothing_read p _))
