-- Where no line was answered M21 A, g stays in force. This follows from demand 3 alone.
-- Assumes nothing.
use mathlib.Core.Path.{◌≡◌, refl, sym, ap, ◌∙◌}
use mathlib.Core.Bool.{Bool, true, false, not, ◌&&◌, ◌||◌, false≢true}
use mathlib.Core.List.{List, [], ◌∷◌}
use Prim.Native.Nat.{ℕ}
use borrow.Author.Tests.{not-true}
use lib.Dec.{eqb}
use lib.IntN.{ℤ, pos, ◌-ℤ◌}
use Rattle.model.specs.declared.profile.Profile.{Profile}
use Rattle.text.specs.Reading.{read_field}
use Rattle.weight.specs.declared.units.WeightUnit.{WeightUnit}
use Rattle.weight.specs.declared.units.WeightUnit.TheVariants.{G}
use Rattle.weight.specs.Rounding.{exact_femtograms}
use Rattle.weight.proofs.Allowed.{both_left, both_right}
use Rattle.history.specs.Grams.{InGrams, is_grams, never_set, stays_in_grams, tells_grams}
use Rattle.history.specs.Tally.{Event, Input, byte_is, sample_is, Tally, start_tally, in_force, in_force_at, chosen_tally, with_tare_of, with_unit_of, with_zero_of, taken, ends, ended, ended_text, is_reset_line, after_reset, latest_of, typed_tare, sets_unit, unit_set, grants_zero, grants_tare, grants_clear, grants_typed, grants_unit, granted, is_weight_answer, is_whole, ten_of, compares, load_holds, typed_holds, unit_holds, weight_holds, tallied, holds, after_event, event_holds, accepts}
use Rattle.history.proofs.Demand3.{demand3}

-- ---- the unit after a call

taken_unit : (t : Tally) (i : Input) → (taken t i).unit ≡ t.unit
taken_unit t (byte_is m) = refl
taken_unit t (sample_is z stable) = refl

reset_unit_by : (b : Bool) (u : Tally) → (chosen_tally b (with_tare_of u (pos 0) false) u).unit ≡ u.unit
reset_unit_by true u = refl
reset_unit_by false u = refl

granted_unit_by
    : (z t c a m : Bool) (u : Tally) (latest tare typed : ℤ) (v : WeightUnit) → m ≡ false
    → (chosen_tally z (with_zero_of u latest)
    (chosen_tally t (with_tare_of u tare false)
    (chosen_tally c (with_tare_of u (pos 0) false) (chosen_tally a (with_tare_of u typed true) (chosen_tally m (with_unit_of u v) u))))
    ).unit
    ≡ u.unit
granted_unit_by true t c a m u latest tare typed v e = refl
granted_unit_by false true c a m u latest tare typed v e = refl
granted_unit_by false false true a m u latest tare typed v e = refl
granted_unit_by false false false true m u latest tare typed v e = refl
granted_unit_by false false false false true u latest tare typed v e = absurd (false≢true (sym e))
granted_unit_by false false false false false u latest tare typed v e = refl

module _ (p : Profile) (t : Tally) (i : Input) (l : List ℕ) (unset : sets_unit l ≡ false) where
  unset_by : grants_unit t i l ≡ false
  unset_by = rw unset

  unit_kept : (tallied p t i l).unit ≡ t.unit
  unfolding tallied granted after_reset
  unit_kept =
      let u = after_reset t i (taken t i) in
      granted_unit_by (grants_zero l) (grants_tare l) (grants_clear l) (grants_typed t i l) (grants_unit t i l) u (latest_of u)
      (exact_femtograms (latest_of u -ℤ u.zero)) (typed_tare p (in_force p t) (ended_text t i)) (unit_set (ended_text t i)) unset_by
      ∙ reset_unit_by (ends t i && is_reset_line (ended t i)) (taken t i)
      ∙ taken_unit t i

after_unit : (p : Profile) (t : Tally) (e : Event) → sets_unit e.answer ≡ false → (after_event p t e).unit ≡ t.unit
unfolding after_event
after_unit p t e unset = by (eqb e.refusal 0)
  where
    by : (b : Bool) → (chosen_tally b (tallied p t e.input e.answer) t).unit ≡ t.unit
    by true = unit_kept p t e.input e.answer unset
    by false = refl

-- ---- what is told

weight_by : (w whole c : Bool) → (not w || (whole && c)) ≡ true → (not w || whole) ≡ true
weight_by true true c h = refl
weight_by true false c h = h
weight_by false whole c h = refl

module _ (p : Profile) (t : Tally) (i : Input) (l : List ℕ) (grams : (tallied p t i l).unit ≡ G) where
  told_grams : holds p t i l ≡ true → tells_grams l ≡ true
  unfolding holds weight_holds in_force
  told_grams h =
      let r = in_force_at p (tallied p t i l) l in
      let whole : (not (is_weight_answer l) || is_whole (tallied p t i l).unit l) ≡ true =
      weight_by (is_weight_answer l) (is_whole (tallied p t i l).unit l) (compares r (tallied p t i l) l (read_field (ten_of l)))
      (both_right (load_holds (taken t i) l && typed_holds t i l && unit_holds t i l) (weight_holds r (tallied p t i l) l) h) in
      rw grams at whole

event_grams : (p : Profile) (t : Tally) (e : Event) → t.unit ≡ G → sets_unit e.answer ≡ false → event_holds p t e ≡ true
    → (not (eqb e.refusal 0) || tells_grams e.answer) ≡ true
unfolding event_holds
event_grams p t e grams unset h = by (eqb e.refusal 0) h
  where
    by : (b : Bool) → (not b || holds p t e.input e.answer) ≡ true → (not b || tells_grams e.answer) ≡ true
    by true h = told_grams p t e.input e.answer (unit_kept p t e.input e.answer unset ∙ grams) h
    by false h = refl

-- ---- the whole list

stays : (p : Profile) (t : Tally) (es : List Event) → t.unit ≡ G → accepts p t es ≡ true → never_set es ≡ true → stays_in_grams p t es ≡ true
unfolding accepts never_set stays_in_grams
stays p t [] grams accepted never = refl
stays p t (e ∷ es) grams accepted never =
    let unset : sets_unit e.answer ≡ false = not-true (sets_unit e.answer) (both_left (not (sets_unit e.answer)) (never_set es) never) in
    let next : (after_event p t e).unit ≡ G = after_unit p t e unset ∙ grams in
    let told = event_grams p t e grams unset (both_left (event_holds p t e) (accepts p (after_event p t e) es) accepted) in
    rw (ap is_grams next, told)
    (stays p (after_event p t e) es next (both_right (event_holds p t e) (accepts p (after_event p t e) es) accepted)
    (both_right (not (sets_unit e.answer)) (never_set es) never))

pub in_grams_lem : InGrams
in_grams_lem p earlier room r buffer call none es s calls = stays p start_tally es refl (demand3 p earlier room r buffer call none es s calls)
