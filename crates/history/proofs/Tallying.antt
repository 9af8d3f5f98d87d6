-- What the tally makes of an answer, by its kind.
-- Assumes nothing.
use Prim.Native.Nat.{ℕ, ◌*◌, ◌≤◌}
use mathlib.Core.Path.{◌≡◌, refl, subst, ◌∙◌}
use mathlib.Core.Bool.{Bool, true, false, not, ◌&&◌, or-true}
use mathlib.Core.List.{List}
use borrow.Author.Tests.{le-leb}
use lib.IntN.{ℤ, pos, nat_abs, ◌-ℤ◌}
use Rattle.model.specs.declared.profile.Profile.{Profile}
use Rattle.text.specs.Ascii.{ascii, same_text}
use Rattle.text.specs.Reading.{is_decimal}
use Rattle.weight.specs.declared.rounding.Resolution.{Resolution}
use Rattle.weight.specs.declared.units.WeightUnit.{WeightUnit}
use Rattle.weight.specs.Rounding.{place_femtograms, printed_femtograms, exact_femtograms, places_of, Near}
use Rattle.history.specs.Tally.{Input, Tally, in_force, in_force_at, in_same_range, is_weight_answer, chosen_tally, with_tare_of, with_unit_of, with_zero_of, taken, ends, ended, ended_text, is_reset_line, after_reset, latest_of, is_loaded, typed_text, typed_tare, exact_weight, allowance, number_femtograms, grants_zero, grants_tare, grants_clear, grants_typed, tells_limit, is_unit_line, unit_set, grants_unit, granted, load_holds, typed_holds, unit_holds, weight_holds, tallied, holds}
use Rattle.history.proofs.AnswerKinds.{Tests, Denied, Silent, Zeroes, Tares, Clears, Tells, Weighs, Sets}
use Rattle.history.proofs.WeightLines.{Shows}

-- ---- the line is what the input makes of it, whatever is answered

-- neither @ nor a granted command touches it
reset_line_by : (b : Bool) (u : Tally) → (chosen_tally b (with_tare_of u (pos 0) false) u).line ≡ u.line
reset_line_by true u = refl
reset_line_by false u = refl

granted_line_by
    : (z t c a m : Bool) (u : Tally) (latest tare typed : ℤ) (v : WeightUnit)
    → (chosen_tally z (with_zero_of u latest)
    (chosen_tally t (with_tare_of u tare false)
    (chosen_tally c (with_tare_of u (pos 0) false) (chosen_tally a (with_tare_of u typed true) (chosen_tally m (with_unit_of u v) u))))
    ).line
    ≡ u.line
granted_line_by true t c a m u latest tare typed v = refl
granted_line_by false true c a m u latest tare typed v = refl
granted_line_by false false true a m u latest tare typed v = refl
granted_line_by false false false true m u latest tare typed v = refl
granted_line_by false false false false true u latest tare typed v = refl
granted_line_by false false false false false u latest tare typed v = refl

module _ (p : Profile) (t : Tally) (i : Input) (l : List ℕ) where
  pub tallied_line : (tallied p t i l).line ≡ (taken t i).line
  unfolding tallied granted after_reset
  tallied_line =
      let u = after_reset t i (taken t i) in
      granted_line_by (grants_zero l) (grants_tare l) (grants_clear l) (grants_typed t i l) (grants_unit t i l) u (latest_of u)
      (exact_femtograms (latest_of u -ℤ u.zero)) (typed_tare p (in_force p t) (ended_text t i)) (unit_set (ended_text t i))
      ∙ reset_line_by (ends t i && is_reset_line (ended t i)) (taken t i)

  -- ---- the tally after the answer

  pub after_denied : {limit : Bool} → Tests false false false false false limit false l → tallied p t i l ≡ after_reset t i (taken t i)
  unfolding tallied granted
  after_denied k = rw (k.zero_is, k.tare_is, k.clear_is, k.told_is, k.unit_is)

  pub after_zeroes : Zeroes l → tallied p t i l ≡ with_zero_of (after_reset t i (taken t i)) (latest_of (after_reset t i (taken t i)))
  unfolding tallied granted
  after_zeroes k = rw k.zero_is

  pub after_tares : Tares l
      → tallied p t i l
      ≡ with_tare_of (after_reset t i (taken t i)) (exact_femtograms (latest_of (after_reset t i (taken t i)) -ℤ (after_reset t i (taken t i)).zero)) false
  unfolding tallied granted
  after_tares k = rw (k.zero_is, k.tare_is)

  pub after_clears : Clears l → tallied p t i l ≡ with_tare_of (after_reset t i (taken t i)) (pos 0) false
  unfolding tallied granted
  after_clears k = rw (k.zero_is, k.tare_is, k.clear_is)

  pub after_typed : Tells l → same_text (ended_text t i) (ascii "TA") ≡ false
      → tallied p t i l ≡ with_tare_of (after_reset t i (taken t i)) (typed_tare p (in_force p t) (ended_text t i)) true
  unfolding tallied granted
  after_typed k other = rw (k.zero_is, k.tare_is, k.clear_is, k.told_is, other)

  pub after_told : Tells l → same_text (ended_text t i) (ascii "TA") ≡ true → tallied p t i l ≡ after_reset t i (taken t i)
  unfolding tallied granted
  after_told k alone = rw (k.zero_is, k.tare_is, k.clear_is, k.told_is, alone, k.unit_is)

  pub after_weighs : Weighs l → tallied p t i l ≡ after_reset t i (taken t i)
  unfolding tallied granted
  after_weighs k = rw (k.zero_is, k.tare_is, k.clear_is, k.told_is, k.unit_is)

  pub after_sets : Sets l → is_unit_line (ended t i) ≡ true → tallied p t i l ≡ with_unit_of (after_reset t i (taken t i)) (unit_set (ended_text t i))
  unfolding tallied granted
  after_sets k line = rw (k.zero_is, k.tare_is, k.clear_is, k.told_is, k.unit_is, line)

-- ---- a weight that is near enough

same_range : (c : Bool) → in_same_range c c ≡ true
same_range true = refl
same_range false = refl

module _ (r : Resolution) (t : Tally) (l : List ℕ) (w : ℤ) (s : Shows r w l) (near : Near (allowance r t) (printed_femtograms r (places_of r w)) (exact_weight t l)) where
  -- the comparison of the tally
  near_enough : 2 * nat_abs (number_femtograms r.unit r.decimals (places_of r w) -ℤ exact_weight t l) ≤ allowance r t
  unfolding Near printed_femtograms place_femtograms
  near_enough = near

  -- a whole weight answer passes it
  weight_passes : weight_holds r t l ≡ true
  unfolding weight_holds
  weight_passes = rw (s.whole, s.number, same_range r.coarse, le-leb _ _ near_enough) (or-true (not (is_weight_answer l)))

-- ---- what is asked of the answer

module _ (p : Profile) (t : Tally) (i : Input) (l : List ℕ) where
  pub silent_holds : Silent l → holds p t i l ≡ true
  unfolding holds load_holds typed_holds unit_holds weight_holds
  silent_holds k = rw (k.zero_is, k.tare_is, k.told_is, k.net_is, k.unit_is, k.limit_is)

  pub denied_holds : Denied l → is_loaded (taken t i) ≡ true → holds p t i l ≡ true
  unfolding holds load_holds typed_holds unit_holds weight_holds
  denied_holds k loaded = rw (k.zero_is, k.tare_is, k.told_is, k.net_is, k.unit_is, loaded, or-true (not (tells_limit l)))

  pub zeroes_holds : Zeroes l → is_loaded (taken t i) ≡ true → holds p t i l ≡ true
  unfolding holds load_holds typed_holds unit_holds weight_holds
  zeroes_holds k loaded = rw (k.zero_is, k.tare_is, k.told_is, k.net_is, k.unit_is, loaded)

  pub clears_holds : Clears l → holds p t i l ≡ true
  unfolding holds load_holds typed_holds unit_holds weight_holds
  clears_holds k = rw (k.zero_is, k.tare_is, k.told_is, k.net_is, k.unit_is, k.limit_is)

  pub sets_holds : Sets l → ends t i ≡ true → is_unit_line (ended t i) ≡ true → holds p t i l ≡ true
  unfolding holds load_holds typed_holds unit_holds weight_holds
  sets_holds k end line = rw (k.zero_is, k.tare_is, k.told_is, k.net_is, k.unit_is, k.limit_is, end, line)

  -- a weight in the resolution in force
  module _
      (r : Resolution)
      (same : r ≡ in_force_at p (tallied p t i l) l)
      (w : ℤ)
      (s : Shows r w l)
      (near : Near (allowance r (tallied p t i l)) (printed_femtograms r (places_of r w)) (exact_weight (tallied p t i l) l))
    where
      -- it passes in the resolution that the tally finds in force
      held : weight_holds (in_force_at p (tallied p t i l) l) (tallied p t i l) l ≡ true
      held = subst (λ (x : Resolution). weight_holds x (tallied p t i l) l ≡ true) same (weight_passes r (tallied p t i l) l w s near)

      pub weighs_holds : Weighs l → is_loaded (taken t i) ≡ true → holds p t i l ≡ true
      unfolding holds load_holds typed_holds unit_holds
      weighs_holds k loaded = rw (held, k.zero_is, k.tare_is, k.told_is, k.net_is, k.unit_is, loaded)

      pub tares_holds : Tares l → is_loaded (taken t i) ≡ true → holds p t i l ≡ true
      unfolding holds load_holds typed_holds unit_holds
      tares_holds k loaded = rw (held, k.zero_is, k.tare_is, k.told_is, k.unit_is, loaded)

      pub told_holds : Tells l → ends t i ≡ true → same_text (ended_text t i) (ascii "TA") ≡ true → holds p t i l ≡ true
      unfolding holds load_holds typed_holds unit_holds
      told_holds k end alone = rw (held, k.zero_is, k.tare_is, k.told_is, k.net_is, k.unit_is, k.limit_is, end, alone)

      pub typed_holds_lem : Tells l → ends t i ≡ true → same_text (ended_text t i) (ascii "TA") ≡ false → is_decimal (typed_text (ended_text t i)) ≡ true → holds p t i l ≡ true
      unfolding holds load_holds typed_holds unit_holds
      typed_holds_lem k end other decimal = rw (held, k.zero_is, k.tare_is, k.told_is, k.net_is, k.unit_is, k.limit_is, end, other, decimal)
