-- One law for each kind of answer: the tally accepts it, and follows the weighing that the device goes on with. Used both where
-- a line ends and where a sample ends a wait.
-- Assumes nothing.
use Prim.Native.Nat.{ℕ, ◌≤◌}
use mathlib.Core.Path.{◌≡◌, refl, sym, ap, ap₂, subst, ◌∙◌}
use mathlib.Core.Bool.{Bool, true, false, not, ◌||◌, and-false, or-true}
use mathlib.Core.List.{List}
use borrow.Author.Tests.{le-ltb}
use lib.IntN.{ℤ, pos, neg_ℤ, nat_abs}
use lib.Signed.{lt_z}
use Rattle.answer.specs.Commands.{place_m21, place_s, place_tac}
use Rattle.answer.specs.declared.answer.Answer.TheVariants.{Plain, Weight}
use Rattle.answer.specs.declared.answer.Status.{Status}
use Rattle.answer.specs.declared.answer.Status.TheVariants.{A}
use Rattle.model.specs.declared.profile.Profile.{Profile}
use Rattle.model.specs.declared.weighing.Weighing.{Weighing}
use Rattle.weighing.proofs.InForce.{resolution_tared}
use Rattle.weighing.proofs.Reach.{between}
use Rattle.answer.specs.Lines.{head_of}
use Rattle.weighing.specs.Weighings.{stability, gross_of, net_of, number_in, resolution_by, in_limits, chosen_weighing, weighed, zeroed, tared, with_zero, with_tare, with_unit, tare_answer, zeroed_by, weighed_by, tared_by}
use Rattle.device.specs.Calls.{answer_bytes}
use Rattle.model.specs.Profiles.{profile_allowed, resolution_in, scale_of}
use Rattle.text.specs.Ascii.{ascii, same_text}
use Rattle.text.specs.Field.{field_of}
use Rattle.text.specs.Reading.{is_decimal}
use Rattle.weight.specs.declared.rounding.Resolution.{Resolution}
use Rattle.weight.specs.declared.units.WeightUnit.{WeightUnit}
use Rattle.weight.specs.Ranges.{resolution_at}
use Rattle.weight.specs.Rounding.{exact_femtograms, half_up, places_of, printed_femtograms, Near}
use Rattle.weight.specs.Printing.{printable}
use Rattle.model.proofs.InForce.{allowed_at}
use Rattle.weight.proofs.HalfStep.{rounded_exact}
use Rattle.text.proofs.Named.{same_self}
use Rattle.weight.proofs.Nearness.{near_refl}
use Rattle.history.specs.Tally.{Tally, Input, in_force, in_force_at, allowance, taken, ends, ended, ended_text, is_unit_line, unit_set, typed_text, typed_tare, ten_of, tells_tare, grants_typed, after_reset, tallied, holds}
use Rattle.history.specs.TypedTares.{typed_field, shows_typed}
use Rattle.history.proofs.AnswerKinds.{Denied, Silent, Zeroes, Tares, Weighs, over_denied, under_denied, weighed_weighs, cleared_clears, selected_sets, told_tells}
use Rattle.history.proofs.DueWeights.{net_printable, gross_printable, tare_printable}
use Rattle.history.proofs.Following.{Follows, is_loaded_lem, latest_is, gross_is, net_force, net_near, same_in_force, tare_force, tare_near}
use Rattle.history.proofs.InForce.{in_force_taken}
use Rattle.history.proofs.Tallying.{after_denied, after_zeroes, after_tares, after_clears, after_sets, after_typed, after_told, after_weighs, silent_holds, denied_holds, zeroes_holds, clears_holds, sets_holds, weighs_holds, tares_holds, told_holds, typed_holds_lem}
use Rattle.history.proofs.SentAnswers.{in_limits_lem}
use Rattle.history.proofs.WeightLines.{Shows, weighed_shows, told_shows}

-- the tally accepts the answer l to the input i, and follows the weighing w after it
pub record Answered (p : Profile) (t : Tally) (i : Input) (w : Weighing) (l : List ℕ) : Type 0 where
  pub accepted : holds p t i l ≡ true
  pub shown : shows_typed p t i l ≡ true
  pub follows : Follows w (tallied p t i l)

-- no TA A, or one to the line TA
untold_shown : (p : Profile) (t : Tally) (i : Input) (l : List ℕ) → tells_tare l ≡ false → shows_typed p t i l ≡ true
unfolding shows_typed
untold_shown p t i l e = rw e

alone_shown : (p : Profile) (t : Tally) (i : Input) (l : List ℕ) → same_text (ended_text t i) (ascii "TA") ≡ true → shows_typed p t i l ≡ true
unfolding shows_typed
alone_shown p t i l e = rw (e, and-false (tells_tare l))

-- the ten characters that are due
due_shown : (p : Profile) (t : Tally) (i : Input) (l : List ℕ) → ten_of l ≡ typed_field p (in_force p t) (ended_text t i) → shows_typed p t i l ≡ true
unfolding shows_typed
due_shown p t i l e = rw (e, same_self (typed_field p (in_force p t) (ended_text t i))) (or-true (not (grants_typed t i l)))

-- an answer that grants and weighs nothing
pub answered_silent : (p : Profile) (t : Tally) (i : Input) (w : Weighing) (l : List ℕ) → Follows w (after_reset t i (taken t i)) → Silent l → Answered p t i w l
answered_silent p t i w l f k = record { accepted = silent_holds p t i l k; shown = untold_shown p t i l k.told_is; follows = rw (after_denied p t i l k) f }

-- no tare, and one of whole micrograms, rounded
pub zero_rounded : 0 ≡ half_up 0 1_000_000_000
unfolding half_up
zero_rounded = refl

-- femtograms of no tare
pub zero_exact : exact_femtograms (pos 0) ≡ pos 0
unfolding exact_femtograms
zero_exact = refl

-- the input ended no line that is the one good byte @
module _ (p : Profile) (t : Tally) (i : Input) (w : Weighing) (not-reset : after_reset t i (taken t i) ≡ taken t i) (f : Follows w (taken t i)) where
  -- an answer that grants and weighs nothing
  pub answered_quietly : (l : List ℕ) → Silent l → Answered p t i w l
  answered_quietly l k = answered_silent p t i w l (rw not-reset f) k

  -- + or -, which a load is needed for
  answered_denied : (l : List ℕ) → Denied l → w.sampled ≡ true → Answered p t i w l
  answered_denied l k sampled =
      record {
        accepted = denied_holds p t i l k (is_loaded_lem w (taken t i) f sampled);
        shown = untold_shown p t i l k.told_is;
        follows = rw (after_denied p t i l k, not-reset) f;
      }

  -- ---- Z, ZI

  zero_granted : (l : List ℕ) → Zeroes l → w.sampled ≡ true → Answered p t i (with_zero w) l
  zero_granted l k sampled =
      record {
        accepted = zeroes_holds p t i l k (is_loaded_lem w (taken t i) f sampled);
        shown = untold_shown p t i l k.told_is;
        follows =
            rw (after_zeroes p t i l k, not-reset)
            (record { latest = f.latest; zero = latest_is w (taken t i) f sampled; tare = rw zero_exact (near_refl 0 (pos 0)); rounded = zero_rounded; unit = f.unit });
      }

  -- by the two tests of Z
  zeroed_by_lem
      : (over under : Bool) (c : ℕ) (granted : Status)
      → Zeroes (answer_bytes p (Plain (head_of c granted)))
      → w.sampled ≡ true
      → Answered p t i (chosen_weighing (over || under) w (with_zero w)) (answer_bytes p (in_limits c over under (Plain (head_of c granted))))
  zeroed_by_lem true under c granted k sampled = answered_denied _ (over_denied p c) sampled
  zeroed_by_lem false true c granted k sampled = answered_denied _ (under_denied p c) sampled
  zeroed_by_lem false false c granted k sampled = zero_granted _ k sampled

  pub answered_zeroed
      : (c : ℕ) (granted : Status)
      → Zeroes (answer_bytes p (Plain (head_of c granted)))
      → w.sampled ≡ true
      → Answered p t i (zeroed p w c granted).weighing (answer_bytes p (zeroed p w c granted).answer)
  unfolding zeroed_by
  answered_zeroed c granted k sampled =
      zeroed_by_lem (lt_z (pos p.zeroing) w.load.0) (lt_z w.load.0 (neg_ℤ (pos p.zeroing))) c granted k sampled

  -- ---- TAC

  pub answered_cleared : Answered p t i (with_tare w 0) (answer_bytes p (Plain (head_of place_tac A)))
  answered_cleared =
      record {
        accepted = clears_holds p t i _ (cleared_clears p);
        shown = untold_shown p t i _ (cleared_clears p).told_is;
        follows =
            rw (after_clears p t i _ (cleared_clears p), not-reset)
            (record { latest = f.latest; zero = f.zero; tare = rw zero_exact (near_refl 0 (pos 0)); rounded = zero_rounded; unit = f.unit });
      }

  -- ---- M21 with a code

  pub answered_selected : (u : WeightUnit) → ends t i ≡ true → is_unit_line (ended t i) ≡ true → unit_set (ended_text t i) ≡ u
      → Answered p t i (with_unit w u) (answer_bytes p (Plain (head_of place_m21 A)))
  answered_selected u end line set =
      record {
        accepted = sets_holds p t i _ (selected_sets p) end line;
        shown = untold_shown p t i _ (selected_sets p).told_is;
        follows =
            rw (after_sets p t i _ (selected_sets p) line, not-reset)
            (record { latest = f.latest; zero = f.zero; tare = f.tare; rounded = f.rounded; unit = set });
      }

  -- ---- weights

  module _ (allowed : profile_allowed p ≡ true) where
    -- the resolution in force by gross, and by a tare
    abbrev at_gross : Resolution
    at_gross = resolution_by (scale_of p w) (gross_of w)

    abbrev at_tare : ℕ → Resolution
    at_tare tare = resolution_by (scale_of p w) (pos tare)

    -- a net that is printed
    net_told
        : (l : List ℕ)
        → Weighs l
        → Shows at_gross (net_of w) l
        → lt_z (pos p.capacity) (gross_of w) ≡ false
        → w.sampled ≡ true
        → Answered p t i w l
    net_told l k s within sampled =
        let g : Follows w (tallied p t i l) = rw (after_weighs p t i l k, not-reset) f in
        record {
          accepted =
              weighs_holds p t i l at_gross (net_force p w (tallied p t i l) g l sampled k.net_is) (net_of w) s
              (rw k.net_is (net_near at_gross (allowed_at p allowed w (gross_of w) within) w (tallied p t i l) g sampled))
              k
              (is_loaded_lem w (taken t i) f sampled);
          shown = untold_shown p t i l k.told_is;
          follows = g;
        }

    -- S, SI, SIR
    pub answered_weighed
        : w.tare.0 ≤ p.capacity
        → w.sampled ≡ true
        → Answered p t i w (answer_bytes p (weighed p w))
    unfolding weighed_by
    answered_weighed range sampled =
        in_limits_lem (λ a. Answered p t i w (answer_bytes p a)) place_s (lt_z (pos p.capacity) (gross_of w)) (lt_z (gross_of w) (neg_ℤ (pos p.underload)))
        (Weight (head_of place_s (stability w)) (number_in at_gross (net_of w)))
        (answered_denied _ (over_denied p place_s) sampled)
        (answered_denied _ (under_denied p place_s) sampled)
        (λ o u.
        net_told _ (weighed_weighs p w.stable (number_in at_gross (net_of w)))
        (weighed_shows p at_gross (net_of w) (net_printable p allowed w (gross_of w) w.tare.0 o u range) w.stable)
        o
        sampled)

    -- the tare becomes gross, which has no sign
    module _ (l : List ℕ) (k : Tares l) (sampled : w.sampled ≡ true) (natural : pos (nat_abs (gross_of w)) ≡ gross_of w) where
      tare_followed : Follows (with_tare w (nat_abs (gross_of w))) (tallied p t i l)
      tare_followed =
          rw (after_tares p t i l k, not-reset)
          (record {
            latest = f.latest;
            zero = f.zero;
            tare = rw (natural, gross_is w (taken t i) f sampled) (near_refl 0 (exact_femtograms (gross_of w)));
            rounded = rw (gross_is w (taken t i) f sampled) (sym (rounded_exact (gross_of w)));
            unit = f.unit;
          })

      -- so the gross decides the range
      gross_force : at_gross ≡ in_force_at p (tallied p t i l) l
      gross_force =
          ap₂ (resolution_at p.fine) (sym (resolution_tared p w (nat_abs (gross_of w)))) (sym natural)
          ∙ tare_force p (with_tare w (nat_abs (gross_of w))) (tallied p t i l) tare_followed l k.net_is

      tare_granted : Shows at_gross (gross_of w) l → lt_z (pos p.capacity) (gross_of w) ≡ false → Answered p t i (with_tare w (nat_abs (gross_of w))) l
      tare_granted s within =
          record {
            accepted =
                tares_holds p t i l at_gross gross_force
                (gross_of w) s
                (rw k.net_is
                (subst (λ (x : ℤ). Near (allowance at_gross (tallied p t i l)) (printed_femtograms at_gross (places_of at_gross x)) (tallied p t i l).tare) natural
                (tare_near at_gross (allowed_at p allowed w (gross_of w) within) (with_tare w (nat_abs (gross_of w))) (tallied p t i l) tare_followed)))
                k
                (is_loaded_lem w (taken t i) f sampled);
            shown = untold_shown p t i l k.told_is;
            follows = tare_followed;
          }

    -- by the two tests of T
    tared_by_lem
        : (over under : Bool) (c : ℕ)
        → lt_z (pos p.capacity) (gross_of w) ≡ over
        → lt_z (gross_of w) (pos 0) ≡ under
        → Tares (answer_bytes p (Weight (head_of c (stability w)) (number_in at_gross (gross_of w))))
        → (printable at_gross (gross_of w) ≡ true → Shows at_gross (gross_of w) (answer_bytes p (Weight (head_of c (stability w)) (number_in at_gross (gross_of w)))))
        → w.sampled ≡ true
        → Answered p t i (chosen_weighing (over || under) w (with_tare w (nat_abs (gross_of w))))
        (answer_bytes p (in_limits c over under (Weight (head_of c (stability w)) (number_in at_gross (gross_of w)))))
    tared_by_lem true under c o u k s sampled = answered_denied _ (over_denied p c) sampled
    tared_by_lem false true c o u k s sampled = answered_denied _ (under_denied p c) sampled
    tared_by_lem false false c o u k s sampled =
        tare_granted _ k sampled (between (gross_of w) p.capacity o u).0 (s (gross_printable p allowed w (gross_of w) o u)) o

    -- T, TI
    pub answered_tared
        : (c : ℕ)
        → Tares (answer_bytes p (Weight (head_of c (stability w)) (number_in (resolution_by (scale_of p w) (gross_of w)) (gross_of w))))
        → (printable (resolution_by (scale_of p w) (gross_of w)) (gross_of w) ≡ true
        → Shows (resolution_by (scale_of p w) (gross_of w)) (gross_of w)
        (answer_bytes p (Weight (head_of c (stability w)) (number_in (resolution_by (scale_of p w) (gross_of w)) (gross_of w)))))
        → w.sampled ≡ true
        → Answered p t i (tared p w c).weighing (answer_bytes p (tared p w c).answer)
    unfolding tared_by
    answered_tared c k s sampled = tared_by_lem (lt_z (pos p.capacity) (gross_of w)) (lt_z (gross_of w) (pos 0)) c refl refl k s sampled

    -- TA alone
    pub answered_told
        : ends t i ≡ true
        → same_text (ended_text t i) (ascii "TA") ≡ true
        → w.tare.0 ≤ p.capacity
        → Answered p t i w (answer_bytes p (tare_answer (scale_of p w) w.tare.0))
    answered_told end alone range =
        let r = at_tare w.tare.0 in
        let k = told_tells p (number_in r (pos w.tare.0)) in
        let l = answer_bytes p (tare_answer (scale_of p w) w.tare.0) in
        let g : Follows w (tallied p t i l) = rw (after_told p t i l k alone, not-reset) f in
        record {
          accepted =
              told_holds p t i l r (tare_force p w (tallied p t i l) g l k.net_is) (pos w.tare.0)
              (told_shows p r (pos w.tare.0) (tare_printable p allowed w w.tare.0 range))
              (rw k.net_is (tare_near r (allowed_at p allowed w (pos w.tare.0) (le-ltb p.capacity w.tare.0 range)) w (tallied p t i l) g))
              k
              end
              alone;
          shown = alone_shown p t i l alone;
          follows = g;
        }

    -- TA number unit
    pub answered_typed
        : (m : ℕ)
        → ends t i ≡ true
        → same_text (ended_text t i) (ascii "TA") ≡ false
        → is_decimal (typed_text (ended_text t i)) ≡ true
        → Near 1_000_000_000 (exact_femtograms (pos m)) (typed_tare p (resolution_in p w) (ended_text t i))
        → m ≡ half_up (nat_abs (typed_tare p (resolution_in p w) (ended_text t i))) 1_000_000_000
        → let r = resolution_by (scale_of p w) (pos m) in field_of r.coarse r.decimals (places_of r (pos m)) ≡ typed_field p (resolution_in p w) (ended_text t i)
        → m ≤ p.capacity
        → Answered p t i (with_tare w m) (answer_bytes p (tare_answer (scale_of p w) m))
    answered_typed m end other decimal off rounded printed range =
        let r = at_tare m in
        let k = told_tells p (number_in r (pos m)) in
        let l = answer_bytes p (tare_answer (scale_of p w) m) in
        let s : Shows r (pos m) l = told_shows p r (pos m) (tare_printable p allowed w m range) in
        let before : resolution_in p w ≡ in_force p t = same_in_force p w (taken t i) f ∙ in_force_taken p t i in
        let g : Follows (with_tare w m) (tallied p t i l) =
        rw (after_typed p t i l k other, not-reset, ← before) (record { latest = f.latest; zero = f.zero; tare = off; rounded = rounded; unit = f.unit }) in
        record {
          accepted =
              typed_holds_lem p t i l r
              (ap (λ (x : Resolution). resolution_at p.fine x (pos m)) (sym (resolution_tared p w m)) ∙ tare_force p (with_tare w m) (tallied p t i l) g l k.net_is)
              (pos m)
              s
              (rw k.net_is (tare_near r (allowed_at p allowed w (pos m) (le-ltb p.capacity m range)) (with_tare w m) (tallied p t i l) g))
              k
              end
              other
              decimal;
          shown = due_shown p t i l (s.ten ∙ printed ∙ ap (λ (r : Resolution). typed_field p r (ended_text t i)) before);
          follows = g;
        }
