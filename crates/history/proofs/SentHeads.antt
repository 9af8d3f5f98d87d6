-- What the follower of SR reads in the head of an answer.
-- Assumes nothing.
use mathlib.Core.Path.{◌≡◌, refl, sym, ap, ap₂}
use mathlib.Core.Bool.{Bool, true, false, cond, not, ◌&&◌}
use mathlib.Core.List.{List, ◌++◌}
use Prim.Native.Nat.{ℕ}
use borrow.Author.Tests.{not-true}
use lib.IntN.{pos, neg_ℤ, ◌-ℤ◌}
use lib.Signed.{lt_z}
use Rattle.answer.specs.declared.answer.Answer.{Answer}
use Rattle.answer.specs.declared.answer.Answer.TheVariants.{Plain, Weight, ErrorLine, Text, CommandList, Versions, HostUnit}
use Rattle.answer.specs.declared.answer.Error.{Error}
use Rattle.answer.specs.declared.answer.Error.TheVariants.{Syntax, Transmission, Logical}
use Rattle.answer.specs.declared.answer.Number.{Number}
use Rattle.answer.specs.declared.answer.Status.{Status}
use Rattle.answer.specs.declared.answer.Status.TheVariants.{A, S, D, I, L}
use Rattle.answer.specs.Commands.{names, place_d, place_dw, place_m21, place_s, place_ta, place_tac, place_ti, place_zi}
use Rattle.answer.proofs.Names.{at_name}
use Rattle.answer.specs.Lines.{line_end, quoted, status_text, head_text, listed_line, listed_from, line_of, head_of}
use Rattle.device.specs.Calls.{answer_bytes}
use Rattle.model.specs.declared.profile.Profile.{Profile}
use Rattle.model.specs.Profiles.{information_text, scale_of}
use Rattle.model.specs.declared.weighing.Weighing.{Weighing}
use Rattle.text.specs.Ascii.{ascii}
use Rattle.weight.specs.declared.units.WeightUnit.{WeightUnit}
use Rattle.weighing.specs.Weighings.{gross_of, net_of, number_in, resolution_by, in_limits, is_outside, stability, weighed, zeroed, tared, zeroed_by, weighed_by, tared_by}
use Rattle.history.specs.OnChange.{net_in, is_carried_out, is_sent}
use Rattle.history.specs.Tally.{Tally, begins, gross_in}
use Rattle.history.specs.Waits.{is_empty}
use Rattle.history.proofs.Following.{Follows, gross_is}
use Rattle.history.proofs.SentAnswers.{in_limits_lem}

-- ---- the follower's net is the device's

pub net_in_lem : (w : Weighing) (t : Tally) → Follows w t → w.sampled ≡ true → net_in t ≡ net_of w
net_in_lem w t f sampled = ap₂ ◌-ℤ◌ (gross_is w t f sampled) (ap pos (sym f.rounded))

-- ---- the answer of S, SI, SIR and SR

pub record Heads (p : Profile) (w : Weighing) (a : Answer) : Type 0 where
  pub full : is_empty (answer_bytes p a) ≡ false
  pub carried : is_carried_out (answer_bytes p a) ≡ true
  pub stands : begins (ascii "S S") (answer_bytes p a) ≡ (not (is_outside p w) && w.stable)
  pub swings : begins (ascii "S D") (answer_bytes p a) ≡ (not (is_outside p w) && not w.stable)
  pub sent : (t : Tally) → gross_in t ≡ gross_of w → is_sent p t w.stable (answer_bytes p a) ≡ true

module _ (p : Profile) (w : Weighing) where
  heads_by
      : (over under stable : Bool)
      → lt_z (pos p.capacity) (gross_of w) ≡ over
      → lt_z (gross_of w) (neg_ℤ (pos p.underload)) ≡ under
      → w.stable ≡ stable
      → Heads p w (in_limits place_s over under (Weight (head_of place_s (cond stable S D)) (number_in (resolution_by (scale_of p w) (gross_of w)) (net_of w))))
  unfolding answer_bytes line_of head_text
  heads_by true under stable o u s =
      record { full = refl; carried = refl; stands = rw o; swings = rw o; sent = λ t e. rw (e, o) }
  heads_by false true stable o u s =
      record { full = refl; carried = refl; stands = rw (o, u); swings = rw (o, u); sent = λ t e. rw (e, o, u) }
  heads_by false false true o u s =
      record { full = refl; carried = refl; stands = rw (o, u, s); swings = rw (o, u, s); sent = λ t e. rw (e, o, u, s) }
  heads_by false false false o u s =
      record { full = refl; carried = refl; stands = rw (o, u, s); swings = rw (o, u, s); sent = λ t e. rw (e, o, u, s) }

  pub heads : Heads p w (weighed p w)
  unfolding weighed_by
  heads = heads_by (lt_z (pos p.capacity) (gross_of w)) (lt_z (gross_of w) (neg_ℤ (pos p.underload))) w.stable refl refl refl

-- ---- the other answers

-- an answer that no line of S, SI, SIR or SR has when it is carried out
abbrev pub Uncarried : Profile → Answer → Type 0
Uncarried p a = is_carried_out (answer_bytes p a) ≡ false

-- a name with a status, and one with a text
abbrev is_other : Status → List ℕ → Bool
is_other s n = not (is_carried_out (n ++ ascii " " ++ status_text s ++ line_end))

abbrev is_information : List ℕ → List ℕ → Bool
is_information t n = not (is_carried_out (n ++ ascii " A " ++ quoted t ++ line_end))

module _ (p : Profile) where
  pub error_uncarried : (e : Error) → Uncarried p (ErrorLine e)
  unfolding answer_bytes line_of
  error_uncarried Syntax = refl
  error_uncarried Transmission = refl
  error_uncarried Logical = refl

  -- I0, I1
  pub list_uncarried : Uncarried p CommandList
  unfolding answer_bytes line_of listed_from listed_line
  list_uncarried = refl

  pub versions_uncarried : Uncarried p Versions
  unfolding answer_bytes line_of
  versions_uncarried = refl

  -- M21 A 0 code, M21 A
  pub unit_uncarried : (u : WeightUnit) → Uncarried p (HostUnit u)
  unfolding answer_bytes line_of
  unit_uncarried u = refl

  pub selected_uncarried : Uncarried p (Plain (head_of place_m21 A))
  unfolding answer_bytes line_of head_text
  selected_uncarried = refl

  -- D A, DW A, TAC A, TA A
  pub shown_uncarried : Uncarried p (Plain (head_of place_d A))
  unfolding answer_bytes line_of head_text
  shown_uncarried = refl

  pub weight_shown_uncarried : Uncarried p (Plain (head_of place_dw A))
  unfolding answer_bytes line_of head_text
  weight_shown_uncarried = refl

  pub cleared_uncarried : Uncarried p (Plain (head_of place_tac A))
  unfolding answer_bytes line_of head_text
  cleared_uncarried = refl

  pub told_uncarried : (n : Number) → Uncarried p (Weight (head_of place_ta A) n)
  unfolding answer_bytes line_of head_text
  told_uncarried n = refl

  -- I and L, with any name
  pub unready_uncarried : (c : ℕ) → Uncarried p (Plain (head_of c I))
  unfolding answer_bytes line_of head_text
  unready_uncarried c = not-true _ (at_name (is_other I) names c refl)

  pub wrong_uncarried : (c : ℕ) → Uncarried p (Plain (head_of c L))
  unfolding answer_bytes line_of head_text
  wrong_uncarried c = not-true _ (at_name (is_other L) names c refl)

  -- I2 to I5
  pub text_uncarried : (c : ℕ) → Uncarried p (Text c)
  unfolding answer_bytes line_of
  text_uncarried c = not-true _ (at_name (is_information (information_text p c)) names c refl)

module _ (p : Profile) (w : Weighing) where
  zero_by : (stable : Bool) → Uncarried p (Plain (head_of place_zi (cond stable S D)))
  unfolding answer_bytes line_of head_text
  zero_by true = refl
  zero_by false = refl

  -- ZI
  pub zeroed_uncarried : Uncarried p (zeroed p w place_zi (stability w)).answer
  unfolding zeroed_by answer_bytes line_of head_text
  zeroed_uncarried =
      in_limits_lem (Uncarried p) place_zi (lt_z (pos p.zeroing) w.load.0) (lt_z w.load.0 (neg_ℤ (pos p.zeroing))) (Plain (head_of place_zi (stability w)))
      refl refl (λ o u. zero_by w.stable)

  tare_by : (stable : Bool) → Uncarried p (Weight (head_of place_ti (cond stable S D)) (number_in (resolution_by (scale_of p w) (gross_of w)) (gross_of w)))
  unfolding answer_bytes line_of head_text
  tare_by true = refl
  tare_by false = refl

  -- TI
  pub tared_uncarried : Uncarried p (tared p w place_ti).answer
  unfolding tared_by answer_bytes line_of head_text
  tared_uncarried =
      in_limits_lem (Uncarried p) place_ti (lt_z (pos p.capacity) (gross_of w)) (lt_z (gross_of w) (pos 0)) (Weight (head_of place_ti (stability w)) (number_in (resolution_by (scale_of p w) (gross_of w)) (gross_of w)))
      refl refl (λ o u. tare_by w.stable)
