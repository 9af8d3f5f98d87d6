-- What kind of answer the tally sees in the bytes of each answer that a reaction gives. After these laws no proof reads a byte's
-- place in a head.
-- Assumes nothing.
use Prim.Native.Nat.{ℕ, zero, suc}
use mathlib.Core.Path.{◌≡◌, refl, subst}
use mathlib.Core.Bool.{Bool, true, false, cond, not, ◌&&◌, false≢true}
use mathlib.Core.List.{List, ◌++◌}
use native.Mathlib.Omega.{arith}
use borrow.Author.Tests.{leb-true, not-true}
use lib.Dec.{leb}
use Rattle.answer.specs.declared.answer.Answer.TheVariants.{Nothing, Plain, Weight, ErrorLine, Text, CommandList, Versions, HostUnit}
use Rattle.answer.specs.declared.answer.Error.{Error}
use Rattle.answer.specs.declared.answer.Error.TheVariants.{Syntax, Transmission, Logical}
use Rattle.answer.specs.declared.answer.Number.{Number}
use Rattle.answer.specs.declared.answer.Status.{Status}
use Rattle.answer.specs.declared.answer.Status.TheVariants.{A, S, D, I, L, Over, Under}
use Rattle.answer.specs.Commands.{names, place_d, place_dw, place_m21, place_s, place_t, place_ta, place_tac, place_ti, place_z, place_zi, place_i5}
use Rattle.answer.proofs.Names.{at_name}
use Rattle.answer.specs.Lines.{line_end, status_text, head_text, listed_line, listed_from, line_of, head_of}
use Rattle.model.specs.declared.profile.Profile.{Profile}
use Rattle.device.specs.Calls.{answer_bytes}
use Rattle.text.specs.Ascii.{ascii}
use Rattle.weight.specs.declared.units.WeightUnit.{WeightUnit}
use Rattle.history.specs.Tally.{grants_zero, grants_tare, grants_clear, tells_tare, tells_net, tells_limit, sets_unit}

-- what the seven tests of the tally find in a line
pub record Tests (zero tare clear told net limit unit : Bool) (l : List ℕ) : Type 0 where
  pub zero_is : grants_zero l ≡ zero
  pub tare_is : grants_tare l ≡ tare
  pub clear_is : grants_clear l ≡ clear
  pub told_is : tells_tare l ≡ told
  pub net_is : tells_net l ≡ net
  pub limit_is : tells_limit l ≡ limit
  pub unit_is : sets_unit l ≡ unit

-- a line that grants and weighs nothing; it may tell that a load is out of its limits
abbrev pub Denied : List ℕ → Type 0
Denied l = Tests false false false false false (tells_limit l) false l

-- a line that does not tell that either
abbrev pub Silent : List ℕ → Type 0
Silent l = Tests false false false false false false false l

-- Z A, ZI S, ZI D
abbrev pub Zeroes : List ℕ → Type 0
Zeroes l = Tests true false false false false false false l

-- T S, TI S, TI D
abbrev pub Tares : List ℕ → Type 0
Tares l = Tests false true false false false false false l

-- TAC A
abbrev pub Clears : List ℕ → Type 0
Clears l = Tests false false true false false false false l

-- TA A
abbrev pub Tells : List ℕ → Type 0
Tells l = Tests false false false true false false false l

-- S S, S D
abbrev pub Weighs : List ℕ → Type 0
Weighs l = Tests false false false false true false false l

-- M21 A
abbrev pub Sets : List ℕ → Type 0
Sets l = Tests false false false false false false true l

-- the tests of a line whose head is written out compute
computed : (l : List ℕ) → Tests (grants_zero l) (grants_tare l) (grants_clear l) (tells_tare l) (tells_net l) (tells_limit l) (sets_unit l) l
computed l = record { zero_is = refl; tare_is = refl; clear_is = refl; told_is = refl; net_is = refl; limit_is = refl; unit_is = refl }

-- ---- one test of every name at once

-- six of the tests in one
abbrev grants_nothing : List ℕ → Bool
grants_nothing l =
    not (grants_zero l) && not (grants_tare l) && not (grants_clear l) && not (tells_tare l) && not (tells_net l) && not (sets_unit l)

-- six tests that one test denies
silent_by : (z t c a n u : Bool) → (not z && not t && not c && not a && not n && not u) ≡ true
    → (z ≡ false) × (t ≡ false) × (c ≡ false) × (a ≡ false) × (n ≡ false) × (u ≡ false)
silent_by false false false false false false e = (refl, refl, refl, refl, refl, refl)
silent_by true t c a n u e = absurd (false≢true e)
silent_by false true c a n u e = absurd (false≢true e)
silent_by false false true a n u e = absurd (false≢true e)
silent_by false false false true n u e = absurd (false≢true e)
silent_by false false false false true u e = absurd (false≢true e)
silent_by false false false false false true e = absurd (false≢true e)

-- so the one test is enough
denied_is : (l : List ℕ) → grants_nothing l ≡ true → Denied l
denied_is l e =
    let h = silent_by (grants_zero l) (grants_tare l) (grants_clear l) (tells_tare l) (tells_net l) (sets_unit l) e in
    record { zero_is = h.0; tare_is = h.1; clear_is = h.2; told_is = h.3; net_is = h.4; limit_is = refl; unit_is = h.5 }

-- with the seventh
silent_is : (l : List ℕ) → grants_nothing l ≡ true → not (tells_limit l) ≡ true → Silent l
silent_is l e f =
    let limit : tells_limit l ≡ false = not-true (tells_limit l) f in
    subst (λ b. Tests false false false false false b false l) limit (denied_is l e)

-- ---- the answers that grant and weigh nothing

-- a name with a status
abbrev answer_of : Status → List ℕ → List ℕ
answer_of s n = n ++ ascii " " ++ status_text s ++ line_end

abbrev is_denied : Status → List ℕ → Bool
is_denied s n = grants_nothing (answer_of s n)

abbrev is_no_limit : Status → List ℕ → Bool
is_no_limit s n = not (tells_limit (answer_of s n))

module _ (p : Profile) where
  -- no answer
  pub nothing_silent : Silent (answer_bytes p Nothing)
  unfolding answer_bytes line_of
  nothing_silent = computed _

  -- ES, ET, EL
  pub error_silent : (e : Error) → Silent (answer_bytes p (ErrorLine e))
  unfolding answer_bytes line_of
  error_silent Syntax = computed _
  error_silent Transmission = computed _
  error_silent Logical = computed _

  -- I0
  pub list_silent : Silent (answer_bytes p CommandList)
  unfolding answer_bytes line_of listed_from listed_line
  list_silent = computed _

  -- I1
  pub versions_silent : Silent (answer_bytes p Versions)
  unfolding answer_bytes line_of
  versions_silent = computed _

  -- D A
  pub shown_silent : Silent (answer_bytes p (Plain (head_of place_d A)))
  unfolding answer_bytes line_of head_text
  shown_silent = computed _

  -- DW A
  pub weight_shown_silent : Silent (answer_bytes p (Plain (head_of place_dw A)))
  unfolding answer_bytes line_of head_text
  weight_shown_silent = computed _

  -- M21 A 0 code
  pub unit_silent : (u : WeightUnit) → Silent (answer_bytes p (HostUnit u))
  unfolding answer_bytes line_of
  unit_silent u = computed _

  -- M21 A
  pub selected_sets : Sets (answer_bytes p (Plain (head_of place_m21 A)))
  unfolding answer_bytes line_of head_text
  selected_sets = computed _

  -- TAC A
  pub cleared_clears : Clears (answer_bytes p (Plain (head_of place_tac A)))
  unfolding answer_bytes line_of head_text
  cleared_clears = computed _

  -- any identification with I
  pub unready_silent : (c : ℕ) → Silent (answer_bytes p (Plain (head_of c I)))
  unfolding answer_bytes line_of head_text
  unready_silent c = silent_is _ (at_name (is_denied I) names c refl) (at_name (is_no_limit I) names c refl)

  -- with L
  pub wrong_silent : (c : ℕ) → Silent (answer_bytes p (Plain (head_of c L)))
  unfolding answer_bytes line_of head_text
  wrong_silent c = silent_is _ (at_name (is_denied L) names c refl) (at_name (is_no_limit L) names c refl)

  -- with + and -
  pub over_denied : (c : ℕ) → Denied (answer_bytes p (Plain (head_of c Over)))
  unfolding answer_bytes line_of head_text
  over_denied c = denied_is _ (at_name (is_denied Over) names c refl)

  pub under_denied : (c : ℕ) → Denied (answer_bytes p (Plain (head_of c Under)))
  unfolding answer_bytes line_of head_text
  under_denied c = denied_is _ (at_name (is_denied Under) names c refl)

  -- I2 to I5, and I0 and I1 with them
  pub text_silent : (c : ℕ) → leb c place_i5 ≡ true → Silent (answer_bytes p (Text c))
  unfolding answer_bytes line_of
  text_silent zero e = computed _
  text_silent (suc zero) e = computed _
  text_silent (suc (suc zero)) e = computed _
  text_silent (suc (suc (suc zero))) e = computed _
  text_silent (suc (suc (suc (suc zero)))) e = computed _
  text_silent (suc (suc (suc (suc (suc zero))))) e = computed _
  text_silent (suc (suc (suc (suc (suc (suc c)))))) e = absurd (omega (arith, leb-true (suc (suc (suc (suc (suc (suc c)))))) 5 e))

  -- ---- zeroes: Z A; ZI S, ZI D

  pub zeroed_zeroes : Zeroes (answer_bytes p (Plain (head_of place_z A)))
  unfolding answer_bytes line_of head_text
  zeroed_zeroes = computed _

  pub zeroed_now_zeroes : (stable : Bool) → Zeroes (answer_bytes p (Plain (head_of place_zi (cond stable S D))))
  unfolding answer_bytes line_of head_text
  zeroed_now_zeroes true = computed _
  zeroed_now_zeroes false = computed _

  -- ---- weights: S S, S D; TI S, TI D; T S; TA A

  pub weighed_weighs : (stable : Bool) (n : Number) → Weighs (answer_bytes p (Weight (head_of place_s (cond stable S D)) n))
  unfolding answer_bytes line_of head_text
  weighed_weighs true n = computed _
  weighed_weighs false n = computed _

  pub tared_now_tares : (stable : Bool) (n : Number) → Tares (answer_bytes p (Weight (head_of place_ti (cond stable S D)) n))
  unfolding answer_bytes line_of head_text
  tared_now_tares true n = computed _
  tared_now_tares false n = computed _

  pub tared_tares : (n : Number) → Tares (answer_bytes p (Weight (head_of place_t S) n))
  unfolding answer_bytes line_of head_text
  tared_tares n = computed _

  pub told_tells : (n : Number) → Tells (answer_bytes p (Weight (head_of place_ta A) n))
  unfolding answer_bytes line_of head_text
  told_tells n = computed _
