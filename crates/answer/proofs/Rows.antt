-- What the table of the commands says of a place: one computed test of every row, and the laws that follow from it.
-- Assumes nothing.
use mathlib.Core.Path.{◌≡◌, refl, sym, ap, ◌∙◌}
use mathlib.Core.Bool.{Bool, true, false, cond, not, ◌&&◌, ◌||◌, false≢true}
use mathlib.Core.List.{List, [], ◌∷◌}
use Prim.Native.Nat.{ℕ, zero, suc, ◌+◌, ◌≤◌, ◌<◌, zero-le}
use native.Mathlib.Nat.{le_of_suc-le-suc, not-suc-le-zero, add-zero, add-suc, suc-add, zero-add}
use native.Mathlib.Omega.{arith}
use borrow.Author.Tests.{eqb-true, eq-eqb, ne_eqb, lt-leb, le-ltb, ltb-true, ltb-false}
use lib.Dec.{leb, ltb, eqb}
use lib.ListN.{length, get_or, get_or-eq_default}
use Rattle.weight.proofs.Allowed.{both_left, both_right}
use Rattle.answer.specs.declared.command.Kind.{Kind}
use Rattle.answer.specs.declared.command.Kind.TheVariants.{Informs, Weighs, Zeroes, Resets, Shows, Sends, Tares, Selects, Unknown}
use Rattle.answer.specs.Commands.{Command, commands, no_command, command_count, row_of, level_of, kind_of, takes_parameters, needs_sample, may_wait, place_i5, place_s, place_si, place_sir, place_z, place_zi, place_reset, place_d, place_dw, place_sr, place_t, place_ta, place_ti, place_m21, has_text, is_i0, is_i1, is_s, is_si, is_sir, is_z, is_zi, is_reset, is_d, is_dw, is_sr, is_t, is_ta, is_tac, is_ti, is_m21}

-- ---- a test of each row with its place, counted from i

abbrev pub every_row : (ℕ → Command → Bool) → List Command → ℕ → Bool
every_row f [] i = true
every_row f (r ∷ rs) i = f i r && every_row f rs (suc i)

row_in : (f : ℕ → Command → Bool) (rs : List Command) (i c : ℕ) → every_row f rs i ≡ true → c < length rs → f (i + c) (get_or rs c no_command) ≡ true
row_in f [] i c e h = absurd (not-suc-le-zero h)
row_in f (r ∷ rs) i zero e h = rw (add-zero i) (both_left (f i r) (every_row f rs (suc i)) e)
row_in f (r ∷ rs) i (suc c) e h =
    rw (add-suc i c ∙ sym (suc-add i c)) (row_in f rs (suc i) c (both_right (f i r) (every_row f rs (suc i)) e) (le_of_suc-le-suc h))

-- it is passed at every place
pub at_row : (f : ℕ → Command → Bool) → every_row f commands 0 ≡ true → (c : ℕ) → c < command_count → f c (row_of c) ≡ true
at_row f e c h = rw (zero-add c) at (row_in f commands 0 c e h)

-- past the end there is no command
pub no_row : (c : ℕ) → command_count ≤ c → row_of c ≡ no_command
no_row c h = get_or-eq_default commands no_command h

-- a place of the table or past its end
by_place : (P : Type 0) (c : ℕ) → (c < command_count → P) → (command_count ≤ c → P) → P
by_place P c inside past = go (ltb c command_count) refl
  where
    go : (b : Bool) → ltb c command_count ≡ b → P
    go true e = inside (ltb-true c command_count e)
    go false e = past (ltb-false c command_count e)

-- where a function of the place has each row's value, by a test that tells equal values, and that of no command past the end, it
-- has the value of every place
row_value
    : {A : Type 0} (eq : A → A → Bool)
    → ((a b : A) → eq a b ≡ true → a ≡ b)
    → (g : ℕ → A) (f : Command → A)
    → every_row (λ i r. eq (g i) (f r)) commands 0 ≡ true
    → ((c : ℕ) → command_count ≤ c → g c ≡ f no_command)
    → (c : ℕ)
    → g c ≡ f (row_of c)
row_value eq sound g f e past c =
    by_place (g c ≡ f (row_of c)) c
    (λ h. sound (g c) (f (row_of c)) (at_row (λ i r. eq (g i) (f r)) e c h))
    (λ h. past c h ∙ ap f (sym (no_row c h)))

-- a place past the end is none of the table
past_all : (c k : ℕ) → k < command_count → command_count ≤ c → eqb c k ≡ false
past_all c k known past = ne_eqb c k (λ e. omega arith)

-- ---- level

pub level_is : (c : ℕ) → cond (ltb c place_d) 0 (cond (ltb c place_m21) 1 2) ≡ level_of c
level_is =
    row_value eqb eqb-true (λ c. cond (ltb c place_d) 0 (cond (ltb c place_m21) 1 2)) (λ r. r.level) refl
    (λ c past. rw (le-ltb c place_d (omega arith), le-ltb c place_m21 (omega arith)))

-- no level is over 2
pub level_small : (c : ℕ) → level_of c ≤ 2
level_small c = rw (← (level_is c)) (level_by (ltb c place_d) (ltb c place_m21))
  where
    level_by : (a b : Bool) → cond a 0 (cond b 1 2) ≤ 2
    level_by true b = zero-le
    level_by false true = omega arith
    level_by false false = omega arith

-- ---- parameters, a sample, a wait

abbrev same : Bool → Bool → Bool
same true b = b
same false b = not b

same_is : (a b : Bool) → same a b ≡ true → a ≡ b
same_is true true e = refl
same_is true false e = absurd (false≢true e)
same_is false true e = absurd (false≢true e)
same_is false false e = refl

pub parameters_are : (c : ℕ) → (is_d c || is_sr c || is_ta c || is_m21 c) ≡ takes_parameters c
parameters_are =
    row_value same same_is (λ c. is_d c || is_sr c || is_ta c || is_m21 c) (λ r. r.parameters) refl
    (λ c past. rw (
      past_all c place_d (omega arith) past,
      past_all c place_sr (omega arith) past,
      past_all c place_ta (omega arith) past,
      past_all c place_m21 (omega arith) past,
    ))

pub samples_are : (c : ℕ) → (is_si c || is_sir c || is_zi c || is_ti c) ≡ needs_sample c
samples_are =
    row_value same same_is (λ c. is_si c || is_sir c || is_zi c || is_ti c) (λ r. r.sample) refl
    (λ c past. rw (
      past_all c place_si (omega arith) past,
      past_all c place_sir (omega arith) past,
      past_all c place_zi (omega arith) past,
      past_all c place_ti (omega arith) past,
    ))

pub waits_are : (c : ℕ) → (is_s c || is_z c || is_sr c || is_t c) ≡ may_wait c
waits_are =
    row_value same same_is (λ c. is_s c || is_z c || is_sr c || is_t c) (λ r. r.waits) refl
    (λ c past. rw (
      past_all c place_s (omega arith) past,
      past_all c place_z (omega arith) past,
      past_all c place_sr (omega arith) past,
      past_all c place_t (omega arith) past,
    ))

-- ---- kind

abbrev number_of_kind : Kind → ℕ
number_of_kind Informs = 0
number_of_kind Weighs = 1
number_of_kind Zeroes = 2
number_of_kind Resets = 3
number_of_kind Shows = 4
number_of_kind Sends = 5
number_of_kind Tares = 6
number_of_kind Selects = 7
number_of_kind Unknown = 8

abbrev kinds : List Kind
kinds = Informs ∷ Weighs ∷ Zeroes ∷ Resets ∷ Shows ∷ Sends ∷ Tares ∷ Selects ∷ []

kind_back : (k : Kind) → get_or kinds (number_of_kind k) Unknown ≡ k
kind_back Informs = refl
kind_back Weighs = refl
kind_back Zeroes = refl
kind_back Resets = refl
kind_back Shows = refl
kind_back Sends = refl
kind_back Tares = refl
kind_back Selects = refl
kind_back Unknown = refl

abbrev same_kind : Kind → Kind → Bool
same_kind a b = eqb (number_of_kind a) (number_of_kind b)

same_kind_lem : (a b : Kind) → same_kind a b ≡ true → a ≡ b
same_kind_lem a b e = sym (kind_back a) ∙ ap (λ (n : ℕ). get_or kinds n Unknown) (eqb-true (number_of_kind a) (number_of_kind b) e) ∙ kind_back b

-- the kinds stand together
abbrev kind_in : ℕ → Kind
kind_in c =
    cond (leb c place_i5) Informs
    (cond (leb c place_sir) Weighs
    (cond (leb c place_zi) Zeroes
    (cond (leb c place_reset) Resets
    (cond (leb c place_dw) Shows
    (cond (leb c place_sr) Sends (cond (leb c place_ti) Tares (cond (leb c place_m21) Selects Unknown)))))))

kind_is : (c : ℕ) → kind_in c ≡ kind_of c
kind_is =
    row_value same_kind same_kind_lem kind_in (λ r. r.kind) refl
    (λ c past. rw (
      lt-leb c place_i5 (omega arith),
      lt-leb c place_sir (omega arith),
      lt-leb c place_zi (omega arith),
      lt-leb c place_reset (omega arith),
      lt-leb c place_dw (omega arith),
      lt-leb c place_sr (omega arith),
      lt-leb c place_ti (omega arith),
      lt-leb c place_m21 (omega arith),
    ))

-- ---- the commands of a kind

-- a command of a kind, by a test that every row of that kind passes
of_kind : (k : Kind) (test : ℕ → Bool) → every_row (λ i r. not (same_kind r.kind k) || test i) commands 0 ≡ true
    → (c : ℕ) → c < command_count → kind_of c ≡ k → test c ≡ true
of_kind k test e c known is =
    or_left (same_kind k k) (test c) (same_self_kind k)
    (rw is at (at_row (λ i r. not (same_kind r.kind k) || test i) e c known))
  where
    same_self_kind : (k : Kind) → same_kind k k ≡ true
    same_self_kind k = eq-eqb (number_of_kind k) (number_of_kind k) refl

    or_left : (a b : Bool) → a ≡ true → (not a || b) ≡ true → b ≡ true
    or_left true b e h = h
    or_left false b e h = absurd (false≢true e)

module _ (c : ℕ) (known : c < command_count) where
  pub informing_is : kind_of c ≡ Informs → (is_i0 c || is_i1 c || has_text c) ≡ true
  informing_is = of_kind Informs (λ i. is_i0 i || is_i1 i || has_text i) refl c known

  pub resetting : kind_of c ≡ Resets → is_reset c ≡ true
  resetting = of_kind Resets is_reset refl c known

  -- of the commands that weigh, S may wait, and the others need a sample
  pub weighing_is : kind_of c ≡ Weighs → cond (may_wait c) (is_s c) (needs_sample c) ≡ true
  weighing_is = of_kind Weighs (λ i. cond (may_wait i) (is_s i) (needs_sample i)) refl c known

  -- of those that zero, Z may wait
  pub zeroing_is : kind_of c ≡ Zeroes → cond (may_wait c) (is_z c) (needs_sample c) ≡ true
  zeroing_is = of_kind Zeroes (λ i. cond (may_wait i) (is_z i) (needs_sample i)) refl c known

  pub showing_is : kind_of c ≡ Shows → (is_d c || is_dw c) ≡ true
  showing_is = of_kind Shows (λ i. is_d i || is_dw i) refl c known

  pub sending_is : kind_of c ≡ Sends → is_sr c ≡ true
  sending_is = of_kind Sends is_sr refl c known

  pub taring_is : kind_of c ≡ Tares → (is_t c || is_ta c || is_tac c || is_ti c) ≡ true
  taring_is = of_kind Tares (λ i. is_t i || is_ta i || is_tac i || is_ti i) refl c known

  pub selecting_is : kind_of c ≡ Selects → is_m21 c ≡ true
  selecting_is = of_kind Selects is_m21 refl c known

  -- no command of the table is unknown
  pub is_known : kind_of c ≡ Unknown → ⊥
  is_known e = false≢true (of_kind Unknown (λ i. false) refl c known e)
