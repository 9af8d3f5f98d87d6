-- The parameters of D, TA, SR and M21: each way of the code against the definition.
-- Assumes nothing.
use mathlib.Core.Path.{◌≡◌, refl, sym, ap, ◌∙◌}
use mathlib.Core.Bool.{Bool, true, false, cond, ◌&&◌, ◌||◌, and-false, and-eq-true_iff}
use Rattle.std.proofs.Common.{Option, Some, None, Result, Ok, Err}
use Rattle.std.specs.Option.{MatchOption}
use Rattle.std.specs.Result.{MatchResult, IsOkAnd}
use mathlib.Core.List.{List, [], ◌∷◌}
use Prim.Native.Nat.{ℕ, suc, ◌+◌, ◌-◌, ◌≤◌, ◌<◌}
use native.Mathlib.Omega.{arith}
use lib.Dec.{leb, eqb}
use lib.ListN.{length, get_or, take, drop, length-take, length-drop}
use lib.Seq.{length-take-le, drop-cons}
use borrow.Author.Tests.{le-leb, lt-leb, lt-ltb, le-ltb, leb-true, eqb-true}
use Rattle.answer.specs.Commands.{place_d, place_m21, place_sr, place_ta}
use Rattle.line.specs.declared.judge.Situation.{Situation}
use Rattle.line.specs.declared.judge.Verdict.{Verdict}
use Rattle.line.specs.declared.judge.Verdict.TheVariants.{Wrong, Preset, Change, Show, Select}
use Rattle.text.specs.Printable.{is_printable}
use Rattle.line.specs.Judging.{is_shown, between_quotes, is_quoted, number_in, preset_from, preset_in, typed_in, unit_in}
use Rattle.line.specs.Parts.{show_rule, preset_rule, change_rule, select_rule}
use Rattle.weight.specs.declared.amount.Tare.{Tare}
use Rattle.weight.specs.declared.amount.NoAmount.{NoAmount}
use Rattle.weight.specs.declared.changes.Threshold.{Threshold}
use Rattle.weight.specs.declared.units.WeightUnit.{WeightUnit}
use Rattle.weight.specs.Characters.{space}
use Rattle.text.specs.Ascii.{ascii, same_text}
use Rattle.text.specs.Searching.{FirstAt, before_space, after_space, has_space}
use Rattle.text.proofs.Named.{same_is}
use Rattle.classes.specs.Classes.{first_in}
use Rattle.text.proofs.Searching.{rest_is, quote_first}
use Rattle.text.specs.UnitTexts.{unit_text, unit_coded}
use Rattle.text.specs.Typed.{read_typed}

-- ---- D

module _ (t : List ℕ) where
  pub too_long : 20 < length t → false ≡ is_shown t
  too_long h = rw (lt-leb (length t) 20 h)

  pub not_too_long : {r : Bool} → length t ≤ 20 → r ≡ is_printable t → r ≡ is_shown t
  not_too_long h e = rw (le-leb (length t) 20 h) e

module _ (p : List ℕ) where
  pub no_quotes : length p < 2 → false ≡ is_quoted p
  unfolding is_quoted
  no_quotes h = rw (lt-leb 2 (length p) h)

  -- the first and the last byte by their class, what stands between them as it is
  pub in_quotes : {i j : ℕ} {s : Bool} → 2 ≤ length p → i ≡ first_in 8 p → j ≡ first_in 8 (take (length p - (length p - 1)) (drop (length p - 1) p))
      → s ≡ is_shown (take (length p - 1 - 1) (drop 1 p)) → (eqb i 0 && eqb j 0 && s) ≡ is_quoted p
  unfolding is_quoted
  in_quotes {i} {j} {s} h first last e =
      let two : length p - 1 - 1 ≡ length p - 2 = omega arith in
      let opened : eqb i 0 ≡ eqb (get_or p 0 0) 34 = quote_first (get_or p 0 0) (drop 1 p) (first ∙ ap (first_in 8) (drop-cons p 0 0 (omega arith))) in
      let closed : eqb j 0 ≡ eqb (get_or p (length p - 1) 0) 34 =
      quote_first (get_or p (length p - 1) 0) (drop (suc (length p - 1)) p)
      (last ∙ ap (first_in 8) (rest_is (length p - 1) p ∙ drop-cons p (length p - 1) 0 (omega arith))) in
      rw (le-leb 2 (length p) h, opened, closed) (ap (λ (b : Bool). eqb (get_or p 0 0) 34 && eqb (get_or p (length p - 1) 0) 34 && b) (rw two at e))

-- a text that D takes, between its quotes
pub record Between (p : List ℕ) : Type 0 where
  pub least : 2 ≤ length p
  pub shown : is_shown (between_quotes p) ≡ true
  pub count : length (between_quotes p) ≡ length p - 2
  pub few : length p - 2 ≤ 20

pub shown_between : (p : List ℕ) → is_quoted p ≡ true → Between p
unfolding is_quoted
shown_between p e =
    let parts = (and-eq-true_iff (leb 2 (length p) && (eqb (get_or p 0 0) 34 && eqb (get_or p (length p - 1) 0) 34)) (is_shown (between_quotes p))).0 e in
    let least : 2 ≤ length p = leb-true 2 (length p) ((and-eq-true_iff (leb 2 (length p)) (eqb (get_or p 0 0) 34 && eqb (get_or p (length p - 1) 0) 34)).0 parts.0).0 in
    let count : length (between_quotes p) ≡ length p - 2 = omega (arith, length-take (length p - 2) (drop 1 p), length-drop 1 p) in
    let few : length (between_quotes p) ≤ 20 = leb-true (length (between_quotes p)) 20 ((and-eq-true_iff (leb (length (between_quotes p)) 20) (is_printable (between_quotes p))).0 parts.1).0 in
    record { least = least; shown = parts.1; count = count; few = omega arith }

module _ (p : List ℕ) {q : Bool} (known : q ≡ is_quoted p) where
  pub short : q ≡ true → Between p
  short e = shown_between p (sym known ∙ e)

  pub shows : q ≡ true → Show (length p - 2) ≡ show_rule p
  unfolding show_rule
  shows e = rw (sym known ∙ e)

  pub shows_not : q ≡ false → Wrong place_d ≡ show_rule p
  unfolding show_rule
  shows_not e = rw (sym known ∙ e)

-- ---- number, space, unit

module _ (u : WeightUnit) (p : List ℕ) (i : ℕ) (at : FirstAt space p i) where
  pub no_space : length p ≤ i → [] ≡ number_in u p
  unfolding number_in
  no_space h = rw (sym at.has ∙ le-ltb i (length p) h)

  -- what stands after the space is compared with the unit
  module _ {same : Bool} (known : same ≡ same_text (take (length p - (i + 1)) (drop (i + 1) p)) (unit_text u)) where
    unit_of_lem : same_text (after_space p) (unit_text u) ≡ same
    unit_of_lem = sym (known ∙ ap (λ (t : List ℕ). same_text t (unit_text u)) (rest_is (i + 1) p ∙ at.after))

    pub other_unit : same ≡ false → [] ≡ number_in u p
    unfolding number_in
    other_unit e = rw (unit_of_lem ∙ e, and-false (has_space p))

    pub own_unit : i < length p → same ≡ true → take i p ≡ number_in u p
    unfolding number_in
    own_unit h e = at.before ∙ rw (unit_of_lem ∙ e, sym at.has ∙ lt-ltb i (length p) h)

-- ---- TA and SR: what is read is judged

-- the number of a threshold, or why there is none
sized_by : (n : Result Tare NoAmount) (s : Result Threshold NoAmount) (h : Threshold) → MatchResult n (λ m. IsOkAnd s (λ t. t.0 ≡ m.0)) (λ e. s ≡ Err e)
    → s ≡ Ok h → n ≡ Ok (record { 0 = h.0 })
sized_by (Ok m) (Ok t) h same is =
    let one : t ≡ h = cc in
    ap (λ (v : ℕ). Ok (record { 0 = v })) (sym same ∙ ap (λ (x : Threshold). x.0) one)
sized_by (Ok m) (Err e) h same is = absurd same
sized_by (Err e) s h same is = absurd (cc)

none_by : (n : Result Tare NoAmount) (s : Result Threshold NoAmount) (r : NoAmount) → MatchResult n (λ m. IsOkAnd s (λ t. t.0 ≡ m.0)) (λ e. s ≡ Err e)
    → s ≡ Err r → n ≡ Err r
none_by (Ok m) (Ok t) r same is = absurd (cc)
none_by (Ok m) (Err e) r same is = absurd same
none_by (Err e) s r same is = cc

module _ (j : Situation) (p : List ℕ) {t : List ℕ} (number : t ≡ number_in j.resolution.unit p) {n : Result Tare NoAmount} where
  module _ (read : n ≡ preset_from j t) where
    preset_is : preset_in j p ≡ n
    unfolding preset_in
    preset_is = sym (read ∙ ap (preset_from j) number)

    pub preset_taken : {m : Tare} {within : Bool} → n ≡ Ok m → within ≡ leb m.0 j.capacity → within ≡ true → Preset m ≡ preset_rule j p
    unfolding preset_rule
    preset_taken is known e = rw (preset_is, is, sym known ∙ e)

    pub preset_above : {m : Tare} {within : Bool} → n ≡ Ok m → within ≡ leb m.0 j.capacity → within ≡ false → Wrong place_ta ≡ preset_rule j p
    unfolding preset_rule
    preset_above is known e = rw (preset_is, is, sym known ∙ e)

    pub preset_none : {e : NoAmount} → n ≡ Err e → Wrong place_ta ≡ preset_rule j p
    unfolding preset_rule
    preset_none is = rw (preset_is, is)

  module _ (read : n ≡ read_typed j.resolution.unit t) where
    typed_is : typed_in j p ≡ n
    unfolding typed_in
    typed_is = sym (read ∙ ap (read_typed j.resolution.unit) number)

    module _ {s : Result Threshold NoAmount} (sized : MatchResult n (λ m. IsOkAnd s (λ h. h.0 ≡ m.0)) (λ e. s ≡ Err e)) where
      module _ {h : Threshold} {within : Bool} (is : s ≡ Ok h) (known : within ≡ leb h.0 j.capacity) where
        pub change_taken : (leb 1 h.0 && within) ≡ true → Change h ≡ change_rule j p
        unfolding change_rule
        change_taken e = rw (typed_is, sized_by n s h sized is, sym known, e)

        pub change_outside : (leb 1 h.0 && within) ≡ false → Wrong place_sr ≡ change_rule j p
        unfolding change_rule
        change_outside e = rw (typed_is, sized_by n s h sized is, sym known, e)

      pub change_none : {e : NoAmount} → s ≡ Err e → Wrong place_sr ≡ change_rule j p
      unfolding change_rule
      change_none {e} is = rw (typed_is, none_by n s e sized is)

-- ---- M21

-- a code that is read
pub coded_row : (p : List ℕ) (o : Option WeightUnit) {r : Verdict} → unit_in p ≡ o → MatchOption o (r ≡ Wrong place_m21) (λ u. r ≡ Select u) → r ≡ select_rule p
unfolding select_rule
coded_row p None is told = told ∙ rw is
coded_row p (Some u) is told = told ∙ rw is

-- 0 and a space stand in front where 0 stands before the first space
host_front : (p : List ℕ) → same_text (take 2 p) (ascii "0 ") ≡ has_space p && same_text (before_space p) (ascii "0")
host_front [] = refl
host_front (a ∷ []) = by (eqb a space)
  where
    by : (s : Bool) → (eqb a 48 && false) ≡ (s || false) && same_text (cond s [] (a ∷ [])) (ascii "0")
    by true = and-false (eqb a 48)
    by false = and-false (eqb a 48)
host_front (a ∷ b ∷ p) = by (eqb a space) (eqb b space) refl
  where
    by : (s t : Bool) → eqb a space ≡ s
        → (eqb a 48 && (t && true)) ≡ (s || (t || has_space p)) && same_text (cond s [] (a ∷ cond t [] (b ∷ before_space p))) (ascii "0")
    by true t e = rw (eqb-true a space e)
    by false true e = refl
    by false false e = and-false (eqb a 48) ∙ sym (ap (λ (x : Bool). has_space p && x) (and-false (eqb a 48)) ∙ and-false (has_space p))

module _ (p : List ℕ) {i : ℕ} (f : FirstAt space p i) where
  front_cells : i ≡ length (take i p)
  front_cells = sym (length-take-le i p f.in_text)

  -- without a space there is no code
  pub no_code : length p ≤ i → Wrong place_m21 ≡ select_rule p
  unfolding select_rule unit_in
  no_code h = rw (host_front p, ← f.has, le-ltb i (length p) h)

  module _ {same : Bool} (within : i < length p) (known : same ≡ same_text (take i p) (48 ∷ [])) where
    front : same_text (take 2 p) (ascii "0 ") ≡ same
    front = host_front p ∙ rw (← f.has, lt-ltb i (length p) within, ← f.before) (sym known)

    pub other_place : same ≡ false → Wrong place_m21 ≡ select_rule p
    unfolding select_rule unit_in
    other_place e = rw (front ∙ e)

    -- what follows the space is read as a code
    pub code_read : same ≡ true → unit_in p ≡ unit_coded (take (length p - (i + 1)) (drop (i + 1) p))
    unfolding unit_in
    code_read e =
        let zero_alone : take i p ≡ 48 ∷ [] = same_is (take i p) (48 ∷ []) (sym known ∙ e) in
        let one : i ≡ 1 = front_cells ∙ ap length zero_alone in
        rw (front ∙ e) (sym (ap unit_coded (rest_is (i + 1) p ∙ ap (λ (k : ℕ). drop (k + 1) p) one)))
