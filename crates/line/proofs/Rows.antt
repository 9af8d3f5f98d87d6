-- The judging table: each way of the code against the definition.
-- Assumes nothing.
use mathlib.Core.Path.{◌≡◌, refl, sym, ap, ◌∙◌}
use mathlib.Core.Bool.{Bool, true, false, cond, not, ◌&&◌, ◌||◌, or-false}
use mathlib.Core.List.{List}
use denote.Ref.{Bor}
use Rattle.std.proofs.Common.{Option, Some, None}
use Rattle.std.specs.Option.{MatchOption}
use Rattle.std.specs.Slice.{IsGetRangeResult}
use Prim.Native.Nat.{ℕ, ◌+◌, ◌≤◌, min}
use native.Mathlib.Omega.{arith}
use lib.Dec.{leb, ltb}
use lib.ListN.{length, take, drop}
use lib.Seq.{take_all, length-take-le}
use borrow.Author.Tests.{lt-ltb, le-ltb, leb-true, leb-false, eq-eqb, ne_eqb}
use Rattle.answer.specs.declared.answer.Error.TheVariants.{Syntax, Transmission, Logical}
use Rattle.answer.specs.Commands.{command_count, names, needs_sample, place_d, place_m21, place_of, place_reset, place_sr, place_ta, takes_parameters}
use Rattle.line.specs.declared.receive.Line.{Line}
use Rattle.line.specs.declared.judge.Situation.{Situation}
use Rattle.line.specs.declared.judge.Verdict.{Verdict}
use Rattle.line.specs.declared.judge.Verdict.TheVariants.{Erroneous, Reset, Busy, Wrong, NoSample, Run}
use Rattle.line.specs.Receiving.{content_of, line_limit}
use Rattle.line.specs.Judging.{has_control, command_in, is_wrong, own_rule, judgement}
use Rattle.line.specs.Parts.{show_rule, preset_rule, change_rule, select_rule, last_rows, text_rows}
use Rattle.weight.specs.Characters.{space}
use Rattle.text.specs.Searching.{FirstAt, after_space, has_space}
use Rattle.text.proofs.Searching.{rest_is}
use Rattle.classes.specs.Classes.{first_in}
use Rattle.weight.proofs.Allowed.{neither_left, neither_right}
use Rattle.line.proofs.Scanning.{scanned_all, space_at_break}

-- ---- rows 6 to 8

-- a right parameter, a wrong one, none
asked : (s right : Bool) (p w r : Verdict) → cond s (cond right p w) r ≡ cond (s && not right) w (cond s p r)
asked true true p w r = refl
asked true false p w r = refl
asked false right p w r = refl

due : (s right : Bool) (p w : Verdict) → cond s (cond right p w) w ≡ cond (not (s && right)) w p
due true true p w = refl
due true false p w = refl
due false right p w = refl

module _ (j : Situation) (t : List ℕ) where
  pub show_row : cond (has_space t) (show_rule (after_space t)) (Wrong place_d) ≡ last_rows j place_d t
  unfolding show_rule last_rows is_wrong own_rule
  show_row = simp or-false (due (has_space t) _ _ _)

  pub preset_row : cond (has_space t) (preset_rule j (after_space t)) (Run place_ta) ≡ last_rows j place_ta t
  unfolding preset_rule last_rows is_wrong own_rule
  preset_row = simp or-false (asked (has_space t) _ _ _ _)

  pub change_row : cond (has_space t) (change_rule j (after_space t)) (Run place_sr) ≡ last_rows j place_sr t
  unfolding change_rule last_rows is_wrong own_rule
  change_row = simp or-false (asked (has_space t) _ _ _ _)

  pub select_row : cond (has_space t) (select_rule (after_space t)) (Run place_m21) ≡ last_rows j place_m21 t
  unfolding select_rule last_rows is_wrong own_rule
  select_row = asked (has_space t) _ _ _ _

  -- by what follows the space, or nothing where there is none
  pub by_parameter : {c k i : ℕ} → c ≡ k → FirstAt space t i → (o : Option (Bor (List ℕ))) → IsGetRangeResult t (i + 1) (length t) o
      → (rule : List ℕ → Verdict) (alone : Verdict) {r : Verdict} {Told : Bor (List ℕ) → Type 0} → MatchOption o (r ≡ alone) Told
      → ((p : Bor (List ℕ)) → Told p → r ≡ rule p.now) → cond (has_space t) (rule (after_space t)) alone ≡ last_rows j k t → r ≡ last_rows j c t
  by_parameter {c} {k} {i} e at None got rule alone told read row =
      told ∙ rw (sym at.has ∙ le-ltb i (length t) (omega (arith, got))) at row ∙ ap (λ x. last_rows j x t) (sym e)
  by_parameter {c} {k} {i} e at (Some p) got rule alone told read row =
      read p told
      ∙ ap rule (got.0.2 ∙ rest_is (i + 1) t ∙ at.after)
      ∙ rw (sym at.has ∙ lt-ltb i (length t) (omega (arith, got))) at row
      ∙ ap (λ x. last_rows j x t) (sym e)

module _ (j : Situation) (c : ℕ) (t : List ℕ) where
  module _ (d : c ≡ place_d → ⊥) (ta : c ≡ place_ta → ⊥) (sr : c ≡ place_sr → ⊥) (m : c ≡ place_m21 → ⊥) {lacks : Bool} (known : lacks ≡ (needs_sample c && not j.sampled)) where
    pub no_sample : lacks ≡ true → NoSample c ≡ last_rows j c t
    unfolding last_rows is_wrong
    no_sample e = rw (ne_eqb c place_d d, ne_eqb c place_ta ta, ne_eqb c place_sr sr, ne_eqb c place_m21 m, rw known at e)

    pub runs : lacks ≡ false → Run c ≡ last_rows j c t
    unfolding last_rows is_wrong own_rule
    runs e = rw (ne_eqb c place_d d, ne_eqb c place_ta ta, ne_eqb c place_sr sr, ne_eqb c place_m21 m, rw known at e)

-- ---- the whole table

module _ (j : Situation) (faulty over : Bool) (t : List ℕ) where
  pub row_1 : faulty ≡ true → Erroneous Transmission ≡ text_rows j faulty over t
  unfolding text_rows
  row_1 e = rw e

  module _ (i : ℕ) (first : i ≡ first_in 68 t) {control : Bool} (scanned : control ≡ has_control (drop i t)) where
    -- what is known of the line: no control byte is in it, so its name ends at a space
    pub space_known : (c : ℕ) → (over || control || leb command_count c) ≡ false → FirstAt space t i
    space_known c known = space_at_break t first scanned (neither_right over control (neither_left (over || control) (leb command_count c) known))

    module _ (good : faulty ≡ false) {c : ℕ} (found : c ≡ place_of (take i t)) where
      named : FirstAt space t i → command_in t ≡ c
      unfolding command_in
      named at = sym (found ∙ ap place_of at.before)

      -- the name counts where no control byte does
      unknown : (over || has_control t || leb (length names) (command_in t)) ≡ (over || control || leb command_count c)
      unknown = rw (sym (scanned_all t first scanned)) (by control refl)
        where
          by : (b : Bool) → control ≡ b → (over || b || leb (length names) (command_in t)) ≡ (over || b || leb command_count c)
          by true e = either over
            where
              either : (o : Bool) → (o || true || leb (length names) (command_in t)) ≡ (o || true || leb command_count c)
              either true = refl
              either false = refl
          by false e = rw (named (space_at_break t first scanned e))

      pub row_2 : (over || control || leb command_count c) ≡ true → Erroneous Syntax ≡ text_rows j faulty over t
      unfolding text_rows
      row_2 e = rw (good, unknown ∙ e)

      module _ (known : (over || control || leb command_count c) ≡ false) {takes : Bool} (asked : takes ≡ takes_parameters c) where
        at : FirstAt space t i
        at = space_known c known

        extra : (has_space t && not (takes_parameters (command_in t))) ≡ (ltb i (length t) && not takes)
        extra = rw (sym at.has, named at, sym asked)

        pub row_3 : (ltb i (length t) && not takes) ≡ true → Erroneous Logical ≡ text_rows j faulty over t
        unfolding text_rows
        row_3 e = rw (good, unknown ∙ known, extra ∙ e)

        module _ (fine : (ltb i (length t) && not takes) ≡ false) where
          pub row_4 : c ≡ place_reset → Reset ≡ text_rows j faulty over t
          unfolding text_rows
          row_4 e = rw (good, unknown ∙ known, extra ∙ fine, named at, eq-eqb c place_reset e)

          module _ (other : c ≡ place_reset → ⊥) where
            pub row_5 : {r : Verdict} → j.waiting ≡ true → r ≡ Busy c → r ≡ text_rows j faulty over t
            unfolding text_rows
            row_5 e f = f ∙ rw (good, unknown ∙ known, extra ∙ fine, named at, ne_eqb c place_reset other, e)

            pub rows_6_to_8 : {r : Verdict} → j.waiting ≡ false → r ≡ last_rows j c t → r ≡ text_rows j faulty over t
            unfolding text_rows last_rows
            rows_6_to_8 e f = f ∙ rw (good, unknown ∙ known, extra ∙ fine, named at, ne_eqb c place_reset other, e)

-- ---- the cells

-- more cells than there are make no difference
held_by : (b : List ℕ) (k n : ℕ) (few : Bool) → leb n k ≡ few → length b ≤ k → take (min k n) b ≡ take n b
held_by b k n true e h =
    let f : min k n ≡ n = omega (arith, leb-true n k e) in
    rw f
held_by b k n false e h = rw (take_all (min k n) b (omega (arith, leb-false n k e)), take_all n b (omega (arith, leb-false n k e)))

module _ (l : Line) (cells : length l.bytes ≡ line_limit) {n : ℕ} (counted : n ≡ min line_limit l.len) where
  pub in_cells : n ≤ length l.bytes
  in_cells = omega arith

  pub cells_counted : n ≡ length (take n l.bytes)
  cells_counted = sym (length-take-le n l.bytes in_cells)

  pub judged : (j : Situation) {r : Verdict}
      → r ≡ text_rows j l.faulty l.over (take n l.bytes) → r ≡ judgement j l
  unfolding text_rows judgement
  judged j f =
      let same : take n l.bytes ≡ content_of l = rw counted (held_by l.bytes line_limit l.len (leb l.len line_limit) refl (omega arith)) in
      f ∙ ap (λ (t : List ℕ). text_rows j l.faulty l.over t) same
