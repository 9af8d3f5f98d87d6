-- What each verdict says of the line that was judged, and when the line is judged a reset.
-- Assumes nothing.
use mathlib.Core.Path.{◌≡◌, refl, sym, ap, ◌∙◌}
use mathlib.Core.Bool.{Bool, true, false, cond, not, ◌&&◌, ◌||◌, and-eq-true_iff}
use Rattle.std.proofs.Common.{Option, Some, None, Result, Ok, Err}
use mathlib.Core.List.{List, [], ◌∷◌, ◌++◌, map}
use Prim.Native.Nat.{ℕ, zero, suc, ◌-◌, ◌≤◌, ◌<◌}
use native.Mathlib.Omega.{arith}
use lib.Dec.{leb, ltb}
use lib.ListN.{length, take, drop, length-map, length-take, length-drop}
use lib.Seq.{take-take}
use borrow.Author.Tests.{eqb-true, eqb-false, leb-true, leb-false, ltb-false, not-true, not-false}
use Rattle.answer.specs.Commands.{command_count, is_d, is_m21, is_reset, is_sr, is_ta, name_of, names, needs_sample, place_d, place_in, place_m21, place_of, place_reset, place_sr, place_ta, takes_parameters}
use Rattle.answer.proofs.Rows.{parameters_are}
use Rattle.answer.proofs.Names.{found_name}
use Rattle.line.specs.declared.receive.Line.{Line}
use Rattle.line.specs.declared.judge.Situation.{Situation}
use Rattle.line.specs.declared.judge.Verdict.{Verdict}
use Rattle.line.specs.declared.judge.Verdict.TheVariants.{Erroneous, Reset, Busy, Wrong, NoSample, Run, Preset, Change, Show, Select}
use Rattle.text.specs.Searching.{before_space, after_space, has_space}
use Rattle.text.specs.Printable.{is_printable}
use Rattle.line.specs.Judging.{has_control, command_in, is_shown, between_quotes, is_quoted, number_in, preset_from, preset_in, typed_in, preset_of, amount_in, threshold_of, threshold_in, unit_in, is_coded, unit_of, is_preset, is_threshold, is_wrong, own_rule, first_row, judgement}
use Rattle.line.specs.Receiving.{content_of, line_limit}
use Rattle.line.specs.Unbounded.{Marked, byte_in, any_faulty, judgement_of}
use Rattle.line.proofs.Kept.{Holds}
use Rattle.line.proofs.Parameters.{Between, shown_between}
use Rattle.weight.specs.declared.amount.Tare.{Tare}
use Rattle.weight.specs.declared.units.WeightUnit.{WeightUnit}
use Rattle.weight.specs.declared.amount.NoAmount.{NoAmount}
use Rattle.weight.specs.declared.changes.Threshold.{Threshold}
use Rattle.weight.specs.Characters.{space}
use Rattle.text.specs.Ascii.{ascii, same_text}
use Rattle.text.specs.UnitTexts.{unit_text}
use Rattle.text.specs.Reading.{is_decimal}
use Rattle.text.specs.Typed.{is_typed, preset_resolution, read_typed}
use Rattle.text.proofs.TypedText.{amount_is_typed, preset_of_lem}
use Rattle.weight.proofs.Allowed.{both_right, neither_left, neither_right}
use Rattle.text.proofs.Named.{same_is}
use Rattle.text.proofs.Searching.{first_between, none_between}

-- ---- which row was reached

never : {A : Type 0} → ◌≡◌ {A = ℕ} 0 1 → A
never e = absurd (omega arith)

-- a verdict of row 8
abbrev is_own : Verdict → Bool
is_own (Erroneous e) = false
is_own Reset = false
is_own (Busy c) = false
is_own (Wrong c) = false
is_own (NoSample c) = false
is_own (Run c) = true
is_own (Preset m) = true
is_own (Change t) = true
is_own (Show n) = true
is_own (Select u) = true

-- row 8 by its tests
abbrev chosen : Bool → Bool → Bool → Bool → ℕ → Tare → Threshold → WeightUnit → ℕ → Verdict
chosen d ta sr se n m t u c = cond d (Show n) (cond ta (Preset m) (cond sr (Change t) (cond se (Select u) (Run c))))

own_by : (d ta sr se : Bool) (n : ℕ) (m : Tare) (t : Threshold) (u : WeightUnit) (c : ℕ) → is_own (chosen d ta sr se n m t u c) ≡ true
own_by true ta sr se n m t u c = refl
own_by false true sr se n m t u c = refl
own_by false false true se n m t u c = refl
own_by false false false true n m t u c = refl
own_by false false false false n m t u c = refl

own_is : (j : Situation) (c : ℕ) (t : List ℕ) → is_own (own_rule j c t) ≡ true
unfolding own_rule
own_is j c t =
    own_by (is_d c) (is_ta c && has_space t) (is_sr c && has_space t) (is_m21 c && has_space t) (length (after_space t) - 2) (amount_in (preset_in j (after_space t)))
    (threshold_in (typed_in j (after_space t))) (unit_of (unit_in (after_space t))) c

-- rows 1 to 3 do not apply
record Known (faulty unknown extra : Bool) : Type 0 where
  good : faulty ≡ false
  named : unknown ≡ false
  alone : extra ≡ false

past : Known false false false
past = record { good = refl; named = refl; alone = refl }

row_4 : (a b x r w g n : Bool) (c : ℕ) (own : Verdict) → is_own own ≡ true → first_row a b x r w g n c own ≡ Reset → Known a b x × (r ≡ true)
row_4 true b x r w g n c own o e = never (cc)
row_4 false true x r w g n c own o e = never (cc)
row_4 false false true r w g n c own o e = never (cc)
row_4 false false false true w g n c own o e = (past, refl)
row_4 false false false false true g n c own o e = never (cc)
row_4 false false false false false true n c own o e = never (cc)
row_4 false false false false false false true c own o e = never (cc)
row_4 false false false false false false false c own o e =
    let f : false ≡ true = sym (ap is_own e) ∙ o in
    never (cc)

-- the row of v is the last
record Last (faulty unknown extra reset waiting wrong missing : Bool) (own v : Verdict) : Type 0 where
  known : Known faulty unknown extra
  no_reset : reset ≡ false
  free : waiting ≡ false
  right : wrong ≡ false
  sampled : missing ≡ false
  own_rule_lem : own ≡ v

row_8 : (a b x r w g n : Bool) (c : ℕ) (own v : Verdict) → is_own v ≡ true → first_row a b x r w g n c own ≡ v → Last a b x r w g n own v
row_8 true b x r w g n c own v o e = let f : false ≡ true = ap is_own e ∙ o in never (cc)
row_8 false true x r w g n c own v o e = let f : false ≡ true = ap is_own e ∙ o in never (cc)
row_8 false false true r w g n c own v o e = let f : false ≡ true = ap is_own e ∙ o in never (cc)
row_8 false false false true w g n c own v o e = let f : false ≡ true = ap is_own e ∙ o in never (cc)
row_8 false false false false true g n c own v o e = let f : false ≡ true = ap is_own e ∙ o in never (cc)
row_8 false false false false false true n c own v o e = let f : false ≡ true = ap is_own e ∙ o in never (cc)
row_8 false false false false false false true c own v o e = let f : false ≡ true = ap is_own e ∙ o in never (cc)
row_8 false false false false false false false c own v o e =
    record { known = past; no_reset = refl; free = refl; right = refl; sampled = refl; own_rule_lem = e }

-- rows 5 to 7: the command that is not carried out, and the row's test
abbrev is_kept : Verdict → Bool
is_kept (Erroneous e) = false
is_kept Reset = false
is_kept (Busy c) = true
is_kept (Wrong c) = true
is_kept (NoSample c) = true
is_kept (Run c) = false
is_kept (Preset m) = false
is_kept (Change t) = false
is_kept (Show n) = false
is_kept (Select u) = false

abbrev kept_from : Verdict → ℕ
kept_from (Erroneous e) = 0
kept_from Reset = 0
kept_from (Busy c) = c
kept_from (Wrong c) = c
kept_from (NoSample c) = c
kept_from (Run c) = 0
kept_from (Preset m) = 0
kept_from (Change t) = 0
kept_from (Show n) = 0
kept_from (Select u) = 0

abbrev kept_by : Verdict → Bool → Bool → Bool → Bool
kept_by (Erroneous e) w g n = false
kept_by Reset w g n = false
kept_by (Busy c) w g n = w
kept_by (Wrong c) w g n = g
kept_by (NoSample c) w g n = n
kept_by (Run c) w g n = false
kept_by (Preset m) w g n = false
kept_by (Change t) w g n = false
kept_by (Show n') w g n = false
kept_by (Select u) w g n = false

own_not_kept : (v : Verdict) → is_own v ≡ true → is_kept v ≡ false
own_not_kept (Erroneous e) o = never (cc)
own_not_kept Reset o = never (cc)
own_not_kept (Busy c) o = never (cc)
own_not_kept (Wrong c) o = never (cc)
own_not_kept (NoSample c) o = never (cc)
own_not_kept (Run c) o = refl
own_not_kept (Preset m) o = refl
own_not_kept (Change t) o = refl
own_not_kept (Show n) o = refl
own_not_kept (Select u) o = refl

record Kept (faulty unknown extra reset waiting wrong missing : Bool) (c : ℕ) (v : Verdict) : Type 0 where
  known : Known faulty unknown extra
  no_reset : reset ≡ false
  command : c ≡ kept_from v
  reason : kept_by v waiting wrong missing ≡ true

rows_5_to_7 : (a b x r w g n : Bool) (c : ℕ) (own v : Verdict) → is_own own ≡ true → is_kept v ≡ true → first_row a b x r w g n c own ≡ v
    → Kept a b x r w g n c v
rows_5_to_7 true b x r w g n c own v o k e = let f : false ≡ true = ap is_kept e ∙ k in never (cc)
rows_5_to_7 false true x r w g n c own v o k e = let f : false ≡ true = ap is_kept e ∙ k in never (cc)
rows_5_to_7 false false true r w g n c own v o k e = let f : false ≡ true = ap is_kept e ∙ k in never (cc)
rows_5_to_7 false false false true w g n c own v o k e = let f : false ≡ true = ap is_kept e ∙ k in never (cc)
rows_5_to_7 false false false false true g n c own v o k e =
    rw (← e) (record { known = past; no_reset = refl; command = refl; reason = refl })
rows_5_to_7 false false false false false true n c own v o k e =
    rw (← e) (record { known = past; no_reset = refl; command = refl; reason = refl })
rows_5_to_7 false false false false false false true c own v o k e =
    rw (← e) (record { known = past; no_reset = refl; command = refl; reason = refl })
rows_5_to_7 false false false false false false false c own v o k e =
    let f : false ≡ true = sym (own_not_kept own o) ∙ ap is_kept e ∙ k in
    never (cc)

-- ---- the line's parts

-- the bytes before the first space are the command's name
name_before : (t : List ℕ) → command_in t < command_count → before_space t ≡ name_of (command_in t)
unfolding command_in
name_before t h = sym (found_name (before_space t) h)

-- a name alone
name_alone : (t : List ℕ) → command_in t < command_count → has_space t ≡ false → t ≡ name_of (command_in t)
name_alone t h e = sym (none_between space t e).0 ∙ name_before t h

-- a name and a parameter
name_then : (t : List ℕ) → command_in t < command_count → has_space t ≡ true → t ≡ name_of (command_in t) ++ (space ∷ after_space t)
name_then t h e = first_between space t e ∙ ap (λ (n : List ℕ). n ++ (space ∷ after_space t)) (name_before t h)

-- ---- what callers use

-- the finished line f has these bytes, all of them good
pub record GoodLine (f : List Marked) (t : List ℕ) : Type 0 where
  pub bytes : map byte_in f ≡ t
  pub good : any_faulty f ≡ false

-- what follows the name and the space
abbrev pub parameter_in : List Marked → List ℕ
parameter_in f = after_space (map byte_in f)

-- a line judged to the command c alone
pub record RunLine (j : Situation) (f : List Marked) (c : ℕ) : Type 0 where
  pub line : GoodLine f (name_of c)
  pub a_name : c < command_count
  pub no_reset : c ≡ place_reset → ⊥
  pub no_show : c ≡ place_d → ⊥
  pub free : j.waiting ≡ false
  pub has_sample : (needs_sample c && not j.sampled) ≡ false

-- a line whose command c is not carried out
pub record KeptLine (f : List Marked) (c : ℕ) : Type 0 where
  pub good : any_faulty f ≡ false
  pub command : command_in (map byte_in f) ≡ c
  pub a_name : c < command_count
  pub no_reset : c ≡ place_reset → ⊥

-- a line judged to TA with the amount m
pub record PresetLine (j : Situation) (f : List Marked) (m : Tare) : Type 0 where
  pub line : GoodLine f (ascii "TA " ++ parameter_in f)
  pub parts : parameter_in f ≡ before_space (parameter_in f) ++ (space ∷ unit_text j.resolution.unit)
  pub unit : after_space (parameter_in f) ≡ unit_text j.resolution.unit
  pub number : preset_from j (before_space (parameter_in f)) ≡ Ok m
  pub within : m.0 ≤ j.capacity
  pub free : j.waiting ≡ false

-- a line judged to SR with the threshold t
pub record ChangeLine (j : Situation) (f : List Marked) (t : Threshold) : Type 0 where
  pub line : GoodLine f (ascii "SR " ++ parameter_in f)
  pub unit : after_space (parameter_in f) ≡ unit_text j.resolution.unit
  pub number : read_typed j.resolution.unit (before_space (parameter_in f)) ≡ Ok (record { 0 = t.0 })
  pub typed : typed_in j (parameter_in f) ≡ Ok (record { 0 = t.0 })
  pub least : 1 ≤ t.0
  pub within : t.0 ≤ j.capacity
  pub free : j.waiting ≡ false

-- a line judged to M21 with the code of u
pub record SelectLine (j : Situation) (f : List Marked) (u : WeightUnit) : Type 0 where
  pub line : GoodLine f (ascii "M21 " ++ parameter_in f)
  pub unit : unit_in (parameter_in f) ≡ Some u
  pub free : j.waiting ≡ false

-- a line judged to D with a text of n bytes, from its fourth on
pub record ShowLine (j : Situation) (f : List Marked) (n : ℕ) : Type 0 where
  pub line : GoodLine f (ascii "D " ++ parameter_in f)
  pub in_cells : length f ≤ line_limit
  pub text : between_quotes (parameter_in f) ≡ take n (drop 3 (map byte_in f))
  pub shown : is_shown (between_quotes (parameter_in f)) ≡ true
  pub count : length (between_quotes (parameter_in f)) ≡ n
  pub short : n ≤ 20
  pub free : j.waiting ≡ false

-- n bytes of a line's cells that D takes
pub record Shown (l : Line) (n : ℕ) : Type 0 where
  pub short : n ≤ 20
  pub long : length (take n (drop 3 l.bytes)) ≡ n
  pub printable : is_printable (take n (drop 3 l.bytes)) ≡ true

-- a good line of at most 64 bytes that begins with a name
record Begins (f : List Marked) : Type 0 where
  good : any_faulty f ≡ false
  in_cells : length f ≤ line_limit
  a_name : command_in (map byte_in f) < command_count
  alone : (has_space (map byte_in f) && not (takes_parameters (command_in (map byte_in f)))) ≡ false

begins : (f : List Marked)
    → Known (any_faulty f) (ltb line_limit (length f) || has_control (map byte_in f) || leb (length names) (command_in (map byte_in f)))
    (has_space (map byte_in f) && not (takes_parameters (command_in (map byte_in f)))) → Begins f
begins f k =
    let few = neither_left (ltb line_limit (length f) || has_control (map byte_in f)) (leb (length names) (command_in (map byte_in f))) k.named in
    record {
      good = k.good;
      in_cells = ltb-false line_limit (length f) (neither_left (ltb line_limit (length f)) (has_control (map byte_in f)) few);
      a_name =
          leb-false command_count (command_in (map byte_in f))
          (neither_right (ltb line_limit (length f) || has_control (map byte_in f)) (leb (length names) (command_in (map byte_in f))) k.named);
      alone = k.alone;
    }

-- no parameter after a name that takes none
no_space : (h takes : Bool) → takes ≡ false → (h && not takes) ≡ false → h ≡ false
no_space true true e a = never (cc)
no_space true false e a = never (cc)
no_space false takes e a = refl

nothing_after : (h d sr ta se : Bool) → d ≡ false → (ta && h) ≡ false → (sr && h) ≡ false → (se && h) ≡ false
    → (h && not (d || sr || ta || se)) ≡ false → h ≡ false
nothing_after true d sr true se e a s m b = never (cc)
nothing_after true d true false se e a s m b = never (cc)
nothing_after true d false false true e a s m b = never (cc)
nothing_after true d false false false e a s m b = never (cc)
nothing_after false d sr ta se e a s m b = refl

-- what row 8 gave
run_by : (d ta sr se : Bool) (n : ℕ) (m : Tare) (t : Threshold) (u : WeightUnit) (c k : ℕ) → chosen d ta sr se n m t u c ≡ Run k
    → (d ≡ false) × (ta ≡ false) × (sr ≡ false) × (se ≡ false) × (c ≡ k)
run_by true ta sr se n m t u c k e = never (cc)
run_by false true sr se n m t u c k e = never (cc)
run_by false false true se n m t u c k e = never (cc)
run_by false false false true n m t u c k e = never (cc)
run_by false false false false n m t u c k e = (refl, refl, refl, refl, cc)

preset_by : (d ta sr se : Bool) (n : ℕ) (m : Tare) (t : Threshold) (u : WeightUnit) (c : ℕ) (p : Tare) → chosen d ta sr se n m t u c ≡ Preset p → (ta ≡ true) × (m ≡ p)
preset_by true ta sr se n m t u c p e = never (cc)
preset_by false true sr se n m t u c p e = (refl, cc)
preset_by false false true se n m t u c p e = never (cc)
preset_by false false false true n m t u c p e = never (cc)
preset_by false false false false n m t u c p e = never (cc)

change_by : (d ta sr se : Bool) (n : ℕ) (m : Tare) (t : Threshold) (u : WeightUnit) (c : ℕ) (p : Threshold) → chosen d ta sr se n m t u c ≡ Change p → (sr ≡ true) × (t ≡ p)
change_by true ta sr se n m t u c p e = never (cc)
change_by false true sr se n m t u c p e = never (cc)
change_by false false true se n m t u c p e = (refl, cc)
change_by false false false true n m t u c p e = never (cc)
change_by false false false false n m t u c p e = never (cc)

show_by : (d ta sr se : Bool) (n : ℕ) (m : Tare) (t : Threshold) (u : WeightUnit) (c k : ℕ) → chosen d ta sr se n m t u c ≡ Show k → (d ≡ true) × (n ≡ k)
show_by true ta sr se n m t u c k e = (refl, cc)
show_by false true sr se n m t u c k e = never (cc)
show_by false false true se n m t u c k e = never (cc)
show_by false false false true n m t u c k e = never (cc)
show_by false false false false n m t u c k e = never (cc)

select_by : (d ta sr se : Bool) (n : ℕ) (m : Tare) (t : Threshold) (u : WeightUnit) (c : ℕ) (v : WeightUnit) → chosen d ta sr se n m t u c ≡ Select v
    → (se ≡ true) × (u ≡ v)
select_by true ta sr se n m t u c v e = never (cc)
select_by false true sr se n m t u c v e = never (cc)
select_by false false true se n m t u c v e = never (cc)
select_by false false false true n m t u c v e = (refl, cc)
select_by false false false false n m t u c v e = never (cc)

-- wrong parameters are those of a name that takes some
wrong_takes : (d sr ta se x y z v : Bool) → (d && x || ta && y || sr && z || se && v) ≡ true → (d || sr || ta || se) ≡ true
wrong_takes true sr ta se x y z v e = refl
wrong_takes false true ta se x y z v e = refl
wrong_takes false false true se x y z v e = refl
wrong_takes false false false true x y z v e = refl
wrong_takes false false false false x y z v e = never (cc)

-- D with right parameters: the space after it, and the text between quotes
record Showing (c : ℕ) (t : List ℕ) (n : ℕ) : Type 0 where
  is : c ≡ place_d
  spaced : has_space t ≡ true
  quotes : Between (after_space t)
  count : length (after_space t) - 2 ≡ n

showing : (j : Situation) (c n : ℕ) (t : List ℕ) → is_wrong j c t ≡ false → own_rule j c t ≡ Show n → Showing c t n
unfolding own_rule is_wrong
showing j c n t right own =
    let by = show_by (is_d c) (is_ta c && has_space t) (is_sr c && has_space t) (is_m21 c && has_space t) (length (after_space t) - 2) (amount_in (preset_in j (after_space t)))
    (threshold_in (typed_in j (after_space t))) (unit_of (unit_in (after_space t))) c n own in
    let is : c ≡ place_d = eqb-true c place_d by.0 in
    let fine : (has_space t && is_quoted (after_space t)) ≡ true =
    not-false (has_space t && is_quoted (after_space t)) (neither_left (not (has_space t && is_quoted (after_space t))) false
    (neither_left (not (has_space t && is_quoted (after_space t)) || false) false
    (neither_left (not (has_space t && is_quoted (after_space t)) || false || false) false (rw is at right)))) in
    let both = (and-eq-true_iff (has_space t) (is_quoted (after_space t))).0 fine in
    record { is = is; spaced = both.0; quotes = shown_between (after_space t) both.1; count = by.1 }

-- a number that the capacity allows
amount_by : (capacity : ℕ) (n : Result Tare NoAmount) → preset_of capacity n ≡ true → (n ≡ Ok (amount_in n)) × ((amount_in n).0 ≤ capacity)
amount_by capacity (Ok m) e = (refl, leb-true m.0 capacity e)
amount_by capacity (Err r) e = never (cc)

-- and that is not 0
threshold_by : (capacity : ℕ) (n : Result Tare NoAmount) → threshold_of capacity n ≡ true
    → (n ≡ Ok (amount_in n)) × (1 ≤ (amount_in n).0) × ((amount_in n).0 ≤ capacity)
threshold_by capacity (Ok m) e =
    let both = (and-eq-true_iff (leb 1 m.0) (leb m.0 capacity)).0 e in
    (refl, leb-true 1 m.0 both.0, leb-true m.0 capacity both.1)
threshold_by capacity (Err r) e = never (cc)

-- a code that is known
coded_by : (n : Option WeightUnit) → is_coded n ≡ true → n ≡ Some (unit_of n)
coded_by (Some u) e = refl
coded_by None e = never (cc)

-- a parameter with a number: number, space, the unit in force
record Numbered (u : WeightUnit) (p : List ℕ) : Type 0 where
  parts : p ≡ before_space p ++ (space ∷ unit_text u)
  unit : after_space p ≡ unit_text u
  number : number_in u p ≡ before_space p

-- no byte is no number
numbered : (u : WeightUnit) (p : List ℕ) → is_typed (number_in u p) ≡ true → Numbered u p
unfolding number_in is_typed is_decimal
numbered u p = by (has_space p && same_text (after_space p) (unit_text u)) refl
  where
    by : (b : Bool) → (has_space p && same_text (after_space p) (unit_text u)) ≡ b → is_typed (cond b (before_space p) []) ≡ true → Numbered u p
    by true h e =
        let both = (and-eq-true_iff (has_space p) (same_text (after_space p) (unit_text u))).0 h in
        let unit : after_space p ≡ unit_text u = same_is (after_space p) (unit_text u) both.1 in
        record { parts = first_between space p both.0 ∙ ap (λ (x : List ℕ). before_space p ++ (space ∷ x)) unit; unit = unit; number = rw h }
    by false h e = never (cc)

module _ (j : Situation) (f : List Marked) where
  abbrev c : ℕ
  c = command_in (map byte_in f)

  abbrev wrong : Bool
  wrong = is_wrong j c (map byte_in f)

  abbrev own : Verdict
  own = own_rule j c (map byte_in f)

  -- only the one good byte @ is judged a reset
  pub reset_line : judgement_of j f ≡ Reset → GoodLine f (ascii "@")
  unfolding judgement_of
  reset_line e =
      let row = row_4 (any_faulty f) (ltb line_limit (length f) || has_control (map byte_in f) || leb (length names) c)
      (has_space (map byte_in f) && not (takes_parameters c)) (is_reset c) j.waiting wrong (needs_sample c && not j.sampled) c own
      (own_is j c (map byte_in f)) e in
      let b : Begins f = begins f row.0 in
      let is : c ≡ place_reset = eqb-true c place_reset row.1 in
      let single : has_space (map byte_in f) ≡ false = no_space (has_space (map byte_in f)) (takes_parameters c) (rw is) b.alone in
      record { bytes = name_alone (map byte_in f) b.a_name single ∙ ap name_of is; good = b.good }

  -- and that byte always is
  pub reset_judged : GoodLine f (ascii "@") → judgement_of j f ≡ Reset
  unfolding judgement_of command_in place_of place_in
  reset_judged g =
      let one : length f ≡ 1 = sym (length-map f byte_in) ∙ ap length g.bytes in
      rw (g.good, g.bytes, one)

  last : {v : Verdict} → is_own v ≡ true → judgement_of j f ≡ v
      → Last (any_faulty f) (ltb line_limit (length f) || has_control (map byte_in f) || leb (length names) c) (has_space (map byte_in f) && not (takes_parameters c))
      (is_reset c) j.waiting wrong (needs_sample c && not j.sampled) own v
  unfolding judgement_of
  last {v} o e =
      row_8 (any_faulty f) (ltb line_limit (length f) || has_control (map byte_in f) || leb (length names) c)
      (has_space (map byte_in f) && not (takes_parameters c)) (is_reset c) j.waiting wrong (needs_sample c && not j.sampled) c own v o e

  -- ---- the command alone

  pub run_line : {k : ℕ} → judgement_of j f ≡ Run k → RunLine j f k
  unfolding own_rule
  run_line {k} e =
      let row = last refl e in
      let b : Begins f = begins f row.known in
      let by = run_by (is_d c) (is_ta c && has_space (map byte_in f)) (is_sr c && has_space (map byte_in f)) (is_m21 c && has_space (map byte_in f)) (length (parameter_in f) - 2)
      (amount_in (preset_in j (parameter_in f))) (threshold_in (typed_in j (parameter_in f))) (unit_of (unit_in (parameter_in f))) c k row.own_rule_lem in
      let single : has_space (map byte_in f) ≡ false =
      nothing_after (has_space (map byte_in f)) (is_d c) (is_sr c) (is_ta c) (is_m21 c) by.0 by.1 by.2 by.3 (rw (← (parameters_are c)) at b.alone) in
      record {
        line = record { bytes = name_alone (map byte_in f) b.a_name single ∙ ap name_of by.4; good = b.good };
        a_name = rw by.4 at b.a_name;
        no_reset = rw by.4 at (eqb-false c place_reset row.no_reset);
        no_show = rw by.4 at (eqb-false c place_d by.0);
        free = row.free;
        has_sample = rw by.4 at row.sampled;
      }

  -- ---- TA with a number

  pub preset_line : {m : Tare} → judgement_of j f ≡ Preset m → PresetLine j f m
  unfolding own_rule is_wrong preset_in
  preset_line {m} e =
      let row = last refl e in
      let b : Begins f = begins f row.known in
      let by = preset_by (is_d c) (is_ta c && has_space (map byte_in f)) (is_sr c && has_space (map byte_in f)) (is_m21 c && has_space (map byte_in f)) (length (parameter_in f) - 2)
      (amount_in (preset_in j (parameter_in f))) (threshold_in (typed_in j (parameter_in f))) (unit_of (unit_in (parameter_in f))) c m row.own_rule_lem in
      let both = (and-eq-true_iff (is_ta c) (has_space (map byte_in f))).0 by.0 in
      let is : c ≡ place_ta = eqb-true c place_ta both.0 in
      let right : is_preset j (parameter_in f) ≡ true =
      not-false (is_preset j (parameter_in f)) (neither_left (not (is_preset j (parameter_in f))) false
      (neither_left (not (is_preset j (parameter_in f)) || false) false (rw (is, both.1) at row.right))) in
      let amount = amount_by j.capacity (preset_in j (parameter_in f)) right in
      let read : preset_in j (parameter_in f) ≡ Ok m = amount.0 ∙ ap Ok by.1 in
      let n : Numbered j.resolution.unit (parameter_in f) = numbered j.resolution.unit (parameter_in f) (preset_of_lem (preset_resolution j.capacity j.fine j.resolution (number_in j.resolution.unit (parameter_in f))) _ read).typed in
      record {
        line = record { bytes = name_then (map byte_in f) b.a_name both.1 ∙ ap (λ (x : ℕ). name_of x ++ (space ∷ parameter_in f)) is; good = b.good };
        parts = n.parts;
        unit = n.unit;
        number = rw n.number at read;
        within = rw by.1 at amount.1;
        free = row.free;
      }

  -- ---- SR with a number

  pub change_line : {t : Threshold} → judgement_of j f ≡ Change t → ChangeLine j f t
  unfolding own_rule is_wrong typed_in
  change_line {t} e =
      let row = last refl e in
      let b : Begins f = begins f row.known in
      let by = change_by (is_d c) (is_ta c && has_space (map byte_in f)) (is_sr c && has_space (map byte_in f)) (is_m21 c && has_space (map byte_in f)) (length (parameter_in f) - 2)
      (amount_in (preset_in j (parameter_in f))) (threshold_in (typed_in j (parameter_in f))) (unit_of (unit_in (parameter_in f))) c t row.own_rule_lem in
      let both = (and-eq-true_iff (is_sr c) (has_space (map byte_in f))).0 by.0 in
      let is : c ≡ place_sr = eqb-true c place_sr both.0 in
      let right : is_threshold j (parameter_in f) ≡ true =
      not-false (is_threshold j (parameter_in f)) (neither_left (not (is_threshold j (parameter_in f))) false (rw (is, both.1) at row.right)) in
      let amount = threshold_by j.capacity (typed_in j (parameter_in f)) right in
      let same : (amount_in (typed_in j (parameter_in f))).0 ≡ t.0 = ap (λ (x : Threshold). x.0) by.1 in
      let typed : typed_in j (parameter_in f) ≡ Ok (record { 0 = t.0 }) = amount.0 ∙ ap (λ (x : Threshold). Ok (record { 0 = x.0 })) by.1 in
      let n : Numbered j.resolution.unit (parameter_in f) = numbered j.resolution.unit (parameter_in f) (amount_is_typed j.resolution.unit _ typed) in
      record {
        line = record { bytes = name_then (map byte_in f) b.a_name both.1 ∙ ap (λ (x : ℕ). name_of x ++ (space ∷ parameter_in f)) is; good = b.good };
        unit = n.unit;
        number = rw n.number at typed;
        typed = typed;
        least = rw same at amount.1;
        within = rw same at amount.2;
        free = row.free;
      }

  -- ---- M21 with a code

  pub select_line : {u : WeightUnit} → judgement_of j f ≡ Select u → SelectLine j f u
  unfolding own_rule is_wrong
  select_line {u} e =
      let row = last refl e in
      let b : Begins f = begins f row.known in
      let by = select_by (is_d c) (is_ta c && has_space (map byte_in f)) (is_sr c && has_space (map byte_in f)) (is_m21 c && has_space (map byte_in f))
      (length (parameter_in f) - 2) (amount_in (preset_in j (parameter_in f))) (threshold_in (typed_in j (parameter_in f))) (unit_of (unit_in (parameter_in f))) c u
      row.own_rule_lem in
      let both = (and-eq-true_iff (is_m21 c) (has_space (map byte_in f))).0 by.0 in
      let is : c ≡ place_m21 = eqb-true c place_m21 both.0 in
      let right : is_coded (unit_in (parameter_in f)) ≡ true = not-false (is_coded (unit_in (parameter_in f))) (rw (is, both.1) at row.right) in
      record {
        line = record { bytes = name_then (map byte_in f) b.a_name both.1 ∙ ap (λ (x : ℕ). name_of x ++ (space ∷ parameter_in f)) is; good = b.good };
        unit = coded_by (unit_in (parameter_in f)) right ∙ ap Some by.1;
        free = row.free;
      }

  -- ---- D with a text

  pub show_line : {n : ℕ} → judgement_of j f ≡ Show n → ShowLine j f n
  show_line {n} e =
      let row = last refl e in
      let b : Begins f = begins f row.known in
      let d : Showing c (map byte_in f) n = showing j c n (map byte_in f) row.right row.own_rule_lem in
      let text : GoodLine f (ascii "D " ++ parameter_in f) =
      record {
        bytes = name_then (map byte_in f) b.a_name d.spaced ∙ ap (λ (x : ℕ). name_of x ++ (space ∷ parameter_in f)) d.is;
        good = b.good;
      } in
      record {
        line = text;
        in_cells = b.in_cells;
        text = rw (text.bytes, sym d.count);
        shown = d.quotes.shown;
        count = d.quotes.count ∙ d.count;
        short = omega (arith, d.quotes.few, d.count);
        free = row.free;
      }

  -- ---- a command that is not carried out

  kept : {v : Verdict} → is_kept v ≡ true → judgement_of j f ≡ v
      → KeptLine f (kept_from v) × (kept_by v j.waiting wrong (needs_sample c && not j.sampled) ≡ true)
  unfolding judgement_of
  kept {v} k e =
      let row = rows_5_to_7 (any_faulty f) (ltb line_limit (length f) || has_control (map byte_in f) || leb (length names) c)
      (has_space (map byte_in f) && not (takes_parameters c)) (is_reset c) j.waiting wrong (needs_sample c && not j.sampled) c own v
      (own_is j c (map byte_in f)) k e in
      let b : Begins f = begins f row.known in (
        record {
          good = b.good;
          command = row.command;
          a_name = rw row.command at b.a_name;
          no_reset = rw row.command at (eqb-false c place_reset row.no_reset);
        },
        row.reason,
      )

  pub busy_line : {k : ℕ} → judgement_of j f ≡ Busy k → KeptLine f k × (j.waiting ≡ true)
  busy_line e = kept refl e

  pub wrong_line : {k : ℕ} → judgement_of j f ≡ Wrong k → KeptLine f k × (takes_parameters k ≡ true)
  unfolding is_wrong
  wrong_line e =
      let row = kept refl e in (
        row.0,
        rw row.0.command at (sym (parameters_are c) ∙ wrong_takes (is_d c) (is_sr c) (is_ta c) (is_m21 c) (not (has_space (map byte_in f) && is_quoted (parameter_in f)))
            (has_space (map byte_in f) && not (is_preset j (parameter_in f))) (has_space (map byte_in f) && not (is_threshold j (parameter_in f)))
            (has_space (map byte_in f) && not (is_coded (unit_in (parameter_in f)))) row.1),
      )

  pub no_sample_line : {k : ℕ} → judgement_of j f ≡ NoSample k → KeptLine f k × (needs_sample k ≡ true) × (j.sampled ≡ false)
  no_sample_line e =
      let row = kept refl e in
      let both = (and-eq-true_iff (needs_sample c) (not j.sampled)).0 row.1 in
      (row.0, rw row.0.command at both.0, not-true j.sampled both.1)

-- ---- the text that D shows, in the cells

-- it has at most 20 bytes, whatever the cells hold
pub show_short : (j : Situation) (l : Line) {n : ℕ} → judgement j l ≡ Show n → n ≤ 20
unfolding judgement
show_short j l {n} e =
    let c = command_in (content_of l) in
    let row =
    row_8 l.faulty (l.over || has_control (content_of l) || leb (length names) c) (has_space (content_of l) && not (takes_parameters c)) (is_reset c) j.waiting
    (is_wrong j c (content_of l)) (needs_sample c && not j.sampled) c (own_rule j c (content_of l)) (Show n) refl e in
    let d : Showing c (content_of l) n = showing j c n (content_of l) row.right row.own_rule_lem in
    omega (arith, d.quotes.few, d.count)

-- a part of the first k of a list is a part of the list
part_of_front : (n j k : ℕ) (xs : List ℕ) → n ≤ k - j → take n (drop j (take k xs)) ≡ take n (drop j xs)
part_of_front n zero k xs h = take-take n k xs (omega arith)
part_of_front n (suc j) zero xs h = let none : n ≡ 0 = omega arith in rw none
part_of_front n (suc j) (suc k) [] h = refl
part_of_front n (suc j) (suc k) (x ∷ xs) h = part_of_front n j k xs (omega arith)

pub show_cells : (j : Situation) (l : Line) (f : List Marked) (n : ℕ) → Holds l f → ShowLine j f n → Shown l n
show_cells j l f n held h =
    let count : length (take n (drop 3 (map byte_in f))) ≡ n = sym (ap length h.text) ∙ h.count in
    let room : n ≤ length f - 3 = omega (arith, count, length-take n (drop 3 (map byte_in f)), length-drop 3 (map byte_in f), length-map f byte_in) in
    let same : take n (drop 3 l.bytes) ≡ between_quotes (parameter_in f) =
    sym (part_of_front n 3 l.len l.bytes (omega (arith, held.len, h.short)))
    ∙ ap (λ (t : List ℕ). take n (drop 3 t)) held.content
    ∙ part_of_front n 3 line_limit (map byte_in f) (omega (arith, h.short))
    ∙ sym h.text
    in
    record {
      short = h.short;
      long = ap length same ∙ h.count;
      printable =
          ap is_printable same
          ∙ both_right (leb (length (between_quotes (parameter_in f))) 20) (is_printable (between_quotes (parameter_in f))) h.shown;
    }
