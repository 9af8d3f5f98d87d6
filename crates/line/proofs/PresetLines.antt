-- A good line TA number unit is judged to set the tare that is read of its number.
-- Assumes nothing.
use Prim.Native.Nat.{ℕ, suc, ◌≤◌}
use native.Mathlib.Omega.{arith}
use mathlib.Core.Path.{◌≡◌, refl, sym, ap, ◌∙◌}
use mathlib.Core.Bool.{true, false}
use Rattle.std.proofs.Common.{Ok}
use mathlib.Core.List.{List, [], ◌∷◌, ◌++◌}
use borrow.Author.Tests.{le-leb, le-ltb, leb-true, ne_eqb}
use lib.Dec.{leb, ltb}
use lib.ListN.{length, length-append, length-map}
use Rattle.answer.specs.Commands.{place_in, place_of}
use Rattle.line.specs.declared.judge.Situation.{Situation}
use Rattle.line.specs.declared.judge.Verdict.TheVariants.{Preset}
use Rattle.line.specs.Judging.{has_control, command_in, number_in, preset_from, preset_in, is_wrong, own_rule}
use Rattle.line.specs.Receiving.{line_limit}
use Rattle.line.specs.Unbounded.{Marked, byte_in, judgement_of}
use Rattle.text.specs.Ascii.{ascii}
use Rattle.text.specs.Reading.{is_decimal}
use Rattle.text.specs.Searching.{before_space, after_space, has_space}
use Rattle.text.specs.Typed.{is_typed}
use Rattle.text.specs.UnitTexts.{unit_text}
use Rattle.text.proofs.DecimalText.{decimal_bytes}
use Rattle.text.proofs.Named.{same_self}
use Rattle.text.proofs.TypedText.{typed_decimal}
use Rattle.weight.specs.declared.amount.Tare.{Tare}
use Rattle.weight.specs.declared.units.WeightUnit.{WeightUnit}
use Rattle.weight.specs.declared.units.WeightUnit.TheVariants.{G, Mg, Ct, Oz, Ozt, Gn, Dwt, Kg, Lb}
use Rattle.weight.specs.Characters.{space}
use Rattle.weight.proofs.Allowed.{both_left}
use Rattle.line.proofs.Verdicts.{GoodLine}

-- ---- a number, a space and a unit

-- a text is found before a space and what follows it, if it has none itself, and has a byte below 32 only where one of both has
record Apart (x w : List ℕ) : Type 0 where
  before : before_space (x ++ (space ∷ w)) ≡ x
  after : after_space (x ++ (space ∷ w)) ≡ w
  has : has_space (x ++ (space ∷ w)) ≡ true
  control : has_control (x ++ (space ∷ w)) ≡ has_control w

-- the number before it is a decimal, which has neither
apart : (w x : List ℕ) → is_decimal x ≡ true → Apart x w
apart w = decimal_bytes (λ (x : List ℕ). Apart x w) none next
  where
    none : Apart [] w
    none = record { before = refl; after = refl; has = refl; control = refl }

    next : (c : ℕ) (x : List ℕ) → 46 ≤ c → c ≤ 57 → Apart x w → Apart (c ∷ x) w
    next c x h k a =
        let no_space = ne_eqb c space (λ e. omega arith) in
        record {
          before = rw (no_space, a.before);
          after = rw (no_space, a.after);
          has = rw (no_space, a.has);
          control = rw (le-ltb c 32 (omega arith), a.control);
        }

record UnitBytes (w : List ℕ) : Type 0 where
  few : length w ≤ 3
  plain : has_control w ≡ false

unit_bytes : (u : WeightUnit) → UnitBytes (unit_text u)
unit_bytes G = record { few = omega arith; plain = refl }
unit_bytes Mg = record { few = omega arith; plain = refl }
unit_bytes Ct = record { few = omega arith; plain = refl }
unit_bytes Oz = record { few = omega arith; plain = refl }
unit_bytes Ozt = record { few = omega arith; plain = refl }
unit_bytes Gn = record { few = omega arith; plain = refl }
unit_bytes Dwt = record { few = omega arith; plain = refl }
unit_bytes Kg = record { few = omega arith; plain = refl }
unit_bytes Lb = record { few = omega arith; plain = refl }

number_found : (u : WeightUnit) (x : List ℕ) → Apart x (unit_text u) → number_in u (x ++ (space ∷ unit_text u)) ≡ x
unfolding number_in
number_found u x a = rw (a.has, a.after, same_self (unit_text u)) a.before

-- ---- the line

module _ (j : Situation) (f : List Marked) (x : List ℕ) where
  abbrev unit : List ℕ
  unit = unit_text j.resolution.unit

  -- it is short enough
  short_line : GoodLine f (ascii "TA " ++ (x ++ (space ∷ unit))) → length x ≤ 10 → ltb line_limit (length f) ≡ false
  short_line g few =
      let long : length f ≡ suc (suc (suc (length (x ++ (space ∷ unit))))) = sym (length-map f byte_in) ∙ ap length g.bytes in
      le-ltb line_limit (length f) (omega (arith, long, length-append x (space ∷ unit), (unit_bytes j.resolution.unit).few))

  pub preset_judged
      : {m : Tare}
      → GoodLine f (ascii "TA " ++ (x ++ (space ∷ unit)))
      → is_typed x ≡ true
      → preset_from j x ≡ Ok m
      → m.0 ≤ j.capacity
      → j.waiting ≡ false
      → judgement_of j f ≡ Preset m
  unfolding judgement_of command_in place_of place_in is_wrong own_rule preset_in is_typed
  preset_judged {m} g typed read within free =
      let few : length x ≤ 10 = leb-true (length x) 10 (both_left (leb (length x) 10) (is_decimal x) typed) in
      let a : Apart x unit = apart unit x (typed_decimal x typed) in
      rw (
        short_line g few,
        g.good,
        g.bytes,
        a.control,
        (unit_bytes j.resolution.unit).plain,
        free,
        number_found j.resolution.unit x a,
        read,
        le-leb m.0 j.capacity within,
      )
