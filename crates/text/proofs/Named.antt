-- A unit's text and its code read back are that unit, and no other text is read.
-- Assumes nothing.
use mathlib.Core.Path.{◌≡◌, refl, ap, ap₂, ◌∙◌}
use mathlib.Core.Bool.{Bool, true, false, cond}
use mathlib.Core.List.{List, [], ◌∷◌}
use Prim.Native.Nat.{ℕ, ◌≤◌}
use native.Mathlib.Omega.{arith}
use borrow.Author.Tests.{eq-eqb, eqb-true}
use lib.Dec.{eqb}
use lib.ListN.{length}
use Rattle.weight.specs.declared.units.WeightUnit.{WeightUnit}
use Rattle.weight.specs.declared.units.WeightUnit.TheVariants.{G, Mg, Ct, Oz, Ozt, Gn, Dwt, Kg, Lb}
use Rattle.std.specs.Prelude.{Option, Some}
use Rattle.std.specs.List.{find}
use Rattle.weight.specs.Units.{all_units}
use Rattle.text.specs.Ascii.{same_text}
use Rattle.text.specs.UnitTexts.{unit_text, unit_code, unit_mark, first_marked, unit_named, unit_coded}
use Rattle.weight.proofs.Allowed.{both_left, both_right}

-- no unit is over three characters
pub unit_short : (u : WeightUnit) → length (unit_text u) ≤ 3
unit_short G = omega arith
unit_short Mg = omega arith
unit_short Ct = omega arith
unit_short Oz = omega arith
unit_short Ozt = omega arith
unit_short Gn = omega arith
unit_short Dwt = omega arith
unit_short Kg = omega arith
unit_short Lb = omega arith

pub code_short : (u : WeightUnit) → length (unit_code u) ≤ 3
code_short G = omega arith
code_short Mg = omega arith
code_short Ct = omega arith
code_short Oz = omega arith
code_short Ozt = omega arith
code_short Gn = omega arith
code_short Dwt = omega arith
code_short Kg = omega arith
code_short Lb = omega arith

-- the search among the units
pub found_first : (coded : Bool) (t : List ℕ) (us : List WeightUnit) → find (λ u. same_text t (unit_mark coded u)) us ≡ first_marked coded t us
unfolding first_marked
found_first coded t [] = refl
found_first coded t (u ∷ us) = ap (λ (r : Option WeightUnit). cond (same_text t (unit_mark coded u)) (Some u) r) (found_first coded t us)

-- ---- what callers use

pub same_is : (a b : List ℕ) → same_text a b ≡ true → a ≡ b
same_is [] [] e = refl
same_is [] (y ∷ b) e = let z : ◌≡◌ {A = ℕ} 0 1 = cc in absurd (omega arith)
same_is (x ∷ a) [] e = let z : ◌≡◌ {A = ℕ} 0 1 = cc in absurd (omega arith)
same_is (x ∷ a) (y ∷ b) e =
    ap₂ ◌∷◌ (eqb-true x y (both_left (eqb x y) (same_text a b) e)) (same_is a b (both_right (eqb x y) (same_text a b) e))

pub same_self : (t : List ℕ) → same_text t t ≡ true
same_self [] = refl
same_self (c ∷ t) = rw (eq-eqb c c refl) (same_self t)

-- a unit's text is read as that unit, and so is its code
pub unit_read_back : (u : WeightUnit) → unit_named (unit_text u) ≡ Some u
unfolding unit_named first_marked
unit_read_back G = refl
unit_read_back Mg = refl
unit_read_back Ct = refl
unit_read_back Oz = refl
unit_read_back Ozt = refl
unit_read_back Gn = refl
unit_read_back Dwt = refl
unit_read_back Kg = refl
unit_read_back Lb = refl

pub code_read_back : (u : WeightUnit) → unit_coded (unit_code u) ≡ Some u
unfolding unit_coded first_marked
code_read_back G = refl
code_read_back Mg = refl
code_read_back Ct = refl
code_read_back Oz = refl
code_read_back Ozt = refl
code_read_back Gn = refl
code_read_back Dwt = refl
code_read_back Kg = refl
code_read_back Lb = refl

-- by the test of the first unit, and else by those after it
first_by : (coded b : Bool) (t : List ℕ) (v u : WeightUnit) (rest : Option WeightUnit) → same_text t (unit_mark coded v) ≡ b
    → (rest ≡ Some u → t ≡ unit_mark coded u) → cond b (Some v) rest ≡ Some u → t ≡ unit_mark coded u
first_by coded true t v u rest s later e =
    let same : v ≡ u = cc in
    same_is t (unit_mark coded v) s ∙ ap (unit_mark coded) same
first_by coded false t v u rest s later e = later e

first_is : (coded : Bool) (t : List ℕ) (us : List WeightUnit) (u : WeightUnit) → first_marked coded t us ≡ Some u → t ≡ unit_mark coded u
unfolding first_marked
first_is coded t [] u e = let z : ◌≡◌ {A = ℕ} 0 1 = cc in absurd (omega arith)
first_is coded t (v ∷ us) u e =
    first_by coded (same_text t (unit_mark coded v)) t v u (first_marked coded t us) refl (first_is coded t us u) e

-- only a unit's own text is read as it, and only its own code
pub unit_write_back : (t : List ℕ) (u : WeightUnit) → unit_named t ≡ Some u → t ≡ unit_text u
unfolding unit_named
unit_write_back t u e = first_is false t all_units u e

pub code_write_back : (t : List ℕ) (u : WeightUnit) → unit_coded t ≡ Some u → t ≡ unit_code u
unfolding unit_coded
code_write_back t u e = first_is true t all_units u e
