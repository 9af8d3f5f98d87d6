-- A value that is there if a test holds.
-- Assumes nothing.
use mathlib.Core.Path.{◌≡◌, refl}
use mathlib.Core.Bool.{Bool, true, false, cond}
use Prim.Native.Nat.{ℕ}
use native.Mathlib.Omega.{arith}
use Rattle.std.specs.Prelude.{Option, Some, None}

-- it is not there: the test fails
pub none_of : {A : Type 0} (b : Bool) (x : A) → cond b (Some x) None ≡ None → b ≡ false
none_of true x e = let z : ◌≡◌ {A = ℕ} 0 1 = cc in absurd (omega arith)
none_of false x e = refl

-- it is there: the test holds, whatever it was a test of
pub taken : {A : Type 0} (b : Bool) (x : Option A) {v : A} → cond b x None ≡ Some v → (b ≡ true) × (x ≡ Some v)
taken true x e = (refl, e)
taken false x e = let z : ◌≡◌ {A = ℕ} 0 1 = cc in absurd (omega arith)

same_value : {A : Type 0} {x y : A} → Some x ≡ Some y → x ≡ y
same_value e = cc

pub some_of : {A : Type 0} (b : Bool) (x : A) {v : A} → cond b (Some x) None ≡ Some v → (b ≡ true) × (x ≡ v)
some_of b x e = let k = taken b (Some x) e in (k.0, same_value k.1)
