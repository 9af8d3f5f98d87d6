-- The rest case of a match on a number.
-- Assumes nothing.
use mathlib.Core.Path.{◌≡◌, sym}
use mathlib.Core.Logic.{⊎_elim}
use Prim.Native.Nat.{ℕ, zero, suc, ◌≤◌, zero-le}
use native.Mathlib.Nat.{eq-or-lt_of_le}

-- c is none of the first n numbers
abbrev pub NoneOf : ℕ → ℕ → Type 0
NoneOf zero c = Unit
NoneOf (suc n) c = NoneOf n c × (c ≡ n → ⊥)

-- then it is n or more
pub none_of : (n c : ℕ) → NoneOf n c → n ≤ c
none_of zero c p = zero-le
none_of (suc n) c p = ⊎_elim (λ e. absurd (p.1 (sym e))) (λ h. h) (eq-or-lt_of_le (none_of n c p.0))
