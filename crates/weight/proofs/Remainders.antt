-- What the product of quotient and divisor leaves is the remainder, so that no second division is asked for it.
-- Assumes nothing.
use mathlib.Core.Path.{◌≡◌, refl, sym, ap, ◌∙◌}
use Prim.Native.Nat.{ℕ, zero, suc, ◌*◌, ◌/◌, ◌%◌}
use native.Mathlib.Nat.{div-add-mod', zero-mul}
use native.Mathlib.Omega.{arith}
use lib.IntN.{ℤ, pos, negsuc, neg_ℤ, ◌-ℤ◌, ◌*ℤ◌, +ℤ-neg_ℤ_cancel, neg_ℤ-+ℤ}
use lib.Signed.{quot_z, rem_z}

-- a minus goes through a product
opposite_times : (q d : ℕ) → neg_ℤ (pos q) *ℤ pos d ≡ neg_ℤ (pos (q * d))
opposite_times zero d = rw (zero-mul d)
opposite_times (suc q) d = refl

size_leaves : (m d : ℕ) → pos m -ℤ pos (m / d * d) ≡ pos (m % d)
size_leaves m d = ap (λ (k : ℕ). pos k -ℤ pos (m / d * d)) (omega (arith, div-add-mod' m d)) ∙ +ℤ-neg_ℤ_cancel (pos (m % d)) (pos (m / d * d))

product_leaves : (n : ℤ) (d : ℕ) → n -ℤ quot_z n (pos d) *ℤ pos d ≡ rem_z n (pos d)
product_leaves (pos a) d = size_leaves a d
product_leaves (negsuc a) d =
    rw (opposite_times (suc a / d) d)
    (sym (neg_ℤ-+ℤ (pos (suc a)) (neg_ℤ (pos (suc a / d * d)))) ∙ ap neg_ℤ (size_leaves (suc a) d))
