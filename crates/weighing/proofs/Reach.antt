-- A gross that is neither over a limit nor under zero has no sign; a net of a gross that S does not refuse lies in its range.
-- Assumes nothing.
use Prim.Native.Nat.{ℕ, ◌+◌, ◌≤◌}
use native.Mathlib.Omega.{arith}
use mathlib.Core.Path.{◌≡◌, refl, sym, ◌∙◌}
use mathlib.Core.Bool.{Bool, true, false, true≢false, false≢true}
use borrow.Author.Tests.{leb-true, le-leb, ltb-false}
use lib.IntN.{ℤ, pos, negsuc, neg_ℤ, nat_abs, ◌-ℤ◌}
use lib.Signed.{le_z, lt_z, non_neg}
use Rattle.model.specs.declared.profile.Profile.{Profile}
use Rattle.weight.proofs.Nearness.{up, down, up_pos, down_pos, up_negated, down_negated, difference_parts}

-- ---- a gross

-- a weight between zero and a limit
pub between : (z : ℤ) (limit : ℕ) → lt_z (pos limit) z ≡ false → lt_z z (pos 0) ≡ false → (pos (nat_abs z) ≡ z) × (nat_abs z ≤ limit)
between (pos n) limit over under = (refl, ltb-false limit n over)
between (negsuc n) limit over under = absurd (true≢false under)

-- a weight that is not under zero
pub not_negative : (z : ℤ) {under : Bool} → under ≡ lt_z z (pos 0) → under ≡ false → non_neg z ≡ true
not_negative (pos n) e h = refl
not_negative (negsuc n) e h = absurd (true≢false (sym e ∙ h))

-- ---- the order of whole numbers

-- at most, by their parts
pub le_parts : (a b : ℤ) → le_z a b ≡ true → up a + down b ≤ down a + up b
unfolding up down
le_parts (pos a) (pos b) e = omega (arith, leb-true a b e)
le_parts (pos a) (negsuc b) e = absurd (false≢true e)
le_parts (negsuc a) (pos b) e = omega arith
le_parts (negsuc a) (negsuc b) e = omega (arith, leb-true b a e)

-- and back
pub parts_le : (a b : ℤ) → up a + down b ≤ down a + up b → le_z a b ≡ true
unfolding up down
parts_le (pos a) (pos b) h = le-leb a b (omega arith)
parts_le (pos a) (negsuc b) h = absurd (omega arith)
parts_le (negsuc a) (pos b) h = refl
parts_le (negsuc a) (negsuc b) h = le-leb b a (omega arith)

-- what is not below is at least as large
pub not_below : (a b : ℤ) → lt_z a b ≡ false → le_z b a ≡ true
not_below (pos a) (pos b) e = le-leb b a (ltb-false a b e)
not_below (pos a) (negsuc b) e = refl
not_below (negsuc a) (pos b) e = absurd (true≢false e)
not_below (negsuc a) (negsuc b) e = le-leb a b (ltb-false b a e)

-- ---- a net

-- a net of a gross that S does not refuse, with a tare in its range, lies in -(U+C)..C
pub net_within
    : (p : Profile) (gross : ℤ) (tare : ℕ)
    → lt_z (pos p.capacity) gross ≡ false
    → lt_z gross (neg_ℤ (pos p.underload)) ≡ false
    → tare ≤ p.capacity
    → (le_z (neg_ℤ (pos (p.underload + p.capacity))) (gross -ℤ pos tare) ≡ true) × (le_z (gross -ℤ pos tare) (pos p.capacity) ≡ true)
net_within p gross tare over under range =
    let lowest = p.underload + p.capacity in (
      parts_le (neg_ℤ (pos lowest)) (gross -ℤ pos tare)
          (omega (
            arith,
            le_parts (neg_ℤ (pos p.underload)) gross (not_below gross (neg_ℤ (pos p.underload)) under),
            difference_parts gross (pos tare),
            up_pos tare,
            down_pos tare,
            up_negated (pos lowest),
            down_negated (pos lowest),
            up_pos lowest,
            down_pos lowest,
            up_negated (pos p.underload),
            down_negated (pos p.underload),
            up_pos p.underload,
            down_pos p.underload,
            up_pos p.capacity,
            down_pos p.capacity,
          )),
      parts_le (gross -ℤ pos tare) (pos p.capacity)
          (omega (
            arith,
            le_parts gross (pos p.capacity) (not_below (pos p.capacity) gross over),
            difference_parts gross (pos tare),
            up_pos tare,
            down_pos tare,
            up_pos p.capacity,
            down_pos p.capacity,
          )),
    )
