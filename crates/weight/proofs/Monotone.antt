-- Rounding treats both signs alike and keeps the order.
-- Assumes nothing.
use Prim.Native.Nat.{ℕ, zero, suc, ◌*◌, ◌^◌, ◌≤◌}
use native.Mathlib.Nat.{mul-le-mul_right, zero-mul}
use native.Mathlib.Omega.{arith}
use mathlib.Core.Path.{◌≡◌, refl, ap, sym, ◌∙◌}
use mathlib.Core.Bool.{true, false≢true}
use borrow.Author.Tests.{leb-true, le-leb}
use lib.IntN.{ℤ, pos, negsuc, neg_ℤ, neg_ℤ-neg_ℤ, nat_abs, ◌*ℤ◌}
use lib.Signed.{le_z}
use Rattle.weight.specs.declared.rounding.Resolution.{Resolution}
use Rattle.weight.specs.Units.{nanograms_of}
use Rattle.weight.specs.Rounding.{half_up, round_away, steps_of, places_of}
use Rattle.weight.proofs.HalfUp.{half_up_zero, half_up_monotone}
use Rattle.weight.proofs.Nearness.{size_opposite, up, down, up_negated, down_negated, up_times, down_times, same_parts}

-- ---- natural numbers

-- m micrograms, not negative, in display steps
abbrev pub natural_steps : Resolution → ℕ → ℕ
natural_steps r m = half_up (m * (1000 * 10 ^ r.decimals)) (r.step * nanograms_of r.unit)

-- the same in last places
abbrev pub natural_places : Resolution → ℕ → ℕ
natural_places r m = natural_steps r m * r.step

-- no weight, no steps
pub natural_steps_zero : (r : Resolution) → natural_steps r 0 ≡ 0
natural_steps_zero r = rw (zero-mul, half_up_zero)

-- a larger weight gives no fewer steps
pub natural_steps_monotone : (r : Resolution) (a b : ℕ) → a ≤ b → natural_steps r a ≤ natural_steps r b
natural_steps_monotone r a b h = half_up_monotone _ _ _ (mul-le-mul_right (1000 * 10 ^ r.decimals) h)

-- nor a smaller printed number
pub natural_places_monotone : (r : Resolution) (a b : ℕ) → a ≤ b → natural_places r a ≤ natural_places r b
natural_places_monotone r a b h = mul-le-mul_right r.step (natural_steps_monotone r a b h)

-- ---- both signs alike

-- a product with a natural factor changes its sign with the other
pub times_odd : (a : ℤ) (k : ℕ) → neg_ℤ a *ℤ pos k ≡ neg_ℤ (a *ℤ pos k)
times_odd a k =
    same_parts
    (neg_ℤ a *ℤ pos k)
    (neg_ℤ (a *ℤ pos k))
    (omega (
      arith,
      up_times (neg_ℤ a) k,
      down_times (neg_ℤ a) k,
      up_negated (a *ℤ pos k),
      down_negated (a *ℤ pos k),
      up_times a k,
      down_times a k,
      ap (λ (x : ℕ). x * k) (up_negated a),
      ap (λ (x : ℕ). x * k) (down_negated a),
    ))

-- a weight that is not negative is rounded once, as a natural number
pub steps_of_pos : (r : Resolution) (m : ℕ) → steps_of r (pos m) ≡ pos (natural_steps r m)
unfolding steps_of round_away
steps_of_pos r m = refl

-- its last places
pub places_of_pos : (r : Resolution) (m : ℕ) → places_of r (pos m) ≡ pos (natural_places r m)
unfolding places_of steps_of round_away
places_of_pos r m = refl

-- a tie goes away from zero on both sides
round_odd : (a : ℤ) (n : ℕ) → round_away (neg_ℤ a) n ≡ neg_ℤ (round_away a n)
unfolding round_away
round_odd (pos zero) n = rw half_up_zero
round_odd (pos (suc a)) n = refl
round_odd (negsuc a) n = sym (neg_ℤ-neg_ℤ (pos (half_up (suc a) n)))

-- the display steps of a weight below zero are those of the weight above it, negated
pub steps_odd : (r : Resolution) (net : ℤ) → steps_of r (neg_ℤ net) ≡ neg_ℤ (steps_of r net)
unfolding steps_of
steps_odd r net =
    ap (λ (z : ℤ). round_away z (r.step * nanograms_of r.unit)) (times_odd net (1000 * 10 ^ r.decimals))
    ∙ round_odd (net *ℤ pos (1000 * 10 ^ r.decimals)) (r.step * nanograms_of r.unit)

-- and so is the printed number
pub places_odd : (r : Resolution) (net : ℤ) → places_of r (neg_ℤ net) ≡ neg_ℤ (places_of r net)
unfolding places_of
places_odd r net = ap (λ (z : ℤ). z *ℤ pos r.step) (steps_odd r net) ∙ times_odd (steps_of r net) r.step

-- one that is negated is rounded as what it negates
pub steps_of_negated : (r : Resolution) (m : ℕ) → steps_of r (neg_ℤ (pos m)) ≡ neg_ℤ (pos (natural_steps r m))
steps_of_negated r m = steps_odd r (pos m) ∙ ap neg_ℤ (steps_of_pos r m)

-- its last places
pub places_of_negated : (r : Resolution) (m : ℕ) → places_of r (neg_ℤ (pos m)) ≡ neg_ℤ (pos (natural_places r m))
places_of_negated r m = places_odd r (pos m) ∙ ap neg_ℤ (places_of_pos r m)

-- and a negative one as its amount
pub steps_of_negsuc : (r : Resolution) (m : ℕ) → steps_of r (negsuc m) ≡ neg_ℤ (pos (natural_steps r (suc m)))
steps_of_negsuc r m = steps_of_negated r (suc m)

-- its last places
pub places_of_negsuc : (r : Resolution) (m : ℕ) → places_of r (negsuc m) ≡ neg_ℤ (pos (natural_places r (suc m)))
places_of_negsuc r m = places_of_negated r (suc m)

-- ---- amounts

-- the amount of the printed number is that of the printed amount
pub places_amount : (r : Resolution) (net : ℤ) → nat_abs (places_of r net) ≡ natural_places r (nat_abs net)
places_amount r (pos m) = ap nat_abs (places_of_pos r m)
places_amount r (negsuc m) = ap nat_abs (places_of_negsuc r m) ∙ size_opposite (natural_places r (suc m))

-- ---- the order

-- a number not above another has no more above zero
order_up : (a b : ℤ) → le_z a b ≡ true → up a ≤ up b
unfolding up down
order_up (pos a) (pos b) h = leb-true a b h
order_up (pos a) (negsuc b) h = absurd (false≢true h)
order_up (negsuc a) (pos b) h = omega arith
order_up (negsuc a) (negsuc b) h = omega arith

-- and no less below it
order_down : (a b : ℤ) → le_z a b ≡ true → down b ≤ down a
unfolding up down
order_down (pos a) (pos b) h = omega arith
order_down (pos a) (negsuc b) h = absurd (false≢true h)
order_down (negsuc a) (pos b) h = omega arith
order_down (negsuc a) (negsuc b) h = omega (arith, leb-true b a h)

-- which decides the order
order_of_parts : (a b : ℤ) → up a ≤ up b → down b ≤ down a → le_z a b ≡ true
unfolding up down
order_of_parts (pos a) (pos b) above below = le-leb a b above
order_of_parts (pos a) (negsuc b) above below = absurd (omega arith)
order_of_parts (negsuc a) (pos b) above below = refl
order_of_parts (negsuc a) (negsuc b) above below = le-leb b a (omega arith)

-- a natural factor keeps the order
times_monotone : (a b : ℤ) (k : ℕ) → le_z a b ≡ true → le_z (a *ℤ pos k) (b *ℤ pos k) ≡ true
times_monotone a b k h =
    order_of_parts
    (a *ℤ pos k)
    (b *ℤ pos k)
    (rw (up_times a k, up_times b k) (mul-le-mul_right k (order_up a b h)))
    (rw (down_times a k, down_times b k) (mul-le-mul_right k (order_down a b h)))

-- the parts of the rounded weight are the rounded parts
up_steps : (r : Resolution) (net : ℤ) → up (steps_of r net) ≡ natural_steps r (up net)
unfolding up down
up_steps r (pos m) = ap up (steps_of_pos r m)
up_steps r (negsuc m) =
    ap up (steps_of_negsuc r m) ∙ up_negated (pos (natural_steps r (suc m))) ∙ sym (natural_steps_zero r)

-- also below zero
down_steps : (r : Resolution) (net : ℤ) → down (steps_of r net) ≡ natural_steps r (down net)
unfolding up down
down_steps r (pos m) = ap down (steps_of_pos r m) ∙ sym (natural_steps_zero r)
down_steps r (negsuc m) = ap down (steps_of_negsuc r m) ∙ down_negated (pos (natural_steps r (suc m)))

-- a weight that is not above another gives steps that are not above the other's
pub steps_monotone : (r : Resolution) (a b : ℤ) → le_z a b ≡ true → le_z (steps_of r a) (steps_of r b) ≡ true
steps_monotone r a b h =
    order_of_parts
    (steps_of r a)
    (steps_of r b)
    (rw (up_steps r a, up_steps r b) (natural_steps_monotone r (up a) (up b) (order_up a b h)))
    (rw (down_steps r a, down_steps r b) (natural_steps_monotone r (down b) (down a) (order_down a b h)))

-- nor is its printed number above the other's
pub places_monotone : (r : Resolution) (a b : ℤ) → le_z a b ≡ true → le_z (places_of r a) (places_of r b) ≡ true
unfolding places_of
places_monotone r a b h = times_monotone (steps_of r a) (steps_of r b) r.step (steps_monotone r a b h)
