-- Document 01, "The profile" (decimals, step, the least step) and "Weights" (the printed number), and the femtograms in
-- which "The tally of demand 3" compares.
-- Assumes nothing.
use Rattle.std.specs.Prelude.{ℕ, suc, ◌+◌, ◌-◌, ◌*◌, ◌/◌, ◌^◌, ◌≤◌, Bool, ◌&&◌, ◌||◌, leb, eqb, ℤ, pos, negsuc, neg_ℤ, nat_abs, ◌-ℤ◌, ◌*ℤ◌}
use Rattle.weight.specs.declared.rounding.Resolution.{Resolution}
use Rattle.weight.specs.Units.{nanograms_of}

-- decimals 0 to 6; step 1, 2 or 5 in the last place; k x unit >= 1,000 x 10^d
unfoldable pub allowed_resolution : Resolution → Bool
allowed_resolution r =
    leb r.decimals 6
    && (eqb r.step 1 || eqb r.step 2 || eqb r.step 5)
    && leb (1000 * 10 ^ r.decimals) (r.step * nanograms_of r.unit)

-- m / n to the nearest whole number, a tie upwards
unfoldable pub half_up : ℕ → ℕ → ℕ
half_up m n = (2 * m + n) / (2 * n)

-- the same for a signed number, a tie away from zero
unfoldable pub round_away : ℤ → ℕ → ℤ
round_away (pos m) n = pos (half_up m n)
round_away (negsuc m) n = neg_ℤ (pos (half_up (suc m) n))

-- a net weight in micrograms, in display steps: net x 1,000 x 10^d / (k x unit), rounded once
unfoldable pub steps_of : Resolution → ℤ → ℤ
steps_of r net = round_away (net *ℤ pos (1000 * 10 ^ r.decimals)) (r.step * nanograms_of r.unit)

-- the printed number, in last places: the nearest multiple of k
unfoldable pub places_of : Resolution → ℤ → ℤ
places_of r net = steps_of r net *ℤ pos r.step

-- the nets that are rounded: more than any load, zero and tare can give (2^31 + 2 x 10^9 micrograms)
abbrev pub net_limit : ℕ
net_limit = 5_000_000_000

abbrev pub in_range : ℤ → Bool
in_range net = leb (nat_abs net) net_limit

-- ---- in femtograms, 10^9 to a microgram: whole numbers for every unit with up to 6 decimals

-- one in the last place, unit / 10^d
unfoldable pub place_femtograms : Resolution → ℕ
place_femtograms r = nanograms_of r.unit * 10 ^ (6 - r.decimals)

-- a display step, k x unit / 10^d
unfoldable pub step_femtograms : Resolution → ℕ
step_femtograms r = r.step * place_femtograms r

-- a printed number of last places
unfoldable pub printed_femtograms : Resolution → ℤ → ℤ
printed_femtograms r n = n *ℤ pos (place_femtograms r)

-- a weight in micrograms
unfoldable pub exact_femtograms : ℤ → ℤ
exact_femtograms net = net *ℤ pos 1_000_000_000

-- the difference, doubled, is at most n: the comparison of demand 3
unfoldable pub Near : ℕ → ℤ → ℤ → Type 0
Near n a b = 2 * nat_abs (a -ℤ b) ≤ n
