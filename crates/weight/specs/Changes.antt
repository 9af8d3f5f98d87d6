-- Document 02, No. 1 (SR): whether a net differs from the last stable net sent by the threshold or more.
-- Assumes nothing.
use Rattle.std.specs.Prelude.{ℕ, ◌*◌, ◌^◌, Bool, cond, ◌&&◌, leb, ltb, ℤ, nat_abs, ◌-ℤ◌}
use Rattle.weight.specs.declared.rounding.Resolution.{Resolution}
use Rattle.weight.specs.Units.{nanograms_of}
use Rattle.weight.specs.Rounding.{allowed_resolution, in_range}

-- one eighth of the last net's size
abbrev pub is_eighth : ℤ → ℕ → Bool
is_eighth last off = leb (nat_abs last) (8 * off)

-- 30 display steps: off x 1,000 x 10^d >= 30 x k x unit
abbrev pub is_thirty_steps : Resolution → ℕ → Bool
is_thirty_steps r off = leb (30 * (r.step * nanograms_of r.unit)) (off * (1000 * 10 ^ r.decimals))

-- the set threshold, in micrograms; where none is set, which is 0, both of the above
abbrev pub reaches_threshold : Resolution → ℕ → ℤ → ℕ → Bool
reaches_threshold r threshold last off = cond (ltb threshold 1) (is_eighth last off && is_thirty_steps r off) (leb threshold off)

-- of a resolution and of nets that a device can meet
unfoldable pub has_moved : Resolution → ℕ → ℤ → ℤ → Bool
has_moved r threshold last net =
    (allowed_resolution r && in_range last && in_range net) && reaches_threshold r threshold last (nat_abs (net -ℤ last))
