-- Buffers filled by two seeds differ in every byte.
-- Assumes nothing.
use mathlib.Core.Path.{◌≡◌}
use Prim.Native.Nat.{ℕ, ◌<◌}
use native.Mathlib.Omega.{arith}
use Rattle.lent.specs.Patterns.{cell_at}

pub one_seed : (s t i : ℕ) → s < 256 → t < 256 → cell_at s i ≡ cell_at t i → s ≡ t
one_seed s t i h k e = omega (arith, h, k, e)
