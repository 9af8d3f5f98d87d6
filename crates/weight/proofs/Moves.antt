-- Whether a net has moved is the threshold's test, where resolution and nets are such as a device can meet.
-- Assumes nothing.
use Prim.Native.Nat.{ℕ, ◌*◌, ◌^◌, ◌≤◌}
use mathlib.Core.Path.{◌≡◌}
use mathlib.Core.Bool.{Bool, true, false, ◌&&◌, and-false}
use native.Mathlib.Nat.{mul-le-mul}
use native.Mathlib.Omega.{arith}
use lib.IntN.{ℤ, nat_abs, ◌-ℤ◌}
use mir.Syntax.{w64}
use mir.Val.{Fits}
use Rattle.weight.specs.declared.rounding.Allowed.{Allowed}
use Rattle.weight.specs.declared.rounding.Micrograms.{Micrograms}
use Rattle.weight.specs.declared.rounding.Net.{Net}
use Rattle.weight.specs.declared.rounding.Resolution.{Resolution}
use Rattle.weight.specs.Changes.{reaches_threshold, has_moved}
use Rattle.weight.specs.Rounding.{allowed_resolution, in_range}
use Rattle.weight.proofs.Allowed.{allowed_decimals}
use Rattle.weight.proofs.Range.{scale_limit}

module _ (r : Resolution) (threshold : ℕ) (last net : ℤ) where
  pub move_unknown : (allowed_resolution r && in_range last && in_range net) ≡ false → false ≡ has_moved r threshold last net
  unfolding has_moved
  move_unknown e = rw e

  pub move_known : (allowed_resolution r && in_range last && in_range net) ≡ true
      → has_moved r threshold last net ≡ reaches_threshold r threshold last (nat_abs (net -ℤ last))
  unfolding has_moved
  move_known e = rw e

module _ (r : Resolution) (threshold : ℕ) (last net : Micrograms) where
  pub move_refused : allowed_resolution r ≡ false → false ≡ has_moved r threshold last.0 net.0
  move_refused e = move_unknown r threshold last.0 net.0 (rw e)

  pub last_far : in_range last.0 ≡ false → false ≡ has_moved r threshold last.0 net.0
  last_far e = move_unknown r threshold last.0 net.0 (rw (e, and-false (allowed_resolution r)))

  pub net_far : in_range net.0 ≡ false → false ≡ has_moved r threshold last.0 net.0
  net_far e = move_unknown r threshold last.0 net.0 (rw (e, and-false (allowed_resolution r && in_range last.0)))

  pub moved_by : (a : Allowed) (m n : Net) → a.resolution ≡ r → m.weight ≡ last → n.weight ≡ net → {b : Bool}
      → b ≡ reaches_threshold a.resolution threshold m.weight.0 (nat_abs (n.weight.0 -ℤ m.weight.0)) → b ≡ has_moved r threshold last.0 net.0
  moved_by a m n e f g reached =
      rw (move_known r threshold last.0 net.0 (rw (rw e at a.holds, rw f at m.near, rw g at n.near))) (rw (e, f, g) at reached)

-- the product of the test stays within a word
pub scaled_distance : (r : Resolution) (off : ℕ) → allowed_resolution r ≡ true → off ≤ 10_000_000_000 → off * (1000 * 10 ^ r.decimals) ≤ 10_000_000_000 * 1_000_000_000
scaled_distance r off h k = mul-le-mul k (scale_limit r.decimals (allowed_decimals r h))

pub distance_fits : (r : Resolution) (off : ℕ) {s : ℕ} → allowed_resolution r ≡ true → off ≤ 10_000_000_000 → s ≡ 1000 * 10 ^ r.decimals → Fits w64 (off * s)
distance_fits r off h k e = rw e (record { fits = omega (arith, scaled_distance r off h k) })
