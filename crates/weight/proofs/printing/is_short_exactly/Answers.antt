use Prim.Native.Nat.{◌*◌, ◌≤◌}
use native.Mathlib.Nat.{mul-le-mul}
use native.Mathlib.Omega.{arith}
use borrow.Author.Rules.{rules}
use mir.Facts.{Fits-lt-pow}
use mir.Syntax.{w8}
use mir.Val.{Fits}
use Rattle.weight.proofs.Allowed.{few_decimals}
use Rattle.weight.proofs.Range.{size_scaled, scaled_size_fits}
use Rattle.weight.proofs.printing.is_short_exactly.Goals as goal

scaled_at : (c : goal.After-divisor_of-divisor) → c.args.size * c.scale_of-scale.result ≤ 4_294_967_295 * 1_000_000_000
scaled_at c = size_scaled c.args.resolution.decimals (Fits-lt-pow c.ranges.size) c.requires.decimals_bound c.scale_of-scale.ensures

steps_at : (c : goal.After-divisor_of-divisor) → c.args.steps * c.divisor_of-divisor.result ≤ 10 * (255 * 1_555_173_840)
steps_at c =
    let step : Fits w8 c.args.resolution.step = search rules in
    let most : c.args.resolution.step ≤ 255 = omega (arith, Fits-lt-pow step) in
    let divisor : c.divisor_of-divisor.result ≤ 255 * 1_555_173_840 = rw c.divisor_of-divisor.ensures (mul-le-mul most c.requires.unit_bound) in
    mul-le-mul c.requires.steps_bound divisor

pub overflow_mul-twice : goal.overflow_mul-twice
overflow_mul-twice c = search (rules, scaled_size_fits)

pub overflow_mul-twice-2 : goal.overflow_mul-twice-2
overflow_mul-twice-2 c = record { fits = omega (arith, scaled_at c) }

pub overflow_add-twice : goal.overflow_add-twice
overflow_add-twice c = record { fits = omega (arith, scaled_at c, steps_at c) }

pub returns : goal.returns
returns c = rw (c.is_step_allowed.ensures, c.scale_of-scale.ensures, c.divisor_of-divisor.ensures, c.nanograms_of-limit.ensures, ← few_decimals c.args.resolution c.requires.decimals_bound)
